use native.Mathlib.Omega.{arith}
use Rattle.reply_parts.proofs.Fronts.{front_length}
use Rattle.reply_parts.proofs.front.front_len.Goals as goal

pub returns : goal.returns
returns c =
    let m = c.member_len-head.ensures in
    let k = c.scalar_len-code.ensures in
    let h = c.head_len-response.ensures in
    let v = c.scalar_len-command.ensures in
    let i = c.inner_len-inner.ensures in
    let e = front_length c.args.front in
    (omega (arith, m.0, k.0, rw i.0 at h.0, v.0, e), omega (arith, m.1, k.1, h.1, v.1))
