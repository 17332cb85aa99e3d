use native.Mathlib.Omega.{arith}
use Rattle.reply_parts.specs.Front.{inner_length}
use Rattle.reply_parts.proofs.front.inner_len.Goals as goal

pub returns : goal.returns
unfolding inner_length
returns c =
    let a = c.member_len-head.ensures in
    let b = c.scalar_len-code.ensures in
    (omega (arith, a.0, b.0), omega (arith, a.1, b.1, c.requires.body))
