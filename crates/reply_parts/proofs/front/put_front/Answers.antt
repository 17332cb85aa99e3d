use native.Mathlib.Omega.{arith}
use Prim.Native.Nat.{ℕ}
use mathlib.Core.Path.{ap}
use lib.ListN.{length}
use Rattle.proto_writer.specs.Writer.{head_bytes}
use Rattle.proto_schema.specs.Schema.{response_field}
use Rattle.reply_parts.proofs.Fronts.{front_length, front-put}
use borrow.Author.Rules.{rules}
use Rattle.reply_parts.proofs.front.put_front.Goals as goal

pub put_scalar-second-requires : goal.put_scalar-second-requires
put_scalar-second-requires c =
    (search rules, omega (arith, front_length c.args.front, c.requires.1))

pub put_head-third-requires : goal.put_head-third-requires
put_head-third-requires c =
    (search rules, rw c.inner_len-inner.ensures.0 (omega (arith, front_length c.args.front, c.requires.1, c.put_scalar-second.ensures.place, c.put_scalar-second.auto.out)))

pub put_scalar-fourth-requires : goal.put_scalar-fourth-requires
put_scalar-fourth-requires c =
    let i = ap (λ (n : ℕ). length (head_bytes response_field n)) c.inner_len-inner.ensures.0 in
    (search rules, omega (arith, front_length c.args.front, c.requires.1, c.put_scalar-second.ensures.place, c.put_scalar-second.auto.out, c.put_head-third.ensures.place, c.put_head-third.auto.out, i))

pub put_member-requires : goal.put_member-requires
put_member-requires c =
    let i = ap (λ (n : ℕ). length (head_bytes response_field n)) c.inner_len-inner.ensures.0 in
    (c.requires.0.member, omega (arith, front_length c.args.front, c.requires.1, c.put_scalar-second.ensures.place, c.put_scalar-second.auto.out, c.put_head-third.ensures.place, c.put_head-third.auto.out, c.put_scalar-fourth.ensures.place, c.put_scalar-fourth.auto.out, i))

pub returns : goal.returns
returns c =
    front-put c.args.front c.put_scalar-second.ensures (rw c.inner_len-inner.ensures.0 at c.put_head-third.ensures) c.put_scalar-fourth.ensures c.put_member.ensures
