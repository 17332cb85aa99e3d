use native.Mathlib.Omega.{arith}
use mathlib.Core.Path.{refl, sym, ◌∙◌}
use lib.IntN.{pos}
use lib.ListN.{get_or, length-set}
use lib.Seq.{take_all}
use borrow.Author.Rules.{rules}
use Rattle.proto_field.specs.Signed.{extended}
use Rattle.proto_field.proofs.SignedNumbers.{entry_read}
use Rattle.c_message_rows.proofs.Mapped.{mapped-more, mapped_end}
use Rattle.c_message_rows.proofs.convert.transports_row.Goals as goal

pub loop-i-init : goal.loop-i-init
loop-i-init c = (search rules, refl, refl)

pub loop-i-preserved : goal.loop-i-preserved
loop-i-preserved c =
    let list = c.args.list.now in
    let value = c.sign_extended.ensures ∙ entry_read (get_or list c.loop-i.i (pos 0)) c.sign_extended-arg-1.given in (
      omega arith,
      length-set c.loop-i.row c.loop-i.i c.sign_extended.result ∙ c.loop-i.invariant.1,
      rw value (mapped-more extended c.loop-i.row list c.loop-i.i c.loop-i.invariant.2 (pos 0) (omega (arith, c.requires)) (omega arith)),
    )

pub returns : goal.returns
returns c =
    sym (take_all c.loop-i.i c.loop-i.row (omega arith)) ∙ mapped_end extended c.loop-i.row c.args.list.now c.loop-i.i c.loop-i.invariant.2 (omega (arith, c.requires))
