use native.Mathlib.Omega.{arith}
use mathlib.Core.Path.{◌≡◌, refl, ◌∙◌}
use lib.ListN.{length, get_or, length-set}
use borrow.Author.Rules.{rules}
use Rattle.proto_field.specs.Signed.{signed_of}
use Rattle.proto_field.proofs.SignedNumbers.{signed-kept}
use Rattle.c_message_rows.proofs.Mapped.{mapped-more, mapped_end}
use Rattle.c_message_rows.proofs.convert.signed_list.Goals as goal

pub loop-i-init : goal.loop-i-init
loop-i-init c = (search rules, refl, refl)

pub loop-i-preserved : goal.loop-i-preserved
loop-i-preserved c =
    let row = c.args.row.now in (
      omega arith,
      length-set c.loop-i.list c.loop-i.i _ ∙ c.loop-i.invariant.1,
      rw (signed-kept _ (get_or row c.loop-i.i 0) c.low_signed.ensures)
          (mapped-more signed_of c.loop-i.list row c.loop-i.i c.loop-i.invariant.2 0 (search rules) (omega (arith, c.requires))),
    )

pub returns : goal.returns
returns c =
    let row = c.args.row.now in
    let end : length row ≡ c.loop-i.i = omega arith in
    rw end (mapped_end signed_of c.loop-i.list row c.loop-i.i c.loop-i.invariant.2 (search rules))
