use mathlib.Core.Path.{◌≡◌, refl, ap, ◌∙◌}
use mathlib.Core.List.{◌++◌}
use lib.ListN.{length, length-map}
use borrow.Author.Tests.{eq-eqb, ne_eqb}
use Rattle.std.specs.Result.{result_unwrap_or}
use Rattle.proto_field.specs.Signed.{extended}
use Rattle.proto_reader.specs.Refusal.{told_more}
use Rattle.msg_device.specs.Information.{no_information}
use Rattle.c_rows.proofs.Wholes.{sets-three}
use Rattle.c_message_rows.specs.Convert.{parts_row, transports_row, fault_row, information_row}
use Rattle.c_message_rows.proofs.Readings.{fault-length}
use Rattle.c_message_rows.proofs.Information.{information-row}
use borrow.Author.Rules.{rules}
use Rattle.c_message_rows.proofs.convert.put_information.Goals as goal

pub returns-then-number-ne-UNFIT : goal.returns-then-number-ne-UNFIT
returns-then-number-ne-UNFIT c =
    let i = c.unwrap_or-information.result in
    let told = told_more c.args.read in
    let long : length i.transports ≡ 8 = search rules in
    let is : i ≡ result_unwrap_or c.args.read no_information = c.unwrap_or-information.ensures ∙ ap (result_unwrap_or c.args.read) c.none.ensures in
    let whole : parts_row i ++ (transports_row i.transports ++ fault_row told) ≡ information_row told = rw is (information-row c.args.read) in
    rw (
      ne_eqb _ _ c.if-number-ne-UNFIT.true,
      c.fill-then-number-ne-UNFIT-2.ensures,
      c.fault_in-fault.ensures,
      c.fill-then-number-ne-UNFIT.ensures,
      c.transports_row-transports.ensures,
      c.fill.ensures,
      c.parts_row-parts.ensures,
      ← whole,
    )
    (sets-three c.args.row.now (parts_row i) (transports_row i.transports) (fault_row told) 7 15 refl
    (rw (length-map i.transports extended, long) refl) (rw (fault-length told) c.requires))

pub returns-else-number-ne-UNFIT : goal.returns-else-number-ne-UNFIT
returns-else-number-ne-UNFIT c = rw (eq-eqb _ _ c.if-number-ne-UNFIT.false)
