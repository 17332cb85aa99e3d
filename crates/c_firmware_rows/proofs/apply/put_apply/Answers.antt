use native.Mathlib.Omega.{arith}
use mathlib.Core.Path.{◌≡◌, refl, sym, ap, ◌∙◌}
use Prim.Native.Nat.{ℕ}
use lib.ListN.{length, length-append, replicate}
use lib.Seq.{sets}
use borrow.Author.Tests.{eq-eqb, ne_eqb}
use Rattle.wire.proofs.Stores.{sets_then}
use Rattle.proto_reader.specs.Refusal.{why_of}
use Rattle.c_rows.proofs.Wholes.{sets-both}
use Rattle.c_message_rows.specs.Convert.{fault_of}
use Rattle.c_firmware_rows.specs.Apply.{head_row, component_rows, whole_row}
use Rattle.c_firmware_rows.proofs.Components.{rows-length}
use Rattle.c_firmware_rows.proofs.apply.put_apply.Goals as goal

pub returns-then-number-eq-UNFIT : goal.returns-then-number-eq-UNFIT
returns-then-number-eq-UNFIT c = rw (eq-eqb _ _ c.if-number-eq-UNFIT.true)

pub returns-in-Ok : goal.returns-in-Ok
returns-in-Ok c =
    let a = c.in-Ok.apply in
    let components = a.firmware_information.components in
    let filled = c.fill_components.ensures in
    let whole : length (whole_row a) ≡ 57 = omega (arith, length-append (head_row a) (component_rows components), rows-length components, filled.components_len) in
    let last : c.fill-in-Ok.new.row ≡ sets c.fill_components.new.row (length (whole_row a)) (replicate 2 0) =
    c.fill-in-Ok.ensures ∙ ap (λ (n : ℕ). sets c.fill_components.new.row n (replicate 2 0)) (sym whole) in
    rw (
      ne_eqb _ _ c.if-number-eq-UNFIT.false,
      c.in-Ok.is,
      last,
      filled.row_after,
      c.fill.ensures,
      c.head_row-head.ensures,
      sets_then c.args.row.now 0 9 (head_row a) (component_rows components) refl,
    )
    (sets-both c.args.row.now (whole_row a) (replicate 2 0) (rw whole c.requires))

pub returns-in-Err : goal.returns-in-Err
returns-in-Err c =
    let first : c.fill-in-Err.new.row ≡ sets c.args.row.now 0 (replicate 57 0) = c.fill-in-Err.ensures in
    rw (ne_eqb _ _ c.if-number-eq-UNFIT.false, c.in-Err.is, c.fill-in-Err-2.ensures, first, c.fault_of-fault.ensures)
    (sets-both c.args.row.now (replicate 57 0) (fault_of (why_of c.in-Err.why)) c.requires)
