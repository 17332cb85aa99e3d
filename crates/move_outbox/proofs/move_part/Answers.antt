use Rattle.std.proofs.Common.{sym, ap, ◌∙◌, arith, length-take-le}
use Rattle.outbox.specs.Format.{format_for}
use Rattle.outbox_move.specs.Moves.{told}
use Rattle.outbox_move.proofs.Deciding.{written-fits}
use Rattle.move_outbox.proofs.move_part.Goals as goal

-- what was written lies within the output
pub slice_bounds-keep-end : goal.slice_bounds-keep-end
slice_bounds-keep-end g c =
    let inside =
    written-fits (format_for c.args.wished) c.args.part.now c.args.space.now _ (ap (λ s. s.told) (sym c.move_file.ensures) ∙ ap told c.in-Ok.is) in
    omega (arith, inside, c.move_file.auto.out)

pub slice_bounds-keep-end-in-Ok : goal.slice_bounds-keep-end-in-Ok
slice_bounds-keep-end-in-Ok g c =
    let inside =
    written-fits (format_for c.args.wished) c.args.part.now c.args.space.now _ (ap (λ s. s.told) (sym c.move_file.ensures) ∙ ap told c.in-Ok.is) in
    sym (length-take-le _ _ (omega (arith, inside, c.move_file.auto.out)))
