use borrow.Author.Tests.{eq-eqb, ne_eqb}
use Rattle.c_classic.specs.Convert.{phase_number}
use Rattle.c_classic.proofs.States.{progress-written}
use Rattle.c_classic.proofs.convert.put_progress.Goals as goal

pub returns-then-number-ne-UNFIT : goal.returns-then-number-ne-UNFIT
returns-then-number-ne-UNFIT c =
    let p = c.args.progress in
    rw (ne_eqb _ _ c.if-number-ne-UNFIT.true, c.fill.ensures, c.progress_row-numbers.ensures)
    (progress-written c.args.row.now (phase_number p.phase) p.sequence p.held c.requires)

pub returns-else-number-ne-UNFIT : goal.returns-else-number-ne-UNFIT
returns-else-number-ne-UNFIT c = rw (eq-eqb _ _ c.if-number-ne-UNFIT.false)
