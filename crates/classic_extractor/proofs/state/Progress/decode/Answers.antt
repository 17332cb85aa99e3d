use Rattle.classic_extractor.proofs.States.{code-by-mark}
use Rattle.classic_extractor.proofs.state.Progress.decode.Goals as goal

pub returns-in-Some : goal.returns-in-Some
returns-in-Some c = λ limit e.
    rw (← code-by-mark c.args.b, ← c.mark_for.ensures, c.in-Some.is) (c.store.ensures limit e)

pub returns-in-None : goal.returns-in-None
returns-in-None c = λ limit e.
    rw (← code-by-mark c.args.b, ← c.mark_for.ensures, c.in-None.is, c.drop_frame.ensures)
