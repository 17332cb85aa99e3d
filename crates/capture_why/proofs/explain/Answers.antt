use Rattle.capture_judge.specs.Capture.{number_of}
use Rattle.capture_reader.proofs.Placed.{passed-on}
use Rattle.capture_why.specs.Why.{why_of}
use Rattle.capture_why.proofs.explain.Goals as goal

pub returns-in_err-traced : goal.returns-in_err-traced
unfolding why_of
returns-in_err-traced c =
    rw c.in_err-traced.was (passed-on number_of c.in_err-traced.field-0.0 c.from_residual.result c.from_residual.ensures.1)

pub returns : goal.returns
unfolding why_of
returns c = rw (c.in_ok-traced.was, c.explained_in.ensures)
