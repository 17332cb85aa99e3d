use mathlib.Core.Path.{◌∙◌}
use Rattle.wire.proofs.Parts.{rest-lent}
use Rattle.capture_why.proofs.Parts.{drop-within}
use Rattle.capture_why.proofs.stopped_at.Goals as goal

pub returns : goal.returns
returns c =
    let l = c.args.capture.now in
    c.stopped_in.ensures
    ∙ rw (rest-lent l c.smaller-start.result, drop-within l c.args.at c.smaller-start.result c.smaller-start.ensures.0)
