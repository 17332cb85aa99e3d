use mathlib.Core.Path.{◌∙◌}
use Rattle.capture_tally.proofs.Passing.{unjudged, given_is}
use Rattle.capture_tally.proofs.give.Goals as goal

pub returns : goal.returns
returns c =
    given_is c.args.limit c.args.slots c.args.buffer.now c.args.packet.now c.process.result _ _ (c.process.ensures ∙ unjudged c.args.limit c.args.slots c.args.buffer.now c.args.packet.now c.requires)
