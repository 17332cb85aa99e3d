use mathlib.Core.Path.{sym, ◌∙◌}
use Rattle.classic_parts.proofs.state.PartProgress.pass.Goals as goal

pub take_body-requires : goal.take_body-requires
take_body-requires c = record { taken_in_bounds = c.requires.taken_in_bounds; at_in_bounds = c.requires.at_in_bounds; self_value = sym c.is_in_payload.ensures ∙ c.if-is_in_payload.true }
