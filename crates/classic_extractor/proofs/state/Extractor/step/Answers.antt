use mathlib.Core.Path.{refl}
use Rattle.classic_extractor.proofs.state.Extractor.step.Goals as goal

pub returns : goal.returns
returns c = (c.take-done.ensures, refl)
