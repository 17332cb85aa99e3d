use mathlib.Core.Path.{refl}
use Rattle.classic_parts.proofs.state.PartWriter.write.Goals as goal

pub returns : goal.returns
returns c = (c.take_part-done.ensures, refl)
