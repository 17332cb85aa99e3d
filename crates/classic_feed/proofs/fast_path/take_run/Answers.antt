use mathlib.Core.Path.{refl}
use Rattle.classic_feed.proofs.Onwards.{onward-body}
use Rattle.classic_feed.proofs.fast_path.take_run.Goals as goal

pub returns-then-byte_at : goal.returns-then-byte_at
returns-then-byte_at c =
    (onward-body c.args.bytes.now c.requires.fits c.requires.phase_value c.requires.i_in_bounds, refl)
