use Prim.Native.Nat.{◌+◌}
use mathlib.Core.Path.{refl}
use native.Mathlib.Omega.{arith}
use Rattle.classic_feed.proofs.Onwards.{onward-plain}
use borrow.Author.Rules.{rules}
use Rattle.classic_feed.proofs.fast_path.take_plain.Goals as goal

pub returns : goal.returns
returns c = (
  onward-plain c.args.bytes.now c.args.i (c.args.i + c.smaller.result) c.copy_clear-n.result c.requires.fits c.requires.phase_value (search rules)
      (omega arith) (omega (arith, c.requires.fits.room)) c.copy_clear-n.ensures,
  refl,
)
