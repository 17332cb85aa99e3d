-- A run and a pair, again and again: each keeps `Onward`, and so does the one after the other.
use Prim.Native.Nat.{◌-◌}
use mathlib.Core.Path.{◌≡◌}
use lib.ListN.{length}
use Rattle.classic_extractor.specs.declared.state.Phase.TheVariants.{Body}
use Rattle.classic_feed.specs.FastPath.{Onward}
use Rattle.classic_feed.proofs.fast_path.take_body.Given as goal

abbrev pub invariant-loop-at : goal.invariant-loop-at
invariant-loop-at l = (length l.buffer ≡ length l.initial.buffer) × (Onward l.limit l.bytes l.initial.here l.initial.buffer l.i l.here l.buffer l.at) × (l.here.phase ≡ Body)

abbrev pub decreases-loop-at : goal.decreases-loop-at
decreases-loop-at l = length l.bytes - l.at
