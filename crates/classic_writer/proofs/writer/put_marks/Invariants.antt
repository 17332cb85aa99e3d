-- One mark after another: `Left` says that each writes what the rest wants, two bytes for one.
use Prim.Native.Nat.{◌+◌, ◌-◌, ◌*◌}
use mathlib.Core.Path.{◌≡◌}
use lib.ListN.{length}
use Rattle.classic_writer.specs.Writer.{Left}
use Rattle.classic_writer.proofs.writer.put_marks.Given as goal

abbrev pub invariant-loop-end : goal.invariant-loop-end
invariant-loop-end l =
    (length l.out ≡ length l.initial.out) × (l.at ≡ l.place + 2 * (l.end - l.i)) × Left l.bytes l.initial.out l.place l.i l.out l.at l.end
