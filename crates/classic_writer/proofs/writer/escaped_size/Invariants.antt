use Prim.Native.Nat.{◌+◌, ◌≤◌}
use mathlib.Core.Path.{◌≡◌}
use lib.ListN.{length, drop}
use Rattle.classic_frame.specs.Frame.{escaped_of}
use Rattle.classic_writer.proofs.writer.escaped_size.Given as goal

abbrev pub invariant-loop-b : goal.invariant-loop-b
invariant-loop-b l = (l.b-index ≤ length l.bytes) × (l.marks ≤ l.b-index) × (l.b-index + l.marks + length (escaped_of (drop l.b-index l.bytes)) ≡ length (escaped_of l.bytes))
