use Rattle.std.proofs.Common.{◌≡◌, ◌+◌, ◌%◌, ◌<◌, ◌≤◌, length, drop}
use Rattle.classic_frame.specs.Frame.{sum_of}
use Rattle.classic_frame.proofs.checksum.add_all.Given as goal

abbrev pub invariant-loop-b : goal.invariant-loop-b
invariant-loop-b l = (l.b-index ≤ length l.bytes) × (l.after < 65536) × ((l.after + sum_of (drop l.b-index l.bytes)) % 65536 ≡ (l.sum + sum_of l.bytes) % 65536)
