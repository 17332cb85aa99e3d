use Rattle.std.proofs.Common.{◌≤◌, length}
use Rattle.cli_listing.proofs.list.Given as goal

abbrev pub invariant-loop-turn : goal.invariant-loop-turn
invariant-loop-turn _ l = l.kept ≤ length l.buffer
