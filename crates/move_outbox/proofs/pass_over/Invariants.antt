use Rattle.std.proofs.Common.{◌≤◌, length}
use Rattle.move_outbox.proofs.pass_over.Given as goal

abbrev pub invariant-loop-turn : goal.invariant-loop-turn
invariant-loop-turn _ l = l.held ≤ length l.buffer
