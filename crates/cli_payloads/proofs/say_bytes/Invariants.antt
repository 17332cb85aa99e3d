use Rattle.std.proofs.Common.{◌≡◌, true}
use Rattle.cli_payloads.proofs.say_bytes.Given as goal

abbrev pub invariant-loop-b : goal.invariant-loop-b
invariant-loop-b l = l.fn.output.failed ≡ true → l.said.failed ≡ true
