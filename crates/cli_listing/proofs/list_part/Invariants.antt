use Rattle.std.proofs.Common.{◌-◌, length}
use Rattle.outbox.specs.Format.{format_of}
use Rattle.outbox.proofs.Walk.{Going}
use Rattle.cli_listing.proofs.list_part.Given as goal

abbrev pub invariant-loop-found : goal.invariant-loop-found
invariant-loop-found l = Going (format_of l.part) l.part l.place

abbrev pub decreases-loop-found : goal.decreases-loop-found
decreases-loop-found l = length l.part - l.place
