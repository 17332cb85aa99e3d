use mathlib.Core.Path.{sym}
use Rattle.outbox.specs.Format.{format_for}
use Rattle.outbox.proofs.Walk.{alone-whole}
use Rattle.outbox.proofs.judging.walk_used.Goals as goal

pub returns-then-file-eq-FIRST_PLACE : goal.returns-then-file-eq-FIRST_PLACE
returns-then-file-eq-FIRST_PLACE c =
    sym (alone-whole (format_for c.args.version) c.args.file.now c.requires c.if-file-eq-FIRST_PLACE.true)
