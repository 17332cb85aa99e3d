use mathlib.Core.Path.{sym}
use Rattle.utf8.proofs.Sequences.{begins-cut}
use Rattle.utf8.proofs.table.begins_with.Goals as goal

pub returns-then-bytes-row : goal.returns-then-bytes-row
returns-then-bytes-row c = sym (begins-cut c.args.row.now c.args.bytes.now c.if-bytes-row.true)
