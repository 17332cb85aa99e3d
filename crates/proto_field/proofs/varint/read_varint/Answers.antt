use mathlib.Core.Path.{sym}
use Rattle.proto_field.proofs.Varints.{varint-short}
use Rattle.proto_field.proofs.varint.read_varint.Goals as goal

pub returns-then-value-lt-BASE : goal.returns-then-value-lt-BASE
returns-then-value-lt-BASE c =
    rw c.wide64-value.ensures.0
    (sym (varint-short _ c.args.at c.if-at-message.true (rw c.wide64-value.ensures.0 at c.if-value-lt-BASE.true)))
