use mathlib.Core.Path.{ap, sym, ◌∙◌}
use Rattle.std.proofs.lemmas.Result.{err_from_is_err_and}
use Rattle.proto_field.specs.Varint.{told_varint}
use Rattle.proto_field.specs.Tag.{tag_at}
use Rattle.proto_field.proofs.Varints.{varint-short}
use Rattle.proto_field.proofs.tag.read_tag.Goals as goal

pub returns-then-value-lt-BASE : goal.returns-then-value-lt-BASE
unfolding tag_at
returns-then-value-lt-BASE c =
    let short = c.wide64-value.ensures.0 in
    rw (varint-short _ c.args.at c.if-at-message.true (rw short at c.if-value-lt-BASE.true), ← short) c.tag_of.ensures

pub returns-in_err-long : goal.returns-in_err-long
unfolding tag_at
returns-in_err-long c =
    let p = err_from_is_err_and c.from_residual.result c.from_residual.ensures.1 in
    rw (p.1, p.2, sym c.read_long.ensures ∙ ap told_varint c.in_err-long.was)

pub returns : goal.returns
unfolding tag_at
returns c = rw (sym c.read_long.ensures ∙ ap told_varint c.in_ok-long.was) c.tag_of-2.ensures
