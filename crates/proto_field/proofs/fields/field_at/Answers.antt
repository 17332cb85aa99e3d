use mathlib.Core.Path.{ap, sym, subst, ◌∙◌}
use borrow.Author.Tests.{le-leb, lt-leb}
use Rattle.std.proofs.lemmas.Result.{err_from_is_err_and}
use Rattle.proto_field.specs.Tag.{told_tag}
use Rattle.proto_field.specs.Value.{told_value, TellsWithin, read_parts}
use Rattle.proto_field.specs.Fields.{found_at}
use Rattle.proto_field.proofs.fields.field_at.Goals as goal

pub returns-then-message-at : goal.returns-then-message-at
unfolding found_at
returns-then-message-at c = (rw (le-leb _ _ c.if-message-at.true), tt)

pub returns-in_err-head : goal.returns-in_err-head
unfolding found_at
returns-in_err-head c =
    let p = err_from_is_err_and c.from_residual.result c.from_residual.ensures.1 in
    (rw (p.1, p.2, lt-leb _ _ c.if-message-at.false, sym c.read_tag.ensures ∙ ap told_tag c.in_err-head.was), rw p.1 tt)

pub returns-in_err-read : goal.returns-in_err-read
unfolding found_at
returns-in_err-read c =
    let p = err_from_is_err_and c.from_residual-in_err-read.result c.from_residual-in_err-read.ensures.1 in (
      rw (
        p.1,
        p.2,
        lt-leb _ _ c.if-message-at.false,
        sym c.read_tag.ensures ∙ ap told_tag c.in_ok-head.was,
        sym c.read_value.ensures.result_value ∙ ap told_value c.in_err-read.was,
      ),
      rw p.1 tt,
    )

pub returns : goal.returns
unfolding found_at
returns c =
    let s = c.args.message.now in (
      rw (
        lt-leb _ _ c.if-message-at.false,
        sym c.read_tag.ensures ∙ ap told_tag c.in_ok-head.was,
        sym c.read_value.ensures.result_value ∙ ap told_value c.in_ok-read.was,
      ),
      subst (λ r. TellsWithin s read_parts (told_value r)) c.in_ok-read.was c.read_value.ensures.tells_within,
    )
