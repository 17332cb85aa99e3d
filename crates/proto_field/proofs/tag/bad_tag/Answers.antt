use borrow.Author.Tests.{eq-eqb, ne_eqb, lt-ltb, le-ltb, le-leb, lt-leb}
use Rattle.proto_field.specs.Tag.{length_type, bad_tag}
use Rattle.proto_field.proofs.tag.bad_tag.Goals as goal

pub returns-then-field-eq0 : goal.returns-then-field-eq0
unfolding bad_tag
returns-then-field-eq0 c = rw (eq-eqb _ _ c.if-field-eq0.true)

pub returns-then-field-gt-LAST_FIELD : goal.returns-then-field-gt-LAST_FIELD
unfolding bad_tag
returns-then-field-gt-LAST_FIELD c = rw (ne_eqb _ _ c.if-field-eq0.false, lt-ltb _ _ c.if-field-gt-LAST_FIELD.true)

pub returns-then-wire-le-LENGTH : goal.returns-then-wire-le-LENGTH
unfolding bad_tag
returns-then-wire-le-LENGTH c = rw (ne_eqb _ _ c.if-field-eq0.false, le-ltb _ _ c.if-field-gt-LAST_FIELD.false, le-leb c.args.wire length_type c.if-wire-le-LENGTH.true)

pub returns : goal.returns
unfolding bad_tag
returns c = rw (ne_eqb _ _ c.if-field-eq0.false, le-ltb _ _ c.if-field-gt-LAST_FIELD.false, lt-leb c.args.wire length_type c.if-wire-le-LENGTH.false)
