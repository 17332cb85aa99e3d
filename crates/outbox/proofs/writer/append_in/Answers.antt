use mathlib.Core.Path.{sym, ◌∙◌}
use lib.Seq.{length-take-le}
use Rattle.outbox.specs.Format.{format_for}
use Rattle.outbox.proofs.Stored.{append-other}
use Rattle.outbox.proofs.writer.append_in.Goals as goal

pub slice_bounds-is_other-end-2 : goal.slice_bounds-is_other-end-2
slice_bounds-is_other-end-2 c = sym (length-take-le _ _ c.requires)

pub returns-then-is_other : goal.returns-then-is_other
returns-then-is_other c =
    rw c.version.ensures
    (sym
    (append-other
    (format_for c.args.version)
    c.args.stream
    c.args.payload.now
    c.args.buffer.now
    c.args.used
    c.requires
    (sym c.is_other.ensures ∙ c.if-is_other.true)))

pub append_by-requires : goal.append_by-requires
append_by-requires c =
    (c.requires, sym c.is_other.ensures ∙ c.if-is_other.false)

pub returns : goal.returns
returns c = c.append_by.ensures
