use mathlib.Core.Path.{sym, ◌∙◌}
use Rattle.outbox.specs.Format.{format_for}
use Rattle.outbox.proofs.Walk.{other-version-walk}
use Rattle.outbox.proofs.reader.walk_by.Goals as goal

pub returns-then-is_other : goal.returns-then-is_other
returns-then-is_other c =
    rw c.version.ensures (sym (other-version-walk (format_for c.args.version) c.args.file.now (sym c.is_other.ensures ∙ c.if-is_other.true)))

pub walk_records-requires : goal.walk_records-requires
walk_records-requires c = sym c.is_other.ensures ∙ c.if-is_other.false

pub returns : goal.returns
returns c = c.walk_records.ensures
