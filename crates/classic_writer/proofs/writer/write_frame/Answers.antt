use mathlib.Core.Path.{sym, ◌∙◌}
use Rattle.classic_writer.proofs.writer.write_frame.Goals as goal

pub returns-then-limit_fits : goal.returns-then-limit_fits
returns-then-limit_fits c = rw (sym c.limit_fits.ensures ∙ c.if-limit_fits.true, sym c.is_mark.ensures ∙ c.if-is_mark.true)

pub returns-then-is_mark : goal.returns-then-is_mark
returns-then-is_mark c = rw (sym c.limit_fits.ensures ∙ c.if-limit_fits.false)

pub write_within-requires : goal.write_within-requires
write_within-requires c =
    (sym c.limit_fits-2.ensures ∙ c.if-not-limit_fits.false, sym c.is_mark.ensures ∙ c.if-is_mark.false)

pub returns-then-not-limit_fits : goal.returns-then-not-limit_fits
returns-then-not-limit_fits c = rw (sym c.limit_fits-2.ensures ∙ c.if-not-limit_fits.true)
