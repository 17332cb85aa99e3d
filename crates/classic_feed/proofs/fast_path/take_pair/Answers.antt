use mathlib.Core.Path.{refl, sym, ◌∙◌}
use Rattle.classic_feed.proofs.Onwards.{onward-pair}
use borrow.Author.Rules.{rules}
use Rattle.classic_feed.proofs.fast_path.take_pair.Goals as goal

pub returns-then-held-room : goal.returns-then-held-room
returns-then-held-room c =
    (onward-pair c.args.bytes.now c.args.i c.in-Some.mark c.requires.fits c.requires.phase_value c.requires.i_in_bounds (sym c.mark_at.ensures ∙ c.in-Some.is) (search rules), refl)
