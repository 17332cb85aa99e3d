use Rattle.utf8_shown.specs.Shown.{is_text}
use Rattle.utf8_shown.proofs.is_text.Goals as goal

pub returns : goal.returns
unfolding is_text
returns c = rw (c.both.ensures, c.hidden_place.ensures, c.bad_place.ensures)
