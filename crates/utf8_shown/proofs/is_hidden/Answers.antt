use Rattle.utf8_shown.proofs.HiddenLemmas.{hidden-read}
use Rattle.utf8_shown.proofs.is_hidden.Goals as goal

pub returns : goal.returns
returns c =
    rw (c.hidden_by.ensures, c.byte_at-3.ensures, c.byte_at-2.ensures, c.byte_at.ensures) (hidden-read c.args.rest.now c.requires)
