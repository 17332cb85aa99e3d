use Rattle.classic_parts.specs.State.{lawful}
use Rattle.classic_parts.proofs.state.PartProgress.is_lawful.Goals as goal

pub returns : goal.returns
unfolding lawful
returns c =
    rw (
      c.both.ensures,
      c.limit_fits.ensures,
      c.both-told.ensures,
      c.bad_start.ensures,
    )
