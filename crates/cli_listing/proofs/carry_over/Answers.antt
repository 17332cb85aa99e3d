use Rattle.cli_listing.specs.Listing.{carry_of}
use Rattle.cli_listing.proofs.Carrying.{moved}
use Rattle.cli_listing.proofs.carry_over.Goals as goal

pub returns : goal.returns
unfolding carry_of
returns c = rw (c.copy_within.ensures.after, moved c.args.buffer.now c.args.place c.args.held c.requires.0 c.requires.1 c.requires.2)
