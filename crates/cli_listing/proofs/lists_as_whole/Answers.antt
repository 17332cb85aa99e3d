use Rattle.cli_listing.proofs.Parts.{lists-as-whole}
use Rattle.cli_listing.proofs.lists_as_whole.Goals as goal

pub returns : goal.returns
returns c = lists-as-whole
