use Rattle.check_messages.proofs.Sizes.{features-size}
use Rattle.check_messages.proofs.features_again.Goals as goal

pub show-requires : goal.show-requires
show-requires c = features-size c.write_features-wrote.result _ _ _ c.write_features-wrote.ensures
