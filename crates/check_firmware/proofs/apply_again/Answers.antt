use Rattle.check_firmware.proofs.Sizes.{apply-size}
use Rattle.check_firmware.proofs.apply_again.Goals as goal

pub show-requires : goal.show-requires
show-requires c = apply-size c.write_apply-wrote.result _ _ _ _ c.write_apply-wrote.ensures
