use Rattle.check_firmware.proofs.Sizes.{segment-size}
use Rattle.check_firmware.proofs.segment_again.Goals as goal

pub show-requires : goal.show-requires
show-requires c = segment-size _ _ _ _ _ _ c.write_segment-wrote.result c.write_segment-wrote.ensures
