use Rattle.msg_firmware.specs.Segment.{between, is_digit}
use Rattle.msg_firmware.proofs.Segments.{ranges-counted}
use Rattle.msg_firmware.proofs.segment.is_digit.Goals as goal

pub returns : goal.returns
unfolding is_digit
returns c =
    let b = c.args.byte in
    rw (c.one_between-decimal.ensures.0, c.one_between-upper.ensures.0, c.one_between-lower.ensures.0)
    (ranges-counted (between 48 57 b) (between 65 70 b) (between 97 102 b))
