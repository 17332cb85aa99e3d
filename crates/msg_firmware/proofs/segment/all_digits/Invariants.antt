use Rattle.msg_firmware.proofs.Segments.{DigitsSeen}
use Rattle.msg_firmware.proofs.segment.all_digits.Given as goal

abbrev pub invariant-loop-byte : goal.invariant-loop-byte
invariant-loop-byte l = DigitsSeen l.bytes l.all l.byte-index
