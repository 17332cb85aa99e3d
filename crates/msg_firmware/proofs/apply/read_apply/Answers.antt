use mathlib.Core.Path.{sym}
use Rattle.proto_field.proofs.Told.{sat-given}
use Rattle.msg_firmware.specs.Apply.{apply_of, InsideMessage}
use Rattle.msg_firmware.proofs.Insides.{apply-within, part-inside}
use Rattle.msg_firmware.proofs.apply.read_apply.Goals as goal

pub firmware_in-requires : goal.firmware_in-requires
firmware_in-requires c = part-inside _ _ (sym c.in_ok-gathered.ensures)

pub returns-clause-inside_message : goal.returns-clause-inside_message
unfolding apply_of
returns-clause-inside_message c =
    sat-given (InsideMessage c.args.message.now) (apply_of c.args.message.now) _ (apply-within c.args.message.now)
    (rw (sym c.in_ok-gathered.ensures, sym c.in_ok-firmware_information.ensures))
