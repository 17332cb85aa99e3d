use native.Mathlib.Omega.{arith}
use Rattle.msg_device.proofs.Fields.{information-length, put_four}
use borrow.Author.Rules.{rules}
use Rattle.msg_device.proofs.information.put_information.Goals as goal

pub put_text-second-requires : goal.put_text-second-requires
put_text-second-requires c =
    (search rules, omega (arith, c.requires.1, information-length c.args.information.serial_number.now c.args.information.name.now c.args.information.transports.now c.args.information.device_type.now))

pub put_text-third-requires : goal.put_text-third-requires
put_text-third-requires c =
    (search rules, omega (arith, c.requires.1, information-length c.args.information.serial_number.now c.args.information.name.now c.args.information.transports.now c.args.information.device_type.now, c.put_text-second.ensures.place, c.put_text-second.auto.out))

pub put_packed-fourth-requires : goal.put_packed-fourth-requires
put_packed-fourth-requires c =
    (search rules, search rules, omega (arith, c.requires.1, information-length c.args.information.serial_number.now c.args.information.name.now c.args.information.transports.now c.args.information.device_type.now, c.put_text-second.ensures.place, c.put_text-second.auto.out, c.put_text-third.ensures.place, c.put_text-third.auto.out))

pub put_text-requires : goal.put_text-requires
put_text-requires c =
    (search rules, omega (arith, c.requires.1, information-length c.args.information.serial_number.now c.args.information.name.now c.args.information.transports.now c.args.information.device_type.now, c.put_text-second.ensures.place, c.put_text-second.auto.out, c.put_text-third.ensures.place, c.put_text-third.auto.out, c.put_packed-fourth.ensures.place, c.put_packed-fourth.auto.out))

pub returns : goal.returns
returns c = put_four _ _ _ _ c.put_text-second.ensures c.put_text-third.ensures c.put_packed-fourth.ensures c.put_text.ensures
