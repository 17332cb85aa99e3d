use mathlib.Core.Path.{sym}
use borrow.Author.Tests.{lt-ltb, le-ltb}
use Rattle.std.proofs.lemmas.Result.{err_from_is_err_and}
use Rattle.msg_device.specs.Information.{information_strings, information_fields, information_written}
use Rattle.proto_strings.proofs.Texts.{texts-bad, texts-fault, texts-wrote}
use Rattle.msg_device.proofs.information.write_information.Goals as goal

pub returns-then-information-gt-MOST_TRANSPORTS : goal.returns-then-information-gt-MOST_TRANSPORTS
unfolding information_written
returns-then-information-gt-MOST_TRANSPORTS c =
    texts-bad _ (information_strings c.args.information.serial_number.now c.args.information.name.now c.args.information.device_type.now) (information_fields c.args.information.serial_number.now c.args.information.name.now c.args.information.transports.now c.args.information.device_type.now) c.args.out.now (lt-ltb _ _ c.if-information-gt-MOST_TRANSPORTS.true)

pub returns-in_err-information_fault : goal.returns-in_err-information_fault
unfolding information_written
returns-in_err-information_fault c =
    let p = err_from_is_err_and c.from_residual.result c.from_residual.ensures.1 in
    rw (p.1, p.2)
    (texts-fault _ (information_strings c.args.information.serial_number.now c.args.information.name.now c.args.information.device_type.now) (information_fields c.args.information.serial_number.now c.args.information.name.now c.args.information.transports.now c.args.information.device_type.now) c.args.out.now _ (le-ltb _ _ c.if-information-gt-MOST_TRANSPORTS.false)
    (sym c.in_err-information_fault.ensures))

pub returns-in_err-fill_information : goal.returns-in_err-fill_information
unfolding information_written
returns-in_err-fill_information c =
    let p = err_from_is_err_and c.from_residual-in_err-fill_information.result c.from_residual-in_err-fill_information.ensures.1 in
    rw (p.1, p.2)
    (texts-wrote _ (information_strings c.args.information.serial_number.now c.args.information.name.now c.args.information.device_type.now) (information_fields c.args.information.serial_number.now c.args.information.name.now c.args.information.transports.now c.args.information.device_type.now) c.args.out.now _ _ (le-ltb _ _ c.if-information-gt-MOST_TRANSPORTS.false)
    (sym c.in_ok-information_fault.ensures) c.in_err-fill_information.ensures)

pub returns : goal.returns
unfolding information_written
returns c =
    texts-wrote _ (information_strings c.args.information.serial_number.now c.args.information.name.now c.args.information.device_type.now) (information_fields c.args.information.serial_number.now c.args.information.name.now c.args.information.transports.now c.args.information.device_type.now) c.args.out.now _ _ (le-ltb _ _ c.if-information-gt-MOST_TRANSPORTS.false)
    (sym c.in_ok-information_fault.ensures) c.in_ok-fill_information.ensures
