use mathlib.Core.Path.{sym, ◌∙◌}
use Rattle.std.proofs.lemmas.Result.{err_from_is_err_and}
use Rattle.proto_strings.proofs.Texts.{texts-bad, texts-fault, texts-wrote}
use Rattle.msg_apply_writer.specs.Information.{firmware_strings}
use Rattle.msg_apply_writer.specs.Apply.{apply_fields, apply_written}
use Rattle.msg_apply_writer.proofs.apply.write_apply.Goals as goal

pub returns-then-bad_firmware : goal.returns-then-bad_firmware
unfolding apply_written
returns-then-bad_firmware c =
    texts-bad _ (firmware_strings c.args.texts.now c.args.apply.firmware_information) (apply_fields c.args.texts.now c.args.apply) c.args.out.now (sym c.bad_firmware.ensures ∙ c.if-bad_firmware.true)

pub returns-in_err-firmware_fault : goal.returns-in_err-firmware_fault
unfolding apply_written
returns-in_err-firmware_fault c =
    let p = err_from_is_err_and c.from_residual.result c.from_residual.ensures.1 in
    rw (p.1, p.2)
    (texts-fault _ (firmware_strings c.args.texts.now c.args.apply.firmware_information) (apply_fields c.args.texts.now c.args.apply) c.args.out.now _ (sym c.bad_firmware.ensures ∙ c.if-bad_firmware.false)
    (sym c.in_err-firmware_fault.ensures))

pub returns-in_err-fill_apply : goal.returns-in_err-fill_apply
unfolding apply_written
returns-in_err-fill_apply c =
    let p = err_from_is_err_and c.from_residual-in_err-fill_apply.result c.from_residual-in_err-fill_apply.ensures.1 in
    rw (p.1, p.2)
    (texts-wrote _ (firmware_strings c.args.texts.now c.args.apply.firmware_information) (apply_fields c.args.texts.now c.args.apply) c.args.out.now _ _ (sym c.bad_firmware.ensures ∙ c.if-bad_firmware.false)
    (sym c.in_ok-firmware_fault.ensures) c.in_err-fill_apply.ensures)

pub returns : goal.returns
unfolding apply_written
returns c =
    texts-wrote _ (firmware_strings c.args.texts.now c.args.apply.firmware_information) (apply_fields c.args.texts.now c.args.apply) c.args.out.now _ _ (sym c.bad_firmware.ensures ∙ c.if-bad_firmware.false)
    (sym c.in_ok-firmware_fault.ensures) c.in_ok-fill_apply.ensures
