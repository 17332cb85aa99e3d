-- ApplyFirmware: firmware information, and a bool, written.
use Rattle.std.specs.Prelude.{ℕ, List, [], ◌∷◌}
use Rattle.wire.specs.Bytes.{bit}
use Rattle.wire.specs.Told.{WrittenOf}
use Rattle.proto_writer.specs.Writer.{Field, scalar, nested, message_bytes}
use Rattle.proto_schema.specs.Schema.{firmware_information_field, restart_required_field}
use Rattle.proto_strings.specs.Texts.{writes_texts}
use Rattle.msg_firmware.specs.declared.apply.ApplyFirmware.{ApplyFirmware}
use Rattle.msg_apply_writer.specs.Information.{bad_firmware, firmware_strings, firmware_fields}

-- the fields, of parts of the lent texts: firmware information is written also where it is empty
abbrev pub apply_fields : List ℕ → ApplyFirmware → List Field
apply_fields texts a =
    nested firmware_information_field (message_bytes (firmware_fields texts a.firmware_information))
    ∷ scalar restart_required_field (bit a.restart_required) ∷ []

-- the message written
unfoldable pub apply_written : ApplyFirmware → List ℕ → List ℕ → WrittenOf (ℕ × List ℕ) ℕ
apply_written a texts out =
    let f = a.firmware_information in
    writes_texts (bad_firmware texts f) (firmware_strings texts f) (apply_fields texts a) out
