-- ApplyFirmware: firmware information, and a bool.
use Rattle.std.specs.Prelude.{ℕ, ◌+◌, ◌≤◌, Bool, false, not, List, get_or, take, eqb, Result}
use Rattle.wire.specs.Told.{ToldMore, given, and_then}
use Rattle.proto_field.specs.declared.value.Part.{Part}
use Rattle.proto_schema.specs.declared.Schema.TheVariants as Schema
use Rattle.proto_schema.specs.Schema.{first}
use Rattle.proto_reader.specs.Gathered.{most_repeated}
use Rattle.proto_reader.specs.declared.refusal.MessageRefusal.{MessageRefusal}
use Rattle.proto_reader.specs.Refusal.{Strings, told_more}
use Rattle.proto_reader.specs.Walk.{fields_from}
use Rattle.msg_firmware.specs.declared.information.FirmwareInformation.{FirmwareInformation}
use Rattle.msg_firmware.specs.declared.apply.ApplyFirmware.{ApplyFirmware}
use Rattle.msg_firmware.specs.Component.{component_parts}
use Rattle.msg_firmware.specs.Information.{no_firmware, firmware_from, own_parts, Each}

-- a bool is true where its varint's value is not 0, all 64 bits of it
abbrev pub is_true : ℕ → Bool
is_true v = not (eqb v 0)

-- the firmware information within its part; an absent one has no bytes
unfoldable pub firmware_in : List ℕ → Part → ToldMore FirmwareInformation
firmware_in s p = firmware_from (take (p.start + p.len) s) p.start

-- the message: it is read through before its firmware information
unfoldable pub apply_of : List ℕ → ToldMore ApplyFirmware
apply_of s =
    and_then (fields_from Schema.Apply s 0) (λ g.
    and_then (firmware_in s g.part) (λ f. given (record { firmware_information = f; restart_required = is_true (get_or g.scalars first 0) })))

abbrev pub no_apply : ApplyFirmware
no_apply = record { firmware_information = no_firmware; restart_required = false }

-- the answers of read_apply
abbrev pub told_apply : Result ApplyFirmware MessageRefusal → ToldMore ApplyFirmware
told_apply = told_more

-- all strings lie within the message and are well formed, and there are at most eight components
pub record InsideMessage (s : List ℕ) (a : ApplyFirmware) : Type 0 where
  pub own : Strings s (own_parts a.firmware_information)
  pub each : Each (λ c. Strings s (component_parts c)) a.firmware_information.components
  pub most : a.firmware_information.count ≤ most_repeated
