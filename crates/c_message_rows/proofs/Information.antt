-- Device information: what a reading tells as a row, and too many transports.
use Prim.Native.Nat.{ℕ, ◌<◌}
use mathlib.Core.Path.{◌≡◌, refl}
use mathlib.Core.Bool.{Bool, true, false, cond}
use mathlib.Core.List.{List, [], ◌++◌, map}
use lib.ListN.{length, length-map}
use borrow.Author.Tests.{lt-ltb}
use Rattle.wire.specs.Told.{refused, written}
use Rattle.proto_field.specs.Signed.{signed_of}
use Rattle.std.specs.Prelude.{Result, Ok, Err}
use Rattle.std.specs.Result.{result_unwrap_or}
use Rattle.proto_reader.specs.declared.refusal.MessageRefusal.{MessageRefusal}
use Rattle.msg_device.specs.declared.information.DeviceInformation.{DeviceInformation}
use Rattle.proto_reader.specs.Refusal.{told_more}
use Rattle.msg_device.specs.Information.{no_information, information_written}
use Rattle.c_message_rows.specs.Convert.{parts_row, transports_row, fault_row, information_row}

-- the row of a reading, part by part: that of the empty information where it is refused
pub information-row : (r : Result DeviceInformation MessageRefusal)
    → parts_row (result_unwrap_or r no_information) ++ (transports_row (result_unwrap_or r no_information).transports ++ fault_row (told_more r)) ≡ information_row (told_more r)
information-row (Ok i) = refl
information-row (Err e) = refl

-- a ninth transport is 15, signed or not
pub too_many : (serial_number name device_type transports out : List ℕ) (signed : Bool) → 8 < length transports
    → cond signed (information_written serial_number name (map signed_of transports) device_type out) (written (refused (15, [])) out) ≡ written (refused (15, [])) out
unfolding information_written
too_many serial_number name device_type transports out true h = rw (length-map transports signed_of, lt-ltb 8 (length transports) h)
too_many serial_number name device_type transports out false h = refl
