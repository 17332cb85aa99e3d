-- What a command asks for, and of its reply the error code, the bytes of the response's member and the strings in it.
use Rattle.std.specs.Prelude.{ℕ, ◌≤◌, cond, ◌||◌, List, [], ℤ, pos, length, eqb}
use Rattle.proto_writer.specs.Writer.{message_bytes}
use Rattle.proto_reader.specs.Gathered.{most_transports}
use Rattle.msg_device.specs.declared.features.DeviceFeatures.{DeviceFeatures}
use Rattle.msg_device.specs.Information.{information_fields, information_strings}
use Rattle.msg_device.specs.Features.{features_fields}
use Rattle.reply_parts.specs.declared.body.OwnBox.{OwnBox}
use Rattle.reply_parts.specs.declared.body.CommandKind.{CommandKind}
use Rattle.reply_parts.specs.declared.body.CommandKind.TheVariants.{Information, Features, Bare, Other}

-- by the varint's value of the command: 20 asks for device information, 28 for features; 94 and 95 are answered by a bare success,
-- any other command as not supported
unfoldable pub kind_of_command : ℕ → CommandKind
kind_of_command v =
    cond (eqb v 20) Information
    (cond (eqb v 28) Features
    (cond (eqb v 94 || eqb v 95) Bare Other))

-- the error code: success, or that the command is not supported
abbrev pub code_of : CommandKind → ℤ
code_of Information = pos 0
code_of Features = pos 0
code_of Bare = pos 0
code_of Other = pos 3

-- the bytes of the member
abbrev pub body_by : List ℕ → List ℕ → List ℤ → List ℕ → DeviceFeatures → CommandKind → List ℕ
body_by serial_number name transports device_type features Information = message_bytes (information_fields serial_number name transports device_type)
body_by serial_number name transports device_type features Features = message_bytes (features_fields features)
body_by serial_number name transports device_type features Bare = []
body_by serial_number name transports device_type features Other = []

-- the strings that are carried, in writing order
abbrev pub strings_by : List ℕ → List ℕ → List ℕ → CommandKind → List (ℕ × List ℕ)
strings_by serial_number name device_type Information = information_strings serial_number name device_type
strings_by serial_number name device_type Features = []
strings_by serial_number name device_type Bare = []
strings_by serial_number name device_type Other = []

-- the same, of what is lent
abbrev pub body_lent : OwnBox → CommandKind → List ℕ
body_lent b kind =
    body_by b.information.serial_number.now b.information.name.now b.information.transports.now b.information.device_type.now b.features kind

abbrev pub strings_lent : OwnBox → CommandKind → List (ℕ × List ℕ)
strings_lent b kind = strings_by b.information.serial_number.now b.information.name.now b.information.device_type.now kind

-- transports that are carried are at most eight
abbrev pub FewCarried : CommandKind → List ℤ → Type 0
FewCarried Information transports = length transports ≤ most_transports
FewCarried Features transports = Unit {0}
FewCarried Bare transports = Unit {0}
FewCarried Other transports = Unit {0}
