-- Laws of a component that is written of a lent text: where its parts lie, and how many bytes it has.
use Prim.Native.Nat.{ℕ, ◌+◌, ◌-◌, ◌≤◌, ◌<◌}
use mathlib.Core.Path.{◌≡◌}
use mathlib.Core.Bool.{false}
use mathlib.Core.List.{List}
use native.Mathlib.Omega.{arith}
use native.Mathlib.Decide.{dec_lt}
use lib.ListN.{length}
use lib.Dec.{ltb}
use borrow.Author.Tests.{lt-ltb, le-ltb, ltb-false}
use Rattle.wire.proofs.Tests.{or-false}
use Rattle.proto_field.specs.declared.value.Part.{Part}
use Rattle.proto_field.specs.Value.{bytes_of}
use Rattle.proto_writer.specs.Writer.{scalar, text, field_bytes, message_bytes}
use Rattle.proto_writer.proofs.Runs.{four-length}
use Rattle.proto_schema.specs.Schema.{firmware_component_version_field, firmware_component_name_field, firmware_component_size_field, firmware_component_signature_field}
use Rattle.msg_firmware.specs.declared.component.FirmwareComponent.{FirmwareComponent}
use Rattle.msg_component_writer.specs.Component.{outside, bad_component, component_fields}

-- the test in two steps, none of which passes 64 bits
pub outside-rest : (n a b : ℕ) → a ≤ n → ltb (n - a) b ≡ ltb n (a + b)
outside-rest n a b h = by-test (dec_lt n (a + b))
  where
    by-test : Dec (n < a + b) → ltb (n - a) b ≡ ltb n (a + b)
    by-test (yes l) = rw (lt-ltb (n - a) b (omega arith), lt-ltb n (a + b) l)
    by-test (no k) = rw (le-ltb (n - a) b (omega arith), le-ltb n (a + b) (omega arith))

pub lies-inside : (texts : List ℕ) (p : Part) → outside texts p ≡ false → p.start + p.len ≤ length texts
unfolding outside
lies-inside texts p e = ltb-false (length texts) (p.start + p.len) e

-- ---- a component whose parts lie within the texts
pub component-fine : (texts : List ℕ) (c : FirmwareComponent) → bad_component texts c ≡ false → (outside texts c.name ≡ false) × (outside texts c.signature ≡ false)
unfolding bad_component
component-fine texts c e = or-false (outside texts c.name) (outside texts c.signature) e

pub component-length : (texts : List ℕ) (c : FirmwareComponent) → length (message_bytes (component_fields texts c))
    ≡ length (field_bytes (scalar firmware_component_version_field c.version)) + length (field_bytes (text firmware_component_name_field (bytes_of texts c.name)))
    + length (field_bytes (scalar firmware_component_size_field c.size)) + length (field_bytes (text firmware_component_signature_field (bytes_of texts c.signature)))
component-length texts c =
    four-length (scalar firmware_component_version_field c.version) (text firmware_component_name_field (bytes_of texts c.name))
    (scalar firmware_component_size_field c.size) (text firmware_component_signature_field (bytes_of texts c.signature))
