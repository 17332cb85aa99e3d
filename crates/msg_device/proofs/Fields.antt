-- Laws of device information: its length, its room, its fields one after another.
use Prim.Native.Nat.{ℕ, ◌+◌}
use mathlib.Core.Path.{◌≡◌}
use mathlib.Core.List.{List, [], ◌∷◌, map}
use lib.IntN.{ℤ}
use lib.ListN.{length}
use Rattle.wire.specs.Put.{Put}
use Rattle.proto_field.specs.Signed.{extended}
use Rattle.proto_writer.specs.Writer.{Field, text, packed, field_bytes, message_bytes}
use Rattle.proto_writer.proofs.Runs.{put-end, put-field, four-length}
use Rattle.proto_schema.specs.Schema.{serial_number_field, name_field, transports_field, device_type_field}
use Rattle.msg_device.specs.Information.{information_fields}

module _ (serial name : List ℕ) (transports : List ℤ) (kind : List ℕ) where
  pub information-length : length (message_bytes (information_fields serial name transports kind))
      ≡ length (field_bytes (text serial_number_field serial)) + length (field_bytes (text name_field name)) + length (field_bytes (packed transports_field (map extended transports)))
      + length (field_bytes (text device_type_field kind))
  information-length = four-length (text serial_number_field serial) (text name_field name) (packed transports_field (map extended transports)) (text device_type_field kind)

-- four fields, one after another
pub put_four : {l l₁ l₂ l₃ l₄ : List ℕ} {at n₁ n₂ n₃ n₄ : ℕ} (f₁ f₂ f₃ f₄ : Field) → Put l at (field_bytes f₁) n₁ l₁ → Put l₁ n₁ (field_bytes f₂) n₂ l₂
    → Put l₂ n₂ (field_bytes f₃) n₃ l₃ → Put l₃ n₃ (field_bytes f₄) n₄ l₄ → Put l at (message_bytes (f₁ ∷ f₂ ∷ f₃ ∷ f₄ ∷ [])) n₄ l₄
put_four {l₄ = l₄} {n₄ = n₄} f₁ f₂ f₃ f₄ p₁ p₂ p₃ p₄ =
    put-field f₁ (f₂ ∷ f₃ ∷ f₄ ∷ []) p₁ (put-field f₂ (f₃ ∷ f₄ ∷ []) p₂ (put-field f₃ (f₄ ∷ []) p₃ (put-field f₄ [] p₄ (put-end l₄ n₄))))
