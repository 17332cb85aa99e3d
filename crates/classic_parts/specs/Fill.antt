-- An output filled by a frame that is written by parts.
use Rattle.std.specs.Prelude.{ℕ, zero, suc, ◌+◌, List, [], ◌∷◌, drop}
use Rattle.classic_parts.specs.declared.state.PartProgress.{PartProgress}
use Rattle.classic_parts.specs.Byte.{Byte, nothing, byte, byte_of}

-- the bytes written, the payload bytes taken and the state afterwards
pub record Filled : Type 0 where
  pub bytes : List ℕ
  pub taken : ℕ
  pub next : PartProgress

abbrev pub stopped : PartProgress → Filled
stopped s = record { bytes = []; taken = 0; next = s }

-- a byte, and what comes after it
abbrev pub and_on : PartProgress → Byte → (PartProgress → ℕ → Filled) → Filled
and_on s nothing go = stopped s
and_on s (byte b next k) go = let f = go next k in record { bytes = b ∷ f.bytes; taken = k + f.taken; next = f.next }

-- byte after byte, as long as there is room
unfoldable pub fill_of : ℕ → PartProgress → List ℕ → Filled
fill_of zero s offered = stopped s
fill_of (suc room) s offered = and_on s (byte_of s offered) (λ next k. fill_of room next (drop k offered))
