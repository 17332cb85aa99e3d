-- Base 128 varints: what stands at a place of a message.
use Rattle.std.specs.Prelude.{ℕ, zero, suc, ◌+◌, ◌-◌, ◌*◌, cond, List, [], ◌∷◌, drop, ltb, Result, Ok, Err}
use Rattle.wire.specs.Told.{Told, given, refused, line, table}
use Rattle.proto_field.specs.declared.Refusal.{Refusal}
use Rattle.proto_field.specs.declared.varint.Placed.{Placed}
use Rattle.proto_field.specs.Refusal.{number_of}

-- the base of the digits, and what a byte adds to its digit to say that more follow
abbrev pub base : ℕ
base = 128

-- a varint has at most this many bytes after its first
abbrev pub more_bytes : ℕ
more_bytes = 9

-- the largest tenth byte
abbrev pub last_byte : ℕ
last_byte = 1

-- a byte that says that more follow, before what follows: its digit is the lowest
abbrev pub more : ℕ → Told (ℕ × ℕ) → Told (ℕ × ℕ)
more b (given p) = given (b - base + base * p.0, p.1)
more b (refused e) = refused e

-- the varint at the head of the bytes from place at on, of which at most k follow its first: its value and the place after it
abbrev pub varint_from : ℕ → ℕ → List ℕ → Told (ℕ × ℕ)
varint_from k at [] = refused 30
varint_from zero at (b ∷ s) = table (line 31 (ltb last_byte b) ∷ []) refused (given (b, at + 1))
varint_from (suc k) at (b ∷ s) = cond (ltb b base) (given (b, at + 1)) (more b (varint_from k (at + 1) s))

-- the varint at a place of a message: its value and the place after it
unfoldable pub varint_at : List ℕ → ℕ → Told (ℕ × ℕ)
varint_at s at = varint_from more_bytes at (drop at s)

-- what was read and the place after it, as a pair
abbrev pub told_placed : {A : Type 0} → Result (Placed A) Refusal → Told (A × ℕ)
told_placed (Ok p) = given (p.value, p.next)
told_placed (Err e) = refused (number_of e)

-- the answers of read_varint
abbrev pub told_varint : Result (Placed ℕ) Refusal → Told (ℕ × ℕ)
told_varint = told_placed
