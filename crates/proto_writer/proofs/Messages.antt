-- Laws of what the writers tell and leave.
use Prim.Native.Nat.{ℕ, ◌+◌, ◌-◌, ◌≤◌, ◌<◌, zero-le}
use mathlib.Core.Path.{◌≡◌, refl, ap, ◌∙◌}
use mathlib.Core.Bool.{Bool, true, false}
use mathlib.Core.List.{List}
use native.Mathlib.Omega.{arith}
use native.Mathlib.Decide.{dec_lt}
use lib.ListN.{length}
use lib.Seq.{sets, length-sets}
use lib.Dec.{ltb}
use borrow.Author.Tests.{lt-ltb, le-ltb, ltb-false}
use Rattle.wire.specs.Told.{given, refused, Written, written}
use Rattle.wire.specs.Put.{Put}
use Rattle.wire.proofs.Tests.{or-false}
use Rattle.proto_field.specs.Tag.{last_field}
use Rattle.proto_writer.specs.Writer.{Field, message_bytes}
use Rattle.std.specs.Prelude.{Option, Some, None, Result, Ok, Err}
use Rattle.proto_writer.specs.declared.message.WriteRefusal.{WriteRefusal}
use Rattle.proto_writer.specs.Message.{writes_message, bad_member, told_wrote, wrote_size, less_room}

-- ---- the lines of the table, and what is written where none holds
module _ (bad : Bool) (fields : List Field) (out : List ℕ) where
  pub wrote-bad : bad ≡ true → written {A = ℕ} (refused 15) out ≡ writes_message bad fields out
  wrote-bad b = rw b

  pub wrote-short : bad ≡ false → length out < length (message_bytes fields) → written {A = ℕ} (refused 14) out ≡ writes_message bad fields out
  wrote-short b h = rw (b, lt-ltb (length out) (length (message_bytes fields)) h)

  pub wrote : {n : ℕ} {l : List ℕ} → bad ≡ false → length (message_bytes fields) ≤ length out → Put out 0 (message_bytes fields) n l
      → written (given n) l ≡ writes_message bad fields out
  wrote {n} {l} b h p =
      let e : n ≡ length (message_bytes fields) = omega (arith, p.place) in
      rw (b, le-ltb (length out) (length (message_bytes fields)) h, e, p.stored)

-- what was written lies within the output
pub size-within : (w : Result ℕ WriteRefusal) (bad : Bool) (fields : List Field) (out l : List ℕ) → written (told_wrote w) l ≡ writes_message bad fields out → wrote_size w ≤ length l
size-within (Err r) bad fields out l e = zero-le
size-within (Ok n) true fields out l e = absurd (let t : given n ≡ refused 15 = ap (λ (w : Written ℕ). w.told) e in let z : ◌≡◌ {A = ℕ} 0 1 = cc in omega arith)
size-within (Ok n) false fields out l e = by-room (dec_lt (length out) (length (message_bytes fields)))
  where
    by-room : Dec (length out < length (message_bytes fields)) → n ≤ length l
    by-room (yes h) =
        let t : given n ≡ (writes_message false fields out).told = ap (λ (w : Written ℕ). w.told) e in
        let f : (writes_message false fields out).told ≡ refused 14 = rw (lt-ltb (length out) (length (message_bytes fields)) h) in
        absurd (let z : ◌≡◌ {A = ℕ} 0 1 = cc in omega arith)
    by-room (no h) =
        let t : ltb (length out) (length (message_bytes fields)) ≡ false = le-ltb (length out) (length (message_bytes fields)) (omega arith) in
        let f : writes_message false fields out ≡ written (given (length (message_bytes fields))) (sets out 0 (message_bytes fields)) = rw t in
        let g = e ∙ f in
        let t₁ : given n ≡ given (length (message_bytes fields)) = ap (λ (w : Written ℕ). w.told) g in
        let m : n ≡ length (message_bytes fields) = cc in
        let k : l ≡ sets out 0 (message_bytes fields) = ap (λ (w : Written ℕ). w.out) g in
        omega (arith, ap length k, length-sets out 0 (message_bytes fields))

-- ---- members
-- the number of a member that is written is a field's
pub member-above : (field : ℕ) → bad_member field ≡ false → 2 ≤ field
member-above field e = ltb-false field 2 (or-false (ltb field 2) (ltb last_field field) e).0

pub member-fits : (field : ℕ) → bad_member field ≡ false → field ≤ last_field
member-fits field e = ltb-false last_field field (or-false (ltb field 2) (ltb last_field field) e).1

-- ---- room
-- bytes after bytes
pub less-less : (a b : ℕ) (r : Option ℕ) → less_room b (less_room a r) ≡ less_room (a + b) r
less-less a b None = refl
less-less a b (Some k) = by_first (dec_lt k a)
  where
    by-second : a ≤ k → Dec (k - a < b) → less_room b (less_room a (Some k)) ≡ less_room (a + b) (Some k)
    by-second h (yes l) = rw (le-ltb k a h, lt-ltb (k - a) b l, lt-ltb k (a + b) (omega arith))
    by-second h (no n) =
        let e : k - a - b ≡ k - (a + b) = omega arith in
        rw (le-ltb k a h, le-ltb (k - a) b (omega arith), le-ltb k (a + b) (omega arith), e)

    by_first : Dec (k < a) → less_room b (less_room a (Some k)) ≡ less_room (a + b) (Some k)
    by_first (yes l) = rw (lt-ltb k a l, lt-ltb k (a + b) (omega arith))
    by_first (no n) = by-second (omega arith) (dec_lt (k - a) b)

pub room-short : (k n : ℕ) → less_room n (Some k) ≡ None → k < n
room-short k n e = by-test (dec_lt k n)
  where
    by-test : Dec (k < n) → k < n
    by-test (yes l) = l
    by-test (no h) = absurd (let z : ◌≡◌ {A = ℕ} 0 1 = (let f : less_room n (Some k) ≡ Some (k - n) = rw (le-ltb k n (omega arith)) in cc) in omega arith)

pub room-left : (k n m : ℕ) → less_room n (Some k) ≡ Some m → n ≤ k
room-left k n m e = by-test (dec_lt k n)
  where
    by-test : Dec (k < n) → n ≤ k
    by-test (yes l) = absurd (let z : ◌≡◌ {A = ℕ} 0 1 = (let f : less_room n (Some k) ≡ None = rw (lt-ltb k n l) in cc) in omega arith)
    by-test (no h) = omega arith
