-- Laws of fields that are written one after another: the room that they leave, and where they stand.
use Prim.Native.Nat.{ℕ, ◌+◌, ◌-◌, ◌≤◌, ◌<◌, zero-le}
use mathlib.Core.Path.{◌≡◌, refl, sym, ap, ◌∙◌}
use mathlib.Core.List.{List, [], ◌∷◌, ◌++◌, append_assoc}
use native.Mathlib.Omega.{arith}
use native.Mathlib.Decide.{dec_lt}
use lib.ListN.{length}
use borrow.Author.Tests.{lt-ltb, le-ltb}
use Rattle.wire.specs.Put.{Put}
use Rattle.proto_writer.specs.Writer.{Field, nested, head_bytes, field_bytes, message_bytes}
use Rattle.std.specs.Prelude.{Option, Some, None, SomeIff}
use Rattle.proto_writer.specs.Message.{less_room}
use Rattle.proto_writer.proofs.Runs.{put-end, put_then, put-field, joined_length, part-is, message-length}
use Rattle.proto_writer.proofs.Messages.{less-less, room-short, room-left}

-- ---- the room
less_none : (r : Option ℕ) → less_room 0 r ≡ r
less_none None = refl
less_none (Some k) = rw (le-ltb k 0 zero-le) (ap Some (omega arith))

-- bytes that do not fit
pub no-room : {k n : ℕ} → k < n → None ≡ less_room n (Some k)
no-room {k} {n} h = rw (lt-ltb k n h) refl

-- the last of several runs of bytes, n, whose sum is all
pub last-room : (len k n all : ℕ) (r : Option ℕ) → k + all ≡ len + n → SomeIff r (n ≤ k) (k - n) → r ≡ less_room all (Some len)
last-room len k n all None e s = no-room (by-test (dec_lt k n))
  where
    by-test : Dec (k < n) → len < all
    by-test (yes l) = omega arith
    by-test (no h) = absurd (s (omega arith))
last-room len k n all (Some m) e s =
    let q : m ≡ len - all = omega (arith, s.0, s.1) in
    rw (le-ltb len all (omega (arith, s.0))) (ap Some q)

pub room-end : (r : Option ℕ) → r ≡ less_room (length (message_bytes [])) r
room-end r = sym (less_none r)

pub room-more : (f : Field) (fs : List Field) (r : Option ℕ) {n : ℕ} {r₁ r₂ : Option ℕ} → n ≡ length (field_bytes f) → r₁ ≡ less_room n r
    → r₂ ≡ less_room (length (message_bytes fs)) r₁ → r₂ ≡ less_room (length (message_bytes (f ∷ fs))) r
room-more f fs r e e₁ e₂ =
    e₂ ∙ ap (less_room (length (message_bytes fs))) (e₁ ∙ ap (λ k. less_room k r) e) ∙ less-less (length (field_bytes f)) (length (message_bytes fs)) r
    ∙ ap (λ k. less_room k r) (sym (message-length f fs))

-- what is left of the room, where something is
pub room-rest : (k n m : ℕ) → less_room n (Some k) ≡ Some m → (m ≡ k - n) × (n ≤ k)
room-rest k n m e =
    let h : n ≤ k = room-left k n m e in
    let f : less_room n (Some k) ≡ Some (k - n) = rw (le-ltb k n h) in
    let g : Some m ≡ Some (k - n) = sym e ∙ f in
    let q : m ≡ k - n = cc in
    (q, h)

-- ---- fields after fields
pub message-append : (fs gs : List Field) → message_bytes fs ++ message_bytes gs ≡ message_bytes (fs ++ gs)
message-append [] gs = refl
message-append (f ∷ fs) gs = append_assoc (field_bytes f) (message_bytes fs) (message_bytes gs) ∙ ap (λ l. field_bytes f ++ l) (message-append fs gs)

pub put-join : {l l₁ l₂ : List ℕ} {at n m : ℕ} (fs gs : List Field) → Put l at (message_bytes fs) n l₁ → Put l₁ n (message_bytes gs) m l₂
    → Put l at (message_bytes (fs ++ gs)) m l₂
put-join fs gs p q = put_then (message_bytes fs) (message_bytes gs) (message-append fs gs) p q

-- ---- a message within a message
pub nested_is : (f : ℕ) (l : List ℕ) → head_bytes f (length l) ++ l ≡ field_bytes (nested f l)
unfolding field_bytes
nested_is f l = part-is f l

pub nested-length : (f : ℕ) (l : List ℕ) → length (field_bytes (nested f l)) ≡ length (head_bytes f (length l)) + length l
nested-length f l = joined_length (head_bytes f (length l)) l (nested_is f l)

-- the room that it leaves, by the room that its fields leave
pub nested-short : (f k : ℕ) (l : List ℕ) → less_room (length l) (Some k) ≡ None → None ≡ less_room (length (field_bytes (nested f l))) (Some k)
nested-short f k l e = sym (rw (lt-ltb k (length (field_bytes (nested f l))) (omega (arith, room-short k (length l) e, nested-length f l))))

-- ---- a field that is left out
pub put-skip : {l l₁ : List ℕ} {at n : ℕ} (f : Field) (fs : List Field) → field_bytes f ≡ [] → Put l at (message_bytes fs) n l₁ → Put l at (message_bytes (f ∷ fs)) n l₁
put-skip f fs e p = rw e p

-- the last field
pub put_last : {l l₁ : List ℕ} {at n : ℕ} (f : Field) → Put l at (field_bytes f) n l₁ → Put l at (message_bytes (f ∷ [])) n l₁
put_last {l₁ = l₁} {n = n} f p = put-field f [] p (put-end l₁ n)
