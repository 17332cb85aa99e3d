-- The judge takes a packet exactly where it is the one that is expected.
use Prim.Native.Nat.{ℕ, ◌-◌}
use mathlib.Core.Path.{◌≡◌, refl, ap, ◌∙◌}
use mathlib.Core.Bool.{Bool, true, false, cond, not, ◌&&◌, ◌||◌}
use mathlib.Core.Option.{none, some}
use lib.Dec.{eqb}
use borrow.Author.Tests.{eqb-true}
use Rattle.ble_packet.specs.declared.reader.Head.{Head}
use Rattle.ble_packet.specs.declared.reader.Packet.TheVariants.{First, Next, Ack, Nack}
use Rattle.ble_packet.specs.Header.{header_size, sequence_after}
use Rattle.ble_sender.specs.Piece.{extended, size_for}
use Rattle.ble_sender.specs.Writer.{type_for, room_fits}
use Rattle.capture_stream.specs.declared.SenderSlot.{SenderSlot}
use Rattle.capture_stream.specs.declared.SenderSlot.TheVariants.{Idle, Open}
use Rattle.capture_stream.specs.Slot.{same, fits_piece, slot_for, first_step, next_fits, next_step}
use Rattle.capture_next.specs.NextPacket.{next_in, next_of}
use Rattle.capture_next.specs.Expected.{is_taken, ExpectedIsTaken}

next-in : (room : ℕ) (slot : SenderSlot) (total : ℕ) → room_fits room ≡ true → next_of room slot total ≡ next_in room slot total
unfolding next_of
next-in room slot total e = rw e

taken-by : (b : Bool) (slot : SenderSlot) → is_taken (cond b (some slot) none) ≡ b
taken-by true slot = refl
taken-by false slot = refl

and-true : (b : Bool) → b ≡ (b && true)
and-true true = refl
and-true false = refl

-- a piece's length, its header and flag, and a test more: the length that is expected in the place of the one that came
by_length : (len size start left : ℕ) (first ack s : Bool) (k : ℕ → Bool) (b : Bool) → eqb len size ≡ b → s ≡ k len
    → ((b && (eqb start (header_size first (extended len)) && (not ack || eqb len left))) && s)
    ≡ ((b && (eqb start (header_size first (extended size)) && (not ack || eqb size left))) && k size)
by_length len size start left first ack s k true e q = let z : len ≡ size = eqb-true len size e in rw (← z, q)
by_length len size start left first ack s k false e q = refl

same-type : (last b : Bool) → same last b ≡ eqb (cond last 2 1) (type_for false b)
same-type true true = refl
same-type true false = refl
same-type false true = refl
same-type false false = refl

first_taken : (room : ℕ) (head : Head) (ack : Bool) (total start len : ℕ)
    → is_taken (first_step room head ack total start len)
    ≡ ((eqb len (size_for room true total)
    && (eqb start (header_size true (extended (size_for room true total))) && (not ack || eqb (size_for room true total) total)))
    && true)
unfolding first_step fits_piece
first_taken room head ack total start len =
    taken-by (fits_piece room true total ack start len) (slot_for head.id (total - len) (sequence_after head.sequence 1))
    ∙ and-true (fits_piece room true total ack start len)
    ∙ by_length len (size_for room true total) start total true ack true (λ n. true) (eqb len (size_for room true total)) refl refl

next-taken : (room id left sequence : ℕ) (head : Head) (ack last : Bool) (start len : ℕ)
    → is_taken (next_step room id left sequence head ack last start len)
    ≡ (eqb head.id id
    && (eqb head.sequence sequence
    && ((eqb len (size_for room false left)
    && (eqb start (header_size false (extended (size_for room false left))) && (not ack || eqb (size_for room false left) left)))
    && eqb (cond last 2 1) (type_for false (eqb (size_for room false left) left)))))
unfolding next_step next_fits fits_piece
next-taken room id left sequence head ack last start len =
    taken-by _ _
    ∙ ap (λ (b : Bool). eqb head.id id && (eqb head.sequence sequence && b))
    (by_length len (size_for room false left) start left false ack (same last (eqb len left)) (λ n. eqb (cond last 2 1) (type_for false (eqb n left)))
    (eqb len (size_for room false left)) refl (same-type last (eqb len left)))

-- a piece of the length that is expected, with its header and flag
abbrev fitting : ℕ → ℕ → Bool → Bool → ℕ → ℕ → Bool
fitting size left first ack start len = eqb len size && (eqb start (header_size first (extended size)) && (not ack || eqb size left))

-- no first packet is expected where a transaction is open
not_first : (a b c e : Bool) → false ≡ (a && (b && (c && eqb 0 (type_for false e))))
not_first true true true true = refl
not_first true true true false = refl
not_first true true false e = refl
not_first true false c e = refl
not_first false b c e = refl

-- and no other where none is
not-next : (last c : Bool) → false ≡ (c && eqb (cond last 2 1) 0)
not-next true true = refl
not-next true false = refl
not-next false true = refl
not-next false false = refl

pub expected-is-taken : ExpectedIsTaken
expected-is-taken room Idle (First head ack total start len) e = rw (next-in room Idle total e) (first_taken room head ack total start len)
expected-is-taken room Idle (Next head ack last start len) e = rw (next-in room Idle 0 e) (not-next last (fitting (size_for room true 0) 0 (eqb (cond last 2 1) 0) ack start len))
expected-is-taken room Idle (Ack head) e = refl
expected-is-taken room Idle (Nack head) e = refl
expected-is-taken room (Open id left sequence) (First head ack total start len) e =
    rw (next-in room (Open id left sequence) total e)
    (not_first (eqb head.id id) (eqb head.sequence sequence) (fitting (size_for room false left) left true ack start len)
    (eqb (size_for room false left) left))
expected-is-taken room (Open id left sequence) (Next head ack true start len) e =
    rw (next-in room (Open id left sequence) 0 e) (next-taken room id left sequence head ack true start len)
expected-is-taken room (Open id left sequence) (Next head ack false start len) e =
    rw (next-in room (Open id left sequence) 0 e) (next-taken room id left sequence head ack false start len)
expected-is-taken room (Open id left sequence) (Ack head) e = refl
expected-is-taken room (Open id left sequence) (Nack head) e = refl
