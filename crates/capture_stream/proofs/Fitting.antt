-- A piece that fits is no more than what is left; two tests that say the same.
use Prim.Native.Nat.{ℕ, ◌≤◌}
use mathlib.Core.Path.{◌≡◌, refl}
use mathlib.Core.Bool.{Bool, true, false, beq}
use lib.Dec.{eqb}
use borrow.Author.Tests.{eqb-true}
use Rattle.wire.proofs.Tests.{and_left, and_right}
use Rattle.ble_packet.specs.declared.reader.Head.{Head}
use Rattle.ble_sender.specs.Piece.{fits, size_for}
use Rattle.ble_sender.proofs.Largest.{largest-le}
use Rattle.capture_stream.specs.Slot.{same, fits_piece, next_fits}

pub fits-small : (room left start len : ℕ) (first ack : Bool) → fits_piece room first left ack start len ≡ true → len ≤ left
unfolding fits_piece size_for
fits-small room left start len first ack e =
    let z : len ≡ size_for room first left = eqb-true len (size_for room first left) (and_left (eqb len (size_for room first left)) _ e) in
    rw z (largest-le (fits room first) left)

pub next_small : (room id left sequence : ℕ) (head : Head) (ack last : Bool) (start len : ℕ) → next_fits room id left sequence head ack last start len ≡ true
    → len ≤ left
unfolding next_fits
next_small room id left sequence head ack last start len e =
    fits-small room left start len false ack
    (and_left (fits_piece room false left ack start len) _ (and_right (eqb head.sequence sequence) _ (and_right (eqb head.id id) _ e)))

pub equal-same : (a b : Bool) → beq a b ≡ same a b
equal-same true true = refl
equal-same true false = refl
equal-same false true = refl
equal-same false false = refl
