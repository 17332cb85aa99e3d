-- The guards: what their tests say of room, length and output, and the other way.
use Prim.Native.Nat.{ℕ, ◌≤◌, ◌<◌}
use mathlib.Core.Path.{◌≡◌}
use mathlib.Core.Bool.{true, false, ◌&&◌}
use mathlib.Core.List.{List}
use lib.ListN.{length}
use lib.Dec.{ltb, leb, eqb}
use borrow.Author.Tests.{eqb-true, ltb-true, leb-true, eq-eqb, lt-ltb, le-leb}
use Rattle.wire.proofs.Tests.{and_left, and_right}
use Rattle.ble_packet.specs.Header.{four_bits}
use Rattle.ble_sender.specs.declared.writer.Sending.{Sending}
use Rattle.ble_sender.specs.Piece.{least_room, pieces_of}
use Rattle.ble_joined.specs.Joined.{joined_of, sizes, countable, joined_length, message_in, is_exact, joined_over, JoinsExactly}

pub countable-facts : (room total : ℕ) → countable room total ≡ true → (least_room ≤ room) × (total < 65536)
unfolding countable
countable-facts room total e =
    (leb-true least_room room (and_left (leb least_room room) _ e), ltb-true total 65536 (and_right (leb least_room room) _ e))

is-countable : (room total : ℕ) → least_room ≤ room → total < 65536 → countable room total ≡ true
unfolding countable
is-countable room total low small = rw (le-leb least_room room low, lt-ltb total 65536 small)

pub joined_length_lem : (room total : ℕ) → least_room ≤ room → total < 65536 → joined_length room total ≡ sizes (pieces_of room total)
unfolding joined_length
joined_length_lem room total low small = rw (is-countable room total low small)

pub exact-joins : (w : Sending) (total : ℕ) (out : List ℕ) → is_exact w total (length out) ≡ true → JoinsExactly w total out
unfolding is_exact
exact-joins w total out e =
    let low = ltb w.stream four_bits && ltb w.id four_bits in
    let long = eqb (length out) (sizes (pieces_of w.room total)) in
    let fields = and_left (low && countable w.room total) long e in
    let within = countable-facts w.room total (and_right low (countable w.room total) fields) in
    let both = and_left low (countable w.room total) fields in
    record {
      low-stream = ltb-true w.stream four_bits (and_left (ltb w.stream four_bits) (ltb w.id four_bits) both);
      low-id = ltb-true w.id four_bits (and_right (ltb w.stream four_bits) (ltb w.id four_bits) both);
      low-total = within.1;
      room = within.0;
      long = eqb-true (length out) (sizes (pieces_of w.room total)) (and_right (low && countable w.room total) long e);
    }

joins-exact : (w : Sending) (total : ℕ) (out : List ℕ) → JoinsExactly w total out → is_exact w total (length out) ≡ true
unfolding is_exact
joins-exact w total out j =
    rw (
      lt-ltb w.stream four_bits j.low-stream,
      lt-ltb w.id four_bits j.low-id,
      is-countable w.room total j.room j.low-total,
      eq-eqb (length out) (sizes (pieces_of w.room total)) j.long,
    )

pub joined-over : (w : Sending) (total : ℕ) (out : List ℕ) → JoinsExactly w total out → joined_over w total out ≡ joined_of w (message_in total out)
joined-over w total out j = rw (joins-exact w total out j)

pub not-joined : (w : Sending) (total : ℕ) (out : List ℕ) → is_exact w total (length out) ≡ false → joined_over w total out ≡ out
not-joined w total out e = rw e
