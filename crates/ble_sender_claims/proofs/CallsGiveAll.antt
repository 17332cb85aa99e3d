-- Calls of the writer, place after place, give all packets of a message.
use Prim.Native.Nat.{ℕ, zero, suc, ◌+◌, ◌-◌, ◌≤◌, ◌<◌}
use native.Mathlib.Omega.{arith}
use mathlib.Core.Path.{◌≡◌, refl, ap, ◌∙◌}
use mathlib.Core.List.{List, [], ◌∷◌, map}
use mathlib.Core.Bool.{Bool, true, false, cond}
use lib.ListN.{length, take}
use lib.Seq.{sets, length-sets}
use lib.Dec.{eqb}
use borrow.Author.Tests.{eq-eqb, ne_eqb, eqb-false, le-ltb, le-leb}
use Rattle.std.specs.Prelude.{Some}
use Rattle.wire.specs.Limit.{limit_fits}
use Rattle.wire.specs.Told.{given}
use Rattle.wire.proofs.Limits.{range-limit}
use Rattle.wire.proofs.Stores.{first-bytes}
use Rattle.ble_packet.proofs.Headers.{in-range}
use Rattle.ble_sender.specs.declared.piece.Piece.{Piece}
use Rattle.ble_sender.specs.declared.writer.Sending.{Sending}
use Rattle.ble_sender.specs.Piece.{least_room, largest_room, is_first, size_for, pieces_from, piece_at}
use Rattle.ble_sender.specs.Writer.{packet_of, packets_of, is_last, room_fits, arguments_fit, found_at, sent_for, written_of}
use Rattle.ble_sender.proofs.Largest.{size-le, size-some, size_fits}
use Rattle.ble_sender.proofs.Packets.{packet-length}
use Rattle.ble_sender.proofs.Guard.{room-low, done}
use Rattle.ble_sender.proofs.Later.{last-by}
use Rattle.ble_sender_claims.specs.Calls.{packets_by, calls_from, calls_of, SendableMessage, TakesAll, CallsGiveAll}

told-by : (out : List ℕ) (later : ℕ → List (List ℕ)) (b : Bool) (n next : ℕ)
    → packets_by out later (given (sent_for b n next)) ≡ take n out ∷ cond b [] (later next)
told-by out later true n next = refl
told-by out later false n next = refl

module _ (limit : ℕ) (w : Sending) (m : List ℕ) (range : limit_fits limit ≡ true) (fits : room_fits w.room ≡ true) (fit : arguments_fit limit w (length m) ≡ true) where
  -- the next piece, where `rest` bytes are left from a place on
  abbrev size : ℕ → ℕ → ℕ
  size index rest = size_for w.room (is_first index) rest

  abbrev piece : ℕ → ℕ → ℕ → Piece
  piece index start rest = record { index = index; start = start; size = size index rest }

  low : least_room ≤ w.room
  low = room-low w.room fits

  call : (out : List ℕ) (place : ℕ) (p : Piece) → w.room ≤ length out → found_at w (length m) place ≡ Some p
      → written_of limit w m place out ≡ done w m out (given p)
  unfolding written_of
  call out place p o e = simp (fits, range, fit, e, le-ltb (length out) w.room o)

  -- a call where a piece begins gives its packet, and after it, unless it is the last, what the calls from the next place on give
  gives : (calls index start rest : ℕ) (out : List ℕ) → start + rest ≡ length m → w.room ≤ length out
      → found_at w (length m) start ≡ Some (piece index start rest)
      → calls_from (suc calls) limit w m out start
      ≡ packet_of w m (piece index start rest)
      ∷ cond (eqb (size index rest) rest) [] (calls_from calls limit w m (sets out 0 (packet_of w m (piece index start rest))) (start + size index rest))
  unfolding calls_from
  gives calls index start rest out t o e =
      let p : Piece = piece index start rest in
      let l = size-le w.room (is_first index) low rest in
      let k = packet-length w m p (omega arith) in
      let f = size_fits w.room (is_first index) low rest in
      rw (call out start p o e)
      (told-by (sets out 0 (packet_of w m p)) (calls_from calls limit w m (sets out 0 (packet_of w m p))) (is_last (length m) p) _ _
      ∙ rw (first-bytes out (packet_of w m p) (omega arith), last-by start (size index rest) rest (length m) (eqb (size index rest) rest) refl t))

  -- from a place on, the pieces are found in what is left of the list
  abbrev Finds : ℕ → List Piece → Type 0
  Finds start ps = (q : ℕ) → start ≤ q → found_at w (length m) q ≡ piece_at q ps

  finds-next : (fuel index start rest : ℕ) → size index rest < rest → Finds start (pieces_from (suc fuel) w.room index start rest)
      → Finds (start + size index rest) (pieces_from fuel w.room (suc index) (start + size index rest) (rest - size index rest))
  finds-next fuel index start rest l f q h =
      let s = size-some w.room (is_first index) low rest (omega arith) in
      f q (omega arith) ∙ rw (ne_eqb start q (λ e. omega arith), ne_eqb (size index rest) rest (λ e. omega arith))

  tail-by : (n rest : ℕ) (b : Bool) (xs : List (List ℕ)) (ps : List Piece) → eqb n rest ≡ b → n ≤ rest → (n < rest → xs ≡ map (packet_of w m) ps)
      → cond b [] xs ≡ map (packet_of w m) (cond b [] ps)
  tail-by n rest true xs ps e l h = refl
  tail-by n rest false xs ps e l h = let d : (n ≡ rest → ⊥) = eqb-false n rest e in h (omega arith)

  calls-from : (fuel index start rest : ℕ) (out : List ℕ) → start + rest ≡ length m → w.room ≤ length out
      → Finds start (pieces_from fuel w.room index start rest)
      → calls_from fuel limit w m out start ≡ map (packet_of w m) (pieces_from fuel w.room index start rest)
  unfolding calls_from
  calls-from zero index start rest out t o f = refl
  calls-from (suc fuel) index start rest out t o f =
      let n : ℕ = size index rest in
      let s = size-le w.room (is_first index) low rest in
      gives fuel index start rest out t o (f start (omega arith) ∙ rw (eq-eqb start start refl))
      ∙ ap (λ (ps : List (List ℕ)). packet_of w m (piece index start rest) ∷ ps)
      (tail-by n rest (eqb n rest) _ _ refl s
      (λ l. calls-from fuel (suc index) (start + n) (rest - n) _ (omega arith) (simp length-sets o) (finds-next fuel index start rest l f)))

pub calls_are : (limit : ℕ) (w : Sending) (m out : List ℕ) → SendableMessage limit w m out → calls_of limit w m out ≡ packets_of w m
calls_are limit w m out t =
    calls-from limit w m t.range t.room t.arguments (suc (length m)) 0 0 (length m) out (omega arith) (omega arith) (λ q h. refl)

pub calls-give-all : CallsGiveAll
calls-give-all limit w m out t = let e = calls_are limit w m out t in (e, rw e (omega arith))

pub takes_all : TakesAll
unfolding room_fits arguments_fit
takes_all limit w m out least most low high s i q l o =
    record {
      range = range-limit limit least most;
      room = rw (le-leb least_room w.room low, le-leb w.room largest_room high);
      arguments = rw (in-range w.stream w.id w.sequence s i q, le-leb (length m) limit l);
      space = omega arith;
    }
