-- The packets of one message, as the writer sends it: each is accepted, and the last finishes it.
use Prim.Native.Nat.{ℕ, zero, suc, ◌+◌, ◌-◌, ◌*◌, ◌≤◌, ◌<◌}
use native.Mathlib.Omega.{arith}
use native.Mathlib.Nat.{add-zero}
use mathlib.Core.Path.{◌≡◌, refl, sym, ap, subst, ◌∙◌}
use mathlib.Core.Option.{Option, none, some}
use mathlib.Core.List.{List, [], ◌∷◌, map}
use mathlib.Core.Bool.{Bool, true, false, cond, ◌&&◌, false≢true}
use lib.ListN.{length, get_or, drop}
use lib.Dec.{eqb}
use borrow.Author.Tests.{eq-eqb, ne_eqb}
use Rattle.wire.specs.Bytes.{bit}
use Rattle.wire.specs.Told.{Told, given, refused}
use Rattle.wire.specs.Stream.{is_stream, stream_number, stream_of}
use Rattle.wire.specs.declared.stream.Stream.{Stream}
use Rattle.wire.specs.declared.stream.Stream.TheVariants.{Control, Ota, Alexa}
use Rattle.wire.proofs.Streams.{number-back}
use Rattle.ble_packet.specs.Header.{four_bits, type_first, second_byte, type_bits, first_byte, stream_bits, is_of, sequence_after}
use Rattle.ble_packet.specs.Reader.{fields_of, is_first}
use Rattle.ble_packet.proofs.Headers.{type-back}
use Rattle.ble_slot.specs.declared.Slot.{Slot}
use Rattle.ble_slot.specs.declared.answer.Accepted.{Accepted}
use Rattle.ble_slot.specs.declared.answer.Accepted.TheVariants.{Taken, Finished, Acked, Nacked}
use Rattle.ble_slot.specs.Slot.{idles}
use Rattle.ble_receiver.specs.Receiver.{PacketLeft, accept_of}
use Rattle.ble_sender.specs.declared.piece.Piece.{Piece}
use Rattle.ble_sender.specs.declared.writer.Sending.{Sending}
use Rattle.ble_sender.specs.Piece as piece
use Rattle.ble_sender.specs.Writer.{type_for, header_bytes, is_last, packet_of, packets_of}
use Rattle.ble_sender.proofs.Guard.{range-facts}
use Rattle.ble_sender_claims.specs.Calls.{calls_of, SendableMessage}
use Rattle.ble_sender_claims.proofs.CallsGiveAll.{calls-give-all}
use Rattle.ble_claims.specs.Delivery.{Message, run_of, given_by, index_in, has_slot, packets_in, CallShown, shown, shown_in, message_of, all_answerable, at_last}
use Rattle.ble_claims.proofs.MessagesArrive.{round_trip}
use Rattle.capture_report.specs.Costs.{Heard, heard, accepts, finishes, drops, payload_in, begins, followed_in, costs_in, costs_of}
use Rattle.capture_report.specs.Report.{call_for, link_run, fresh_run}
use Rattle.capture_report.proofs.Runs.{count-cons, idles-lawful, run-balances}
use Rattle.capture_report_claims.specs.Sent.{MessageCosts}

-- ---- what an answer shows of the numbers

abbrev is_some : {A : Type 0} → Option A → Bool
is_some none = false
is_some (some x) = true

abbrev total_in : Option Message → ℕ
total_in none = 0
total_in (some x) = x.total

index-accepts : (t : Told Accepted) (index : ℕ) → index_in t ≡ some index → accepts t ≡ true
index-accepts (given (Taken at stream id replaced)) index e = refl
index-accepts (given (Finished at stream id total ack replaced)) index e = refl
index-accepts (given (Acked head)) index e = absurd (false≢true (ap is_some e))
index-accepts (given (Nacked head)) index e = absurd (false≢true (ap is_some e))
index-accepts (refused n) index e = absurd (false≢true (ap is_some e))

given-finishes : (limit : ℕ) (t : Told Accepted) (bytes : List ℕ) → is_some (given_by limit t bytes) ≡ finishes t
given-finishes limit (given (Taken at stream id replaced)) bytes = refl
given-finishes limit (given (Finished at stream id total ack replaced)) bytes = refl
given-finishes limit (given (Acked head)) bytes = refl
given-finishes limit (given (Nacked head)) bytes = refl
given-finishes limit (refused n) bytes = refl

given-payload : (limit : ℕ) (t : Told Accepted) (bytes : List ℕ) → total_in (given_by limit t bytes) ≡ payload_in t
given-payload limit (given (Taken at stream id replaced)) bytes = refl
given-payload limit (given (Finished at stream id total ack replaced)) bytes = refl
given-payload limit (given (Acked head)) bytes = refl
given-payload limit (given (Nacked head)) bytes = refl
given-payload limit (refused n) bytes = refl

accepts-drops : (t : Told Accepted) → accepts t ≡ true → drops t ≡ false
accepts-drops (given x) e = refl
accepts-drops (refused n) e = absurd (false≢true e)

-- ---- packets of which each is accepted and the last finishes

record PieceHeard (s : Stream) (first : Bool) (h : Heard) : Type 0 where
  mine : is_of (stream_number s) h.packet ≡ true
  kind : is_first (fields_of h.packet) ≡ first
  taken : accepts h.told ≡ true

data Pieces (s : Stream) (payload : ℕ) : Bool → List Heard → Type 0 where
  ends : (first : Bool) (h : Heard) → PieceHeard s first h → finishes h.told ≡ true → payload_in h.told ≡ payload → Pieces s payload first (h ∷ [])
  goes : (first : Bool) (h : Heard) (hs : List Heard) → PieceHeard s first h → finishes h.told ≡ false → Pieces s payload false hs → Pieces s payload first (h ∷ hs)

record Counted (s : Stream) (payload : ℕ) (first : Bool) (hs : List Heard) : Type 0 where
  firsts : (costs_in s (followed_in hs)).firsts ≡ bit first
  finished : (costs_in s (followed_in hs)).finished ≡ 1
  dropped : (costs_in s (followed_in hs)).dropped ≡ 0
  paid : (costs_in s (followed_in hs)).payload ≡ payload

begins-by : {s : Stream} {first : Bool} {h : Heard} → PieceHeard s first h → (is_of (stream_number s) h.packet && begins h) ≡ first
begins-by i = rw (i.mine, i.taken) i.kind

heard-first : {s : Stream} (first : Bool) (h : Heard) (hs : List Heard) → PieceHeard s first h
    → (costs_in s (followed_in (h ∷ hs))).firsts ≡ bit first + (costs_in s (followed_in hs)).firsts
heard-first {s} first h hs i =
    count-cons s (λ f. begins f.it) h hs
    ∙ ap (λ (b : Bool). bit b + (costs_in s (followed_in hs)).firsts) (begins-by i)

counted : {s : Stream} {payload : ℕ} {first : Bool} {hs : List Heard} → Pieces s payload first hs → Counted s payload first hs
counted (ends first h i f p) =
    record {
      firsts = heard-first first h [] i ∙ add-zero (bit first);
      finished = rw (i.mine, f) refl;
      dropped = rw (i.mine, accepts-drops h.told i.taken) refl;
      paid = rw (i.mine, f) (omega (arith, p));
    }
counted (goes first h later i f ps) =
    let c = counted ps in
    record {
      firsts = heard-first first h later i ∙ ap (λ (n : ℕ). bit first + n) c.firsts ∙ add-zero (bit first);
      finished = rw (i.mine, f) c.finished;
      dropped = rw (i.mine, accepts-drops h.told i.taken) c.dropped;
      paid = rw (i.mine, f) c.paid;
    }

-- ---- the packets

abbrev Kinds : Stream → Bool → List (List ℕ) → Type 0
Kinds s first [] = Unit {0}
Kinds s first (p ∷ ps) = (is_of (stream_number s) p ≡ true) × (is_first (fields_of p) ≡ first) × Kinds s false ps

-- what was shown of one packet
shown-head : (index : ℕ) (message : Option Message) (out : List ℕ) (t : Told Accepted) (limit : ℕ) (bytes o : List ℕ) (xs ys : List CallShown)
    → shown (index_in t) (given_by limit t bytes) o ∷ xs ≡ shown (some index) message out ∷ ys
    → (index_in t ≡ some index) × (given_by limit t bytes ≡ message) × (xs ≡ ys)
shown-head index message out t limit bytes o xs ys e =
    let head : shown (index_in t) (given_by limit t bytes) o ≡ shown (some index) message out = cc in
    let tail : xs ≡ ys = cc in
    (ap (λ (x : CallShown). x.index) head, ap (λ (x : CallShown). x.message) head, tail)

pieces-by : (limit index : ℕ) (w : Sending) (m : List ℕ) (s : Stream) (first : Bool) (slots : List Slot) (bytes p : List ℕ) (ps : List (List ℕ))
    → Kinds s first (p ∷ ps)
    → shown_in limit (run_of limit slots bytes (map call_for (p ∷ ps))) ≡ at_last index w m (call_for p) (map call_for ps)
    → Pieces s (length m) first (link_run limit slots bytes (p ∷ ps)).heards
unfolding run_of link_run
pieces-by limit index w m s first slots bytes p [] k e =
    let l : PacketLeft = accept_of limit slots bytes (call_for p) in
    let h = shown-head index (some (message_of w m)) _ l.told limit l.bytes l.out [] [] e in
    ends first (heard p l.told) (record { mine = k.0; kind = k.1; taken = index-accepts l.told index h.0 })
    (sym (given-finishes limit l.told l.bytes) ∙ ap is_some h.1) (sym (given-payload limit l.told l.bytes) ∙ ap total_in h.1)
pieces-by limit index w m s first slots bytes p (q ∷ ps) k e =
    let l : PacketLeft = accept_of limit slots bytes (call_for p) in
    let h = shown-head index none _ l.told limit l.bytes l.out _ _ e in
    goes first (heard p l.told) _ (record { mine = k.0; kind = k.1; taken = index-accepts l.told index h.0 })
    (sym (given-finishes limit l.told l.bytes) ∙ ap is_some h.1)
    (pieces-by limit index w m s false l.slots l.bytes q ps k.2 h.2)

-- ---- the writer's packets

kind-by : (q : ℕ) (first last ack ext : Bool) → eqb (type_bits (second_byte q (type_for first last) ack ext)) type_first ≡ first
kind-by q true last ack ext = rw (type-back q 0 ack ext (omega arith)) refl
kind-by q false true ack ext = rw (type-back q 2 ack ext (omega arith)) refl
kind-by q false false ack ext = rw (type-back q 1 ack ext (omega arith)) refl

module _ (w : Sending) (m : List ℕ) (known : is_stream w.stream ≡ true) (low : w.id < four_bits) where
  packet-kind : (p : Piece) → is_first (fields_of (packet_of w m p)) ≡ piece.is_first p.index
  unfolding fields_of packet_of header_bytes
  packet-kind p =
      kind-by (sequence_after w.sequence p.index) (piece.is_first p.index) (is_last (length m) p) (is_last (length m) p && w.ack) (piece.extended p.size)

  packet-of : (p : Piece) → is_of (stream_number (stream_of w.stream)) (packet_of w m p) ≡ true
  unfolding packet_of header_bytes
  packet-of p = eq-eqb (stream_bits (first_byte w.stream w.id)) (stream_number (stream_of w.stream)) (let b = number-back w.stream known in omega (arith, b, low))

  kinds-on : (b : Bool) (ps : List Piece) → Kinds (stream_of w.stream) false (map (packet_of w m) ps) → Kinds (stream_of w.stream) false (map (packet_of w m) (cond b [] ps))
  kinds-on true ps k = tt
  kinds-on false ps k = k

  kinds-from : (fuel index start rest : ℕ) (first : Bool) → piece.is_first index ≡ first
      → Kinds (stream_of w.stream) first (map (packet_of w m) (piece.pieces_from fuel w.room index start rest))
  kinds-from zero index start rest first e = tt
  kinds-from (suc fuel) index start rest first e =
      let n : ℕ = piece.size_for w.room (piece.is_first index) rest in
      let p : Piece = record { index = index; start = start; size = n } in
      let later = kinds-from fuel (suc index) (start + n) (rest - n) false (ne_eqb (suc index) 0 (λ z. omega (arith, z))) in
      (packet-of p, packet-kind p ∙ e, kinds-on (eqb n rest) (piece.pieces_from fuel w.room (suc index) (start + n) (rest - n)) later)

-- ---- a message

packets-are : (ps : List (List ℕ)) → packets_in (map call_for ps) ≡ ps
packets-are [] = refl
packets-are (p ∷ ps) = ap (λ (qs : List (List ℕ)). p ∷ qs) (packets-are ps)

can-answer : (ps : List (List ℕ)) → all_answerable (map call_for ps) ≡ true
can-answer [] = refl
can-answer (p ∷ ps) = can-answer ps

idle-slot : (w : Sending) (s : Stream) → stream_of w.stream ≡ s → has_slot idles w ≡ true
idle-slot w Control e = rw e refl
idle-slot w Ota e = rw e refl
idle-slot w Alexa e = rw e refl

module _ (limit : ℕ) (bytes : List ℕ) (w : Sending) (m out : List ℕ) (size : length bytes ≡ 12 * limit) (t : SendableMessage limit w m out) where
  -- by the list of its packets: there is at least one
  pieces_of : (ps : List (List ℕ)) → calls_of limit w m out ≡ ps → Kinds (stream_of w.stream) true ps → 1 ≤ length ps
      → Pieces (stream_of w.stream) (length m) true (fresh_run limit bytes ps).heards
  pieces_of [] e k low = absurd (omega arith)
  pieces_of (p ∷ ps) e k low =
      let a = round_trip limit idles bytes (call_for p) (map call_for ps) w m out (idles-lawful limit) size t (sym (ap (λ (qs : List (List ℕ)). get_or qs 0 []) e))
      (packets-are ps ∙ sym (ap (λ (qs : List (List ℕ)). drop 1 qs) e)) (can-answer (p ∷ ps)) (idle-slot w (stream_of w.stream) refl) in
      pieces-by limit a.index w m (stream_of w.stream) true idles bytes p ps k a.as_said

  calls-counted : Counted (stream_of w.stream) (length m) true (fresh_run limit bytes (calls_of limit w m out)).heards
  calls-counted =
      let ok = range-facts limit w (length m) t.arguments in
      let g = calls-give-all limit w m out t in
      let k : Kinds (stream_of w.stream) true (packets_of w m) = kinds-from w m ok.known ok.id (suc (length m)) 0 0 (length m) true refl in
      counted (pieces_of (calls_of limit w m out) refl (subst (Kinds (stream_of w.stream) true) (sym g.0) k) g.1)

pub message-costs : MessageCosts
unfolding costs_of
message-costs limit bytes w m out size t =
    let c = calls-counted limit bytes w m out size t in
    let b = run-balances limit bytes (calls_of limit w m out) (stream_of w.stream) in
    record {
      one-first = c.firsts;
      one-finished = c.finished;
      none-replaced = omega (arith, b, c.firsts, c.finished, c.dropped);
      none_dropped = c.dropped;
      none-pending = omega (arith, b, c.firsts, c.finished, c.dropped);
      all-payload = c.paid;
    }
