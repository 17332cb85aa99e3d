-- What the writer's packets do to the receiver, one by one.
use Prim.Native.Nat.{ℕ, suc, ◌+◌, ◌≤◌, ◌<◌}
use native.Mathlib.Omega.{arith}
use mathlib.Core.Path.{◌≡◌, refl, ap, ◌∙◌}
use mathlib.Core.Option.{Option, none, some}
use Rattle.std.specs.Prelude.{Some}
use mathlib.Core.List.{List}
use mathlib.Core.Bool.{Bool, true, false, cond, ◌&&◌, ◌||◌}
use lib.ListN.{length, get_or, set, take, drop, length-take}
use lib.Seq.{sets, get_or-set_same, take-length}
use lib.Dec.{ltb}
use borrow.Author.Tests.{eq-eqb, ne_eqb, lt-leb, le-ltb, leb-true}
use Rattle.wire.proofs.Tests.{and_left, and_right}
use Rattle.wire.specs.declared.stream.Stream.{Stream}
use Rattle.wire.specs.Stream.{is_stream, stream_of}
use Rattle.wire.proofs.Streams.{number-back}
use Rattle.wire.specs.Told.{given}
use Rattle.ble_packet.specs.declared.reader.Head.{Head}
use Rattle.ble_packet.specs.declared.reader.Packet.{Packet}
use Rattle.ble_packet.specs.Header.{four_bits, header_size, sequence_after}
use Rattle.ble_packet.specs.Control.{ack_size, ack_bytes}
use Rattle.ble_packet.specs.Reader.{head_in, read_of}
use Rattle.ble_slot.specs.declared.Slot.{Slot}
use Rattle.ble_slot_steps.specs.declared.PayloadPlace.{PayloadPlace}
use Rattle.ble_slot.specs.Slot.{opens, wants, idle, is_open, slots_each, slot_count, lane_start, lane_of}
use Rattle.ble_slot_steps.specs.Step.{Step, step, finish, hold, first_step, off_total, next_step, open_spot, first_spot}
use Rattle.ble_slot.proofs.Slots.{lawful-says}
use Rattle.ble_slot.proofs.Lanes.{spot-low, lane-set, lane-four}
use Rattle.ble_slot_steps.proofs.Steps.{chosen, chosen-low, open-found}
use Rattle.ble_receiver.specs.Buffer.{part_start, part_of, stored}
use Rattle.ble_receiver.specs.Receiver.{applied, act_in, PacketCall, call, PacketLeft, leaves, read_in, accept_of}
use Rattle.ble_receiver.proofs.Parts.{part-inside}
use Rattle.ble_receiver.proofs.Accepting.{SlotsFit, accept-ready, ready-next}
use Rattle.ble_receiver.proofs.Apart.{accept-apart}
use Rattle.ble_sender.specs.declared.piece.Piece.{Piece}
use Rattle.ble_sender.specs.declared.writer.Sending.{Sending}
use Rattle.ble_sender.specs.Piece.{extended, is_first, piece_for}
use Rattle.ble_sender.specs.Writer.{is_last, packet_of}
use Rattle.ble_sender.proofs.Guard.{SendingInRange}
use Rattle.ble_claims.specs.Delivery.{Message, given_by, index_in, ours, message_of, answerable, last_out}
use Rattle.ble_claims.proofs.Reading.{head_for, first_read, next-read, payload-read}
use Rattle.ble_claims.proofs.Growing.{part-grows}

-- ---- a ready receiver

-- what was read is done, where neither 15 nor 14 is given
read-answerable : (limit : ℕ) (c : PacketCall) → answerable c ≡ true → read_in limit c ≡ read_of limit c.packet
unfolding read_in
read-answerable limit c a =
    rw (
      and_left (ltb c.sequence four_bits) _ a,
      le-ltb (length c.out) ack_size (leb-true ack_size (length c.out) (and_right (ltb c.sequence four_bits) _ a)),
    )

accept-read : (limit : ℕ) (slots : List Slot) (bytes : List ℕ) (c : PacketCall) (x : Packet) → SlotsFit limit slots bytes → answerable c ≡ true
    → read_of limit c.packet ≡ given x
    → accept_of limit slots bytes c ≡ leaves c.sequence c.out (applied limit slots bytes c.packet (lane_start (head_in x).stream) (act_in slots x))
accept-read limit slots bytes c x o a e = accept-ready limit slots bytes c o ∙ rw (read-answerable limit c a, e)

-- what its answer gives
abbrev pub gives : ℕ → PacketLeft → Option Message
gives limit l = given_by limit l.told l.bytes

-- ---- the state between the packets of a message

abbrev pub stream_for : Sending → Stream
stream_for w = stream_of w.stream

-- its stream's slots
abbrev pub lane_for : Sending → List Slot → List Slot
lane_for w slots = lane_of (stream_for w) slots

-- the index in the row of the message's slot, which is the i-th of its stream
abbrev pub index_for : Sending → ℕ → ℕ
index_for w i = lane_start (stream_for w) + i

abbrev open_slot : Sending → List ℕ → ℕ → ℕ → Slot
open_slot w m index start =
    record { opened = 1; id = w.id; sequence = sequence_after w.sequence index; wanted = 0; total = length m; held = start }

-- The packets up to the one with this index have come, and none of the stream and id since: `start` bytes are held, and the part begins
-- with them.
pub record Holding (limit : ℕ) (w : Sending) (m : List ℕ) (i index start : ℕ) (slots : List Slot) (bytes : List ℕ) : Type 0 where
  pub is-ready : SlotsFit limit slots bytes
  pub low : i < slots_each
  pub slot : get_or (lane_for w slots) i idle ≡ open_slot w m index start
  pub held : take start (part_of limit (index_for w i) bytes) ≡ take start m

-- what a packet does that is not the last
pub record More (limit : ℕ) (w : Sending) (m : List ℕ) (i index start : ℕ) (out : List ℕ) (l : PacketLeft) : Type 0 where
  pub here : index_in l.told ≡ some (index_for w i)
  pub nothing : gives limit l ≡ none
  pub same_out : l.out ≡ out
  pub holding : Holding limit w m i index start l.slots l.bytes

-- what the last packet does
pub record MessageEnds (limit : ℕ) (w : Sending) (m : List ℕ) (i : ℕ) (c : PacketCall) (l : PacketLeft) : Type 0 where
  pub here : index_in l.told ≡ some (index_for w i)
  pub message : gives limit l ≡ some (message_of w m)
  pub answer : l.out ≡ last_out w c

-- a slot that is stored at one of a stream's spots is there
lane-stored : (t : Stream) (slots : List Slot) (i : ℕ) (s : Slot) → length slots ≡ slot_count → i < slots_each
    → get_or (lane_of t (set slots (lane_start t + i) s)) i idle ≡ s
lane-stored t slots i s e low =
    let all : lane_start t + 3 < slot_count = spot-low t 3 (omega arith) in
    let long : i < length (lane_of t slots) = rw (lane-four (lane_start t) slots (omega arith)) low in
    ap (λ (lane : List Slot). get_or lane i idle) (lane-set t slots i s low) ∙ get_or-set_same (lane_of t slots) i s idle long

-- ---- what the packet of a piece does: it finishes, or more is to come

-- where its bytes are and go
abbrev payload_for : Piece → PayloadPlace
payload_for p = record { at = p.start; start = header_size (is_first p.index) (extended p.size); len = p.size }

module _ (limit : ℕ) (w : Sending) (m : List ℕ) (ok : SendingInRange limit w (length m)) (slots : List Slot) (bytes : List ℕ) (o : SlotsFit limit slots bytes)
    (i : ℕ) (low : i < slots_each) where
  inside : part_start limit (index_for w i) + limit ≤ length bytes
  inside = rw o.size (part-inside limit (index_for w i) (spot-low (stream_for w) i low))

  module _ (p : Piece) (within : p.start + p.size ≤ length m) (before : take p.start (part_of limit (index_for w i) bytes) ≡ take p.start m) (replaced : Bool) (sequence : ℕ) (out : List ℕ) (l : PacketLeft) where
    -- the piece stands behind what was held
    stores : take (p.start + p.size) (part_of limit (index_for w i) (stored limit (index_for w i) bytes (packet_of w m p) (payload_for p))) ≡ take (p.start + p.size) m
    stores = rw (payload-read w m p) (part-grows limit (index_for w i) p.start p.size bytes m inside within ok.within before)

    -- the call of its packet
    abbrev handed : PacketCall
    handed = call (packet_of w m p) sequence out

    last-gives : p.start + p.size ≡ length m
        → l ≡ leaves sequence out (applied limit slots bytes (packet_of w m p) (lane_start (stream_for w)) (step i (finish (index_for w i) (head_for w p) w.ack (length m) replaced (payload_for p))))
        → MessageEnds limit w m i handed l
    unfolding finish
    last-gives e f =
        let left : List ℕ = stored limit (index_for w i) bytes (packet_of w m p) (payload_for p) in
        let all : take (length m) (part_of limit (index_for w i) left) ≡ m = rw e at stores ∙ take-length m in
        record {
          here = rw f;
          message = rw (f, all);
          answer =
              rw f (ap (λ (n : ℕ). cond w.ack (sets out 0 (ack_bytes n w.id sequence true)) out) (number-back w.stream ok.known));
        }

    more-holds : SlotsFit limit l.slots l.bytes
        → l ≡ leaves sequence out (applied limit slots bytes (packet_of w m p) (lane_start (stream_for w)) (step i (hold (index_for w i) (head_for w p) false (length m) replaced (payload_for p))))
        → More limit w m i p.index (p.start + p.size) out l
    unfolding hold
    more-holds ready f =
        record {
          here = rw f;
          nothing = rw f;
          same_out = rw f;
          holding =
              record {
                is-ready = ready;
                low = low;
                slot = rw f (lane-stored (stream_for w) slots i _ (lawful-says limit slots o.law).count low);
                held = rw f stores;
              };
        }

-- ---- the first packet

module _ (limit : ℕ) (w : Sending) (m : List ℕ) (ok : SendingInRange limit w (length m)) (slots : List Slot) (bytes : List ℕ) (o : SlotsFit limit slots bytes)
    (i : ℕ) (taken : first_spot (lane_for w slots) w.id ≡ Some i) (n : ℕ) (small : n ≤ length m) (filled : n ≡ 0 → length m ≡ 0) (sequence : ℕ) (out : List ℕ) where
  abbrev piece : Piece
  piece = piece_for 0 0 n

  abbrev begun : PacketCall
  begun = call (packet_of w m piece) sequence out

  -- the slot that is taken, as it was before
  abbrev was : Slot
  was = get_or (lane_for w slots) i idle

  low-spot : i < slots_each
  low-spot =
      let short = length-take slots_each (drop (lane_start (stream_for w)) slots) in
      omega (arith, short, chosen-low (lane_for w slots) w.id i (chosen (lane_for w slots) w.id i taken))

  first-is : answerable begun ≡ true
      → accept_of limit slots bytes begun
      ≡ leaves sequence out
      (applied limit slots bytes (packet_of w m piece) (lane_start (stream_for w))
      (step i (first_step (index_for w i) was (head_for w piece) (is_last (length m) piece && w.ack) (length m) (header_size true (extended n)) n)))
  first-is a =
      accept-read limit slots bytes begun _ o a (first_read limit w m piece ok.known ok.id (omega arith) refl ok.within filled)
      ∙ rw taken

  first-last : answerable begun ≡ true → n ≡ length m → MessageEnds limit w m i begun (accept_of limit slots bytes begun)
  unfolding first_step
  first-last a e =
      last-gives limit w m ok slots bytes o i low-spot piece (omega arith) refl (opens was) sequence out _ (omega arith)
      (first-is a ∙ rw (eq-eqb n (length m) e, eq-eqb (0 + n) (length m) (omega arith)))

  first_more : answerable begun ≡ true → n < length m → More limit w m i 0 (0 + n) out (accept_of limit slots bytes begun)
  unfolding first_step
  first_more a l =
      more-holds limit w m ok slots bytes o i low-spot piece (omega arith) refl (opens was) sequence out _
      (ready-next limit slots bytes begun o) (first-is a ∙ rw (ne_eqb n (length m) (λ e. omega arith), ne_eqb (0 + n) (length m) (λ e. omega arith)))

-- ---- the packets after the first

-- one that fits an open transaction passes the table
next-passes : (at : ℕ) (s : Slot) (h : Head) (ack last : Bool) (start n : ℕ) → h.sequence ≡ sequence_after s.sequence 1
    → off_total last (s.held + n) s.total ≡ false
    → next_step at s h ack last start n
    ≡ cond last (finish at h (wants s || ack) s.total false (record { at = s.held; start = start; len = n }))
    (hold at h (wants s || ack) s.total false (record { at = s.held; start = start; len = n }))
unfolding next_step
next-passes at s h ack last start n q t = simp (eq-eqb h.sequence (sequence_after s.sequence 1) q, t)

module _ (limit : ℕ) (w : Sending) (m : List ℕ) (ok : SendingInRange limit w (length m)) (slots : List Slot) (bytes : List ℕ) (i index start n : ℕ)
    (h : Holding limit w m i index start slots bytes) (some_left : 1 ≤ n) (small : start + n ≤ length m) (sequence : ℕ) (out : List ℕ) where
  abbrev following : Piece
  following = piece_for (suc index) start n

  abbrev continued : PacketCall
  continued = call (packet_of w m following) sequence out

  not_first : is_first (suc index) ≡ false
  not_first = ne_eqb (suc index) 0 (λ e. omega arith)

  -- the message's slot is found
  found_at : open_spot (lane_for w slots) w.id ≡ Some i
  found_at =
      open-found w.id (lane_for w slots) i ((lawful-says limit slots h.is-ready.law).apart (stream_for w))
      (ap (is_open w.id) h.slot ∙ eq-eqb w.id w.id refl)

  next-is : answerable continued ≡ true → (last : Bool) → is_last (length m) following ≡ last → off_total last (start + n) (length m) ≡ false
      → accept_of limit slots bytes continued
      ≡ leaves sequence out
      (applied limit slots bytes (packet_of w m following) (lane_start (stream_for w))
      (step i (cond last (finish (index_for w i) (head_for w following) (last && w.ack) (length m) false (payload_for following))
      (hold (index_for w i) (head_for w following) (last && w.ack) (length m) false (payload_for following)))))
  next-is a last e t =
      accept-read limit slots bytes continued _ h.is-ready a
      (next-read limit w m following ok.known ok.id small not_first some_left)
      ∙ rw (found_at, h.slot, e, not_first)
      (ap (λ (s : Step). leaves sequence out (applied limit slots bytes (packet_of w m following) (lane_start (stream_for w)) (step i s)))
      (next-passes (index_for w i) (open_slot w m index start) (head_for w following) (last && w.ack) last (header_size false (extended n)) n (omega arith) t))

  next_last : answerable continued ≡ true → start + n ≡ length m → MessageEnds limit w m i continued (accept_of limit slots bytes continued)
  next_last a e =
      let t = eq-eqb (start + n) (length m) e in
      last-gives limit w m ok slots bytes h.is-ready i h.low following small h.held false sequence out _ e (next-is a true t (rw t))

  next_more : answerable continued ≡ true → start + n < length m → More limit w m i (suc index) (start + n) out (accept_of limit slots bytes continued)
  next_more a l =
      more-holds limit w m ok slots bytes h.is-ready i h.low following small h.held false sequence out _
      (ready-next limit slots bytes continued h.is-ready)
      (next-is a false (ne_eqb (start + n) (length m) (λ e. omega arith)) (lt-leb (length m) (start + n) l))

-- ---- any packet of the message

-- The next packet of the message is the one with this index, and its piece begins at this start: nothing is known but that the receiver
-- is ready and which slot the first one takes, or it holds what came before.
pub data Awaits (limit : ℕ) (w : Sending) (m : List ℕ) (i : ℕ) (slots : List Slot) (bytes : List ℕ) : ℕ → ℕ → Type 0 where
  opening : SlotsFit limit slots bytes → first_spot (lane_for w slots) w.id ≡ Some i → Awaits limit w m i slots bytes 0 0
  within : {index start : ℕ} → Holding limit w m i index start slots bytes → start < length m → Awaits limit w m i slots bytes (suc index) start

-- packets of other streams and other ids change nothing of what is held
pub holding-kept : {limit : ℕ} {w : Sending} {m : List ℕ} {slots : List Slot} {bytes : List ℕ} {i index start : ℕ} (q : PacketCall) → is_stream w.stream ≡ true
    → ours w q ≡ false → Holding limit w m i index start slots bytes
    → Holding limit w m i index start (accept_of limit slots bytes q).slots (accept_of limit slots bytes q).bytes
holding-kept {limit} {w} {m} {slots} {bytes} {i} {index} {start} q known e h =
    let here : is_open w.id (get_or (lane_for w slots) i idle) ≡ true = ap (is_open w.id) h.slot ∙ eq-eqb w.id w.id refl in
    let k = accept-apart limit w.stream w.id i slots bytes q h.is-ready known e h.low here in
    record {
      is-ready = ready-next limit slots bytes q h.is-ready;
      low = h.low;
      slot = k.same-slot ∙ h.slot;
      held = ap (take start) k.same-part ∙ h.held;
    }

module _ (limit : ℕ) (w : Sending) (m : List ℕ) (ok : SendingInRange limit w (length m)) (slots : List Slot) (bytes : List ℕ) (i n sequence : ℕ) (out : List ℕ) where
  abbrev call_for : ℕ → ℕ → PacketCall
  call_for index start = call (packet_of w m (piece_for index start n)) sequence out

  -- the last packet gives the message, and its ACK
  pub last_step : {index start : ℕ} → Awaits limit w m i slots bytes index start → answerable (call_for index start) ≡ true → start + n ≡ length m
      → MessageEnds limit w m i (call_for index start) (accept_of limit slots bytes (call_for index start))
  last_step (opening o t) a e = first-last limit w m ok slots bytes o i t n (omega arith) (λ z. omega arith) sequence out a (omega arith)
  last_step (within {index} {start} h l) a e = next_last limit w m ok slots bytes i index start n h (omega arith) (omega arith) sequence out a e

  -- any other gives nothing, leaves its answer buffer, and its piece is held
  pub more-step : {index start : ℕ} → Awaits limit w m i slots bytes index start → answerable (call_for index start) ≡ true → 1 ≤ n
      → start + n < length m → More limit w m i index (start + n) out (accept_of limit slots bytes (call_for index start))
  more-step (opening o t) a s l = first_more limit w m ok slots bytes o i t n (omega arith) (λ y. omega arith) sequence out a (omega arith)
  more-step (within {index} {start} h u) a s l = next_more limit w m ok slots bytes i index start n h s (omega arith) sequence out a l
