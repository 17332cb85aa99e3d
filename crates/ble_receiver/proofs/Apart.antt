-- A packet of another stream or of another id leaves an open slot and its part of the buffer as they are.
use Prim.Native.Nat.{ℕ, ◌+◌, ◌<◌}
use native.Mathlib.Omega.{arith}
use mathlib.Core.Path.{◌≡◌, refl, sym, ap, ◌∙◌}
use mathlib.Core.Logic.{◌≢◌}
use mathlib.Core.List.{List, [], ◌∷◌}
use mathlib.Core.Bool.{Bool, true, false}
use lib.ListN.{length, get_or}
use lib.Seq.{get_or-set_other}
use lib.Dec.{eqb}
use borrow.Author.Tests.{eqb-true, eqb-false}
use Rattle.wire.specs.Told.{Told, given, refused}
use Rattle.wire.specs.declared.stream.Stream.{Stream}
use Rattle.wire.specs.Stream.{is_stream, stream_number, stream_of}
use Rattle.wire.proofs.Tests.{and_left, and_right}
use Rattle.wire.proofs.Tables.{by-table}
use Rattle.wire.proofs.Streams.{number-back}
use Rattle.ble_packet.specs.declared.reader.Packet.{Packet}
use Rattle.ble_packet.specs.Header.{first_byte, stream_bits, id_bits}
use Rattle.ble_packet.specs.Reader.{fields_of, is_first, is_control, head_in, content_of, lines, read_of}
use Rattle.ble_packet.proofs.Reading.{LinesPass, IfGiven, empty-refused}
use Rattle.ble_slot.specs.declared.Slot.{Slot}
use Rattle.ble_slot.specs.Slot.{opens, idle, is_open, slots_each, lane_number, lane_start, lane_of, lawful}
use Rattle.ble_slot_steps.specs.Step.{Step, Act, still, step}
use Rattle.ble_slot_steps.specs.Fit.{Fit, ActFits, Own, ActOwns}
use Rattle.ble_slot.proofs.Lanes.{same-stream, spot-other, lane-other, lane-set}
use Rattle.ble_receiver.specs.Buffer.{part_of, payload_bytes}
use Rattle.ble_receiver.specs.Receiver.{Result, result, applied, act_in, acted, is_for, PacketCall, call, answer_lines, read_in, accept_of}
use Rattle.ble_receiver.proofs.Parts.{part-elsewhere}
use Rattle.ble_receiver.proofs.Accepting.{SlotsFit, accept-ready, in-passes, in-fits, in-owns, payload-length}

-- ---- the id that is told is that of byte 0

content-id : (p : List ℕ) (control first ack : Bool) → is_control (fields_of p) ≡ control → is_first (fields_of p) ≡ first → (fields_of p).ack ≡ ack
    → (head_in (content_of (fields_of p))).id ≡ (fields_of p).head.id
unfolding content_of
content-id p true first true ec ef ea = rw (ec, ea)
content-id p true first false ec ef ea = rw (ec, ea)
content-id p false true ack ec ef ea = rw (ec, ef)
content-id p false false ack ec ef ea = rw (ec, ef)

-- the id that stands in byte 0
start-id : (b : ℕ) (p : List ℕ) → (fields_of (b ∷ p)).head.id ≡ id_bits b
unfolding fields_of
start-id b p = refl

-- told with the id of a byte
abbrev pub IdOf : ℕ → Told Packet → Type 0
IdOf b t = IfGiven (λ (x : Packet). (head_in x).id ≡ id_bits b) t

pub read-id : (limit b : ℕ) (p : List ℕ) → IdOf b (read_of limit (b ∷ p))
unfolding read_of
read-id limit b p =
    by-table (IdOf b) (lines limit (fields_of (b ∷ p))) refused (given (content_of (fields_of (b ∷ p)))) (λ n. tt) (λ h.
    content-id (b ∷ p) (is_control (fields_of (b ∷ p))) (is_first (fields_of (b ∷ p))) (fields_of (b ∷ p)).ack refl refl refl ∙ start-id b p)

in-id : (limit b : ℕ) (p : List ℕ) (sequence : ℕ) (out : List ℕ) → IdOf b (read_in limit (call (b ∷ p) sequence out))
unfolding read_in
in-id limit b p sequence out =
    by-table (IdOf b) (answer_lines (call (b ∷ p) sequence out)) refused (read_of limit (b ∷ p)) (λ n. tt) (λ h. read-id limit b p)

-- told of another stream, or of another id
abbrev Other : Stream → ℕ → Told Packet → Type 0
Other t id told = IfGiven (λ (x : Packet). (head_in x).stream ≡ t → (head_in x).id ≢ id) told

by_byte : (limit k stream id b : ℕ) (told : Told Packet) → is_stream stream ≡ true → eqb b (first_byte stream id) ≡ false
    → IfGiven (LinesPass limit k (stream_bits b)) told → IdOf b told → Other (stream_of stream) id told
by_byte limit k stream id b (refused n) known e o i = tt
by_byte limit k stream id b (given x) known e o i = λ s d.
    let upper : stream_bits b ≡ stream
    = sym (number-back (stream_bits b) o.known) ∙ ap stream_number (sym o.named ∙ s) ∙ number-back stream known in
    let lower : id_bits b ≡ id = sym i ∙ d in
    eqb-false b (first_byte stream id) e (omega arith)

nothing-told : (limit sequence : ℕ) (out : List ℕ) (t : Stream) (id : ℕ) → Other t id (read_in limit (call [] sequence out))
unfolding read_in
nothing-told limit sequence out t id =
    by-table (Other t id) (answer_lines (call [] sequence out)) refused (read_of limit []) (λ n. tt) (λ h. rw (empty-refused limit) tt)

not-for : (limit stream id sequence : ℕ) (p out : List ℕ) → is_stream stream ≡ true → is_for stream id p ≡ false
    → Other (stream_of stream) id (read_in limit (call p sequence out))
not-for limit stream id sequence [] out known o = nothing-told limit sequence out (stream_of stream) id
not-for limit stream id sequence (b ∷ p) out known o =
    by_byte limit (length (b ∷ p)) stream id b (read_in limit (call (b ∷ p) sequence out)) known o (in-passes limit (call (b ∷ p) sequence out))
    (in-id limit b p sequence out)

-- ---- a slot and its part

-- the slot at a spot of a stream's, and its part, are as they were
pub record KeptSlots (limit : ℕ) (t : Stream) (spot : ℕ) (slots : List Slot) (bytes : List ℕ) (next : List Slot) (later : List ℕ) : Type 0 where
  pub same-slot : get_or (lane_of t next) spot idle ≡ get_or (lane_of t slots) spot idle
  pub same-part : part_of limit (lane_start t + spot) later ≡ part_of limit (lane_start t + spot) bytes

module _ (limit : ℕ) (t : Stream) (id i : ℕ) (slots : List Slot) (bytes : List ℕ) (low : i < slots_each) (known : is_open id (get_or (lane_of t slots) i idle) ≡ true) where
  abbrev KeptBy : Result → Type 0
  KeptBy r = KeptSlots limit t i slots bytes r.slots r.bytes

  kept-all : (r : Result) → r.slots ≡ slots → r.bytes ≡ bytes → KeptBy r
  kept-all r es eb = record { same-slot = rw es; same-part = rw eb }

  -- a step of another stream's slot
  other-kept : (p : List ℕ) (a : Stream) (spot : ℕ) (s : Step) → a ≢ t → Fit limit (length p) spot s
      → KeptBy (applied limit slots bytes p (lane_start a) (step spot s))
  other-kept p a spot s d f =
      record {
        same-slot = ap (λ (lane : List Slot). get_or lane i idle) (lane-other a t slots spot s.slot d f.within);
        same-part =
            part-elsewhere limit (lane_start t + i) (lane_start a + spot) s.payload.at bytes (payload_bytes p s.payload)
            (spot-other t a i spot (λ e. d (sym e)) low f.within) (payload-length limit (length p) p s.payload f.inside);
      }

  -- a step of another slot of the stream
  beside-kept : (p : List ℕ) (spot : ℕ) (s : Step) → i ≢ spot → Fit limit (length p) spot s
      → KeptBy (applied limit slots bytes p (lane_start t) (step spot s))
  beside-kept p spot s d f =
      record {
        same-slot =
            ap (λ (lane : List Slot). get_or lane i idle) (lane-set t slots spot s.slot f.within)
            ∙ get_or-set_other (lane_of t slots) spot i s.slot idle d;
        same-part =
            part-elsewhere limit (lane_start t + i) (lane_start t + spot) s.payload.at bytes (payload_bytes p s.payload) (λ e. d (omega arith))
            (payload-length limit (length p) p s.payload f.inside);
      }

  -- a packet's own slot is not one that is open with another id
  not-here : (a : Stream) (n spot : ℕ) (s : Step) → a ≡ t → n ≢ id → Own n (lane_of a slots) spot s → i ≢ spot
  not-here a n spot s same d o e =
      let z : get_or (lane_of a slots) spot idle ≡ get_or (lane_of t slots) i idle
      = ap (λ (u : Stream). get_or (lane_of u slots) spot idle) same ∙ ap (λ (k : ℕ). get_or (lane_of t slots) k idle) (sym e) in
      let here : Slot = get_or (lane_of t slots) i idle in
      d
      (sym (o.was (ap (λ (x : Slot). opens x) z ∙ and_left (opens here) _ known))
      ∙ ap (λ (x : Slot). x.id) z
      ∙ eqb-true here.id id (and_right (opens here) _ known))

  applied-kept : (p : List ℕ) (a : Stream) (n : ℕ) (act : Act) (b : Bool) → eqb (lane_number a) (lane_number t) ≡ b → (a ≡ t → n ≢ id)
      → ActFits limit (length p) act → ActOwns n (lane_of a slots) act → KeptBy (applied limit slots bytes p (lane_start a) act)
  applied-kept p a n (still told) b e d f o = kept-all (result told slots bytes) refl refl
  applied-kept p a n (step spot s) false e d f o =
      other-kept p a spot s (λ same. eqb-false (lane_number a) (lane_number t) e (ap lane_number same)) f
  applied-kept p a n (step spot s) true e d f o =
      let same : a ≡ t = same-stream a t (eqb-true (lane_number a) (lane_number t) e) in
      let apart : i ≢ spot = not-here a n spot s same (d same) o in
      rw same (beside-kept p spot s apart f)

  acted-kept : (p : List ℕ) (m : ℕ) (told : Told Packet) → lawful limit slots ≡ true → IfGiven (LinesPass limit (length p) m) told → Other t id told
      → KeptBy (acted limit slots bytes p told)
  acted-kept p m (refused n) law o d = kept-all (result (refused n) slots bytes) refl refl
  acted-kept p m (given x) law o d =
      applied-kept p (head_in x).stream (head_in x).id (act_in slots x) (eqb (lane_number (head_in x).stream) (lane_number t)) refl d
      (in-fits limit (length p) m slots x law o) (in-owns limit slots x law)

-- a packet that is not for a stream and an id leaves the slot that is open with it, and its part
pub accept-apart : (limit stream id i : ℕ) (slots : List Slot) (bytes : List ℕ) (c : PacketCall) → SlotsFit limit slots bytes → is_stream stream ≡ true
    → is_for stream id c.packet ≡ false → i < slots_each → is_open id (get_or (lane_of (stream_of stream) slots) i idle) ≡ true
    → KeptSlots limit (stream_of stream) i slots bytes (accept_of limit slots bytes c).slots (accept_of limit slots bytes c).bytes
accept-apart limit stream id i slots bytes c r known o low here =
    rw (accept-ready limit slots bytes c r)
    (acted-kept limit (stream_of stream) id i slots bytes low here c.packet (stream_bits (get_or c.packet 0 0)) (read_in limit c) r.law
    (in-passes limit c) (not-for limit stream id c.sequence c.packet c.out known o))
