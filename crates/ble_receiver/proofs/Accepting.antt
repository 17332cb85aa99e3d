-- Laws of a packet given to the receiver.
use Prim.Native.Nat.{ℕ, ◌+◌, ◌*◌, ◌≤◌}
use native.Mathlib.Omega.{arith}
use mathlib.Core.Path.{◌≡◌, refl, ◌∙◌}
use mathlib.Core.List.{List, [], ◌∷◌}
use mathlib.Core.Bool.{true, false, not, ◌&&◌}
use lib.ListN.{length, get_or, set, drop, length-take, length-drop}
use lib.Seq.{length-sets}
use lib.Dec.{eqb}
use borrow.Author.Tests.{eq-eqb, eqb-true}
use Rattle.wire.specs.Limit.{limit_fits}
use Rattle.wire.specs.Told.{Told, given, refused, line}
use Rattle.wire.specs.declared.stream.Stream.{Stream}
use Rattle.wire.proofs.Tests.{and_left, and_right}
use Rattle.wire.proofs.Tables.{by-table}
use Rattle.ble_packet.specs.declared.reader.Packet.{Packet}
use Rattle.ble_packet.specs.Header.{stream_bits}
use Rattle.ble_packet.specs.Reader.{head_in, read_of}
use Rattle.ble_packet.proofs.Reading.{LinesPass, IfGiven, read-passes}
use Rattle.ble_slot.specs.declared.Slot.{Slot}
use Rattle.ble_slot_steps.specs.declared.PayloadPlace.{PayloadPlace}
use Rattle.ble_slot.specs.Slot.{slots_each, slot_count, lane_start, lane_of, lawful}
use Rattle.ble_slot_steps.specs.Step.{Act, still, step}
use Rattle.ble_slot_steps.specs.Fit.{InsidePart, ActFits, ActOwns}
use Rattle.ble_slot.proofs.Slots.{lawful-says, lawful-holds, lawful-lane}
use Rattle.ble_slot.proofs.Lanes.{lawful-set}
use Rattle.ble_slot_steps.proofs.Steps.{act-fits, act-owns}
use Rattle.ble_receiver.specs.Buffer.{payload_bytes}
use Rattle.ble_receiver.specs.Receiver.{applied, act_in, acted, ready, PacketCall, PacketLeft, left, leaves, answer_lines, read_in, accept_of}

-- ---- ready for a packet

-- a limit in its range, and a lawful row over a buffer of the right size
pub record SlotsFit (limit : ℕ) (slots : List Slot) (bytes : List ℕ) : Type 0 where
  pub range : limit_fits limit ≡ true
  pub law : lawful limit slots ≡ true
  pub size : length bytes ≡ slot_count * limit

-- the test says so, both ways
pub ready-says : (limit : ℕ) (slots : List Slot) (bytes : List ℕ) → ready limit slots (length bytes) ≡ true → SlotsFit limit slots bytes
unfolding ready
ready-says limit slots bytes e =
    let k = and_right (limit_fits limit) (eqb (length bytes) (slot_count * limit) && lawful limit slots) e in
    record {
      range = and_left (limit_fits limit) _ e;
      law = and_right (eqb (length bytes) (slot_count * limit)) _ k;
      size = eqb-true (length bytes) (slot_count * limit) (and_left (eqb (length bytes) (slot_count * limit)) _ k);
    }

pub ready-holds : (limit : ℕ) (slots : List Slot) (bytes : List ℕ) → SlotsFit limit slots bytes → ready limit slots (length bytes) ≡ true
unfolding ready
ready-holds limit slots bytes r = rw (r.range, eq-eqb (length bytes) (slot_count * limit) r.size) r.law

-- what was read is acted on, and answered
pub accept-ready : (limit : ℕ) (slots : List Slot) (bytes : List ℕ) (c : PacketCall) → SlotsFit limit slots bytes
    → accept_of limit slots bytes c ≡ leaves c.sequence c.out (acted limit slots bytes c.packet (read_in limit c))
unfolding accept_of
accept-ready limit slots bytes c r = rw (ready-holds limit slots bytes r)

-- with a limit out of its range every packet is refused by 1, and leaves all
pub limit-refused : (limit : ℕ) (slots : List Slot) (bytes : List ℕ) (c : PacketCall) → limit_fits limit ≡ false
    → accept_of limit slots bytes c ≡ left (refused 1) slots bytes c.out
unfolding ready accept_of
limit-refused limit slots bytes c e = rw e

-- what is told of a call's packet is told of the packet, or 15 or 14
pub in-passes : (limit : ℕ) (c : PacketCall) → IfGiven (LinesPass limit (length c.packet) (stream_bits (get_or c.packet 0 0))) (read_in limit c)
unfolding read_in
in-passes limit c =
    by-table (IfGiven (LinesPass limit (length c.packet) (stream_bits (get_or c.packet 0 0)))) (answer_lines c) refused (read_of limit c.packet) (λ n. tt)
    (λ h. read-passes limit c.packet)

-- a law of every packet: it holds where refusal 1 leaves all, and of what was read
by-guard : (P : List Slot → List ℕ → Type 0) (limit : ℕ) (slots : List Slot) (bytes : List ℕ) (c : PacketCall) → P slots bytes
    → P (acted limit slots bytes c.packet (read_in limit c)).slots (acted limit slots bytes c.packet (read_in limit c)).bytes
    → P (accept_of limit slots bytes c).slots (accept_of limit slots bytes c).bytes
unfolding accept_of
by-guard P limit slots bytes c a b =
    by-table (λ (l : PacketLeft). P l.slots l.bytes) (line 1 (not (ready limit slots (length bytes))) ∷ []) (λ n. left (refused n) slots bytes c.out)
    (leaves c.sequence c.out (acted limit slots bytes c.packet (read_in limit c))) (λ n. a) (λ h. b)

-- ---- the buffer keeps its length

applied-length : (limit first : ℕ) (slots : List Slot) (bytes p : List ℕ) (act : Act)
    → length (applied limit slots bytes p first act).bytes ≡ length bytes
applied-length limit first slots bytes p (still t) = refl
applied-length limit first slots bytes p (step spot s) = simp length-sets

acted-length : (limit : ℕ) (slots : List Slot) (bytes p : List ℕ) (t : Told Packet) → length (acted limit slots bytes p t).bytes ≡ length bytes
acted-length limit slots bytes p (refused n) = refl
acted-length limit slots bytes p (given x) = applied-length limit (lane_start (head_in x).stream) slots bytes p (act_in slots x)

pub accept-length : (limit : ℕ) (slots : List Slot) (bytes : List ℕ) (c : PacketCall) → length (accept_of limit slots bytes c).bytes ≡ length bytes
accept-length limit slots bytes c =
    by-guard (λ (ss : List Slot) (bs : List ℕ). length bs ≡ length bytes) limit slots bytes c refl (acted-length limit slots bytes c.packet (read_in limit c))

-- ---- what a packet that passed does, fits

pub in-fits : (limit k n : ℕ) (slots : List Slot) (x : Packet) → lawful limit slots ≡ true → LinesPass limit k n x → ActFits limit k (act_in slots x)
in-fits limit k n slots x law o =
    let t : Stream = (head_in x).stream in
    let short = length-take slots_each (drop (lane_start t) slots) in
    act-fits limit k (lane_start t) (lane_of t slots) x (omega arith) (lawful-lane limit slots t (lawful-says limit slots law)) o.within

-- and it does it to its own slot
pub in-owns : (limit : ℕ) (slots : List Slot) (x : Packet) → lawful limit slots ≡ true
    → ActOwns (head_in x).id (lane_of (head_in x).stream slots) (act_in slots x)
in-owns limit slots x law =
    let t : Stream = (head_in x).stream in
    act-owns (lane_start t) (lane_of t slots) x ((lawful-says limit slots law).apart t)

-- ---- a lawful row stays lawful

applied-lawful : (limit k id : ℕ) (a : Stream) (slots : List Slot) (bytes p : List ℕ) (act : Act) → lawful limit slots ≡ true → ActFits limit k act
    → ActOwns id (lane_of a slots) act → lawful limit (applied limit slots bytes p (lane_start a) act).slots ≡ true
applied-lawful limit k id a slots bytes p (still t) law f o = law
applied-lawful limit k id a slots bytes p (step spot s) law f o =
    lawful-holds limit (set slots (lane_start a + spot) s.slot) (lawful-set limit a slots spot s.slot (lawful-says limit slots law) f.within f.left o.alone)

acted-lawful : (limit n : ℕ) (slots : List Slot) (bytes p : List ℕ) (t : Told Packet) → lawful limit slots ≡ true
    → IfGiven (LinesPass limit (length p) n) t → lawful limit (acted limit slots bytes p t).slots ≡ true
acted-lawful limit n slots bytes p (refused m) law o = law
acted-lawful limit n slots bytes p (given x) law o =
    applied-lawful limit (length p) (head_in x).id (head_in x).stream slots bytes p (act_in slots x) law (in-fits limit (length p) n slots x law o) (in-owns limit slots x law)

pub accept-lawful : (limit : ℕ) (slots : List Slot) (bytes : List ℕ) (c : PacketCall) → lawful limit slots ≡ true
    → lawful limit (accept_of limit slots bytes c).slots ≡ true
accept-lawful limit slots bytes c law =
    by-guard (λ (ss : List Slot) (bs : List ℕ). lawful limit ss ≡ true) limit slots bytes c law
    (acted-lawful limit (stream_bits (get_or c.packet 0 0)) slots bytes c.packet (read_in limit c) law (in-passes limit c))

-- what is ready for a packet is ready for the next
pub ready-next : (limit : ℕ) (slots : List Slot) (bytes : List ℕ) (c : PacketCall) → SlotsFit limit slots bytes
    → SlotsFit limit (accept_of limit slots bytes c).slots (accept_of limit slots bytes c).bytes
ready-next limit slots bytes c r =
    record { range = r.range; law = accept-lawful limit slots bytes c r.law; size = accept-length limit slots bytes c ∙ r.size }

pub payload-length : (limit k : ℕ) (p : List ℕ) (payload : PayloadPlace) → InsidePart limit k payload → payload.at + length (payload_bytes p payload) ≤ limit
payload-length limit k p payload i = simp (length-take, length-drop) (omega arith)
