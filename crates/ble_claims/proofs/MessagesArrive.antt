-- Messages arrive: one induction over the packets that come, whatever came before and comes after.
use Prim.Native.Nat.{ℕ, zero, suc, ◌+◌, ◌-◌, ◌≤◌, ◌<◌}
use native.Mathlib.Omega.{arith}
use mathlib.Core.Path.{◌≡◌, refl, sym, ap, ◌∙◌}
use mathlib.Core.Option.{none, some}
use Rattle.std.specs.Prelude.{Some}
use mathlib.Core.Logic.{inl, inr}
use mathlib.Core.List.{List, [], ◌∷◌, ◌++◌, map, append_assoc}
use mathlib.Core.Bool.{Bool, true, false, cond, ◌&&◌}
use lib.ListN.{length, get_or, take, drop}
use lib.Dec.{eqb}
use borrow.Author.Tests.{eqb-true, eqb-false, eq-eqb, lt-ltb, le-leb}
use Rattle.wire.specs.Those.{those}
use Rattle.ble_packet.specs.Header.{four_bits, first_byte}
use Rattle.ble_packet.specs.Control.{ack_size}
use Rattle.ble_slot.specs.declared.Slot.{Slot}
use Rattle.ble_slot.specs.Slot.{idle, is_idle, any_open, any_idle}
use Rattle.ble_slot_steps.specs.Step.{first_spot}
use Rattle.ble_slot.proofs.Slots.{any_at}
use Rattle.ble_slot_steps.proofs.Steps.{SpotIn, first_found}
use Rattle.ble_receiver.specs.Receiver.{PacketCall, call, PacketLeft, accept_of}
use Rattle.ble_receiver.proofs.Accepting.{SlotsFit, ready-next}
use Rattle.ble_sender.specs.declared.piece.Piece.{Piece}
use Rattle.ble_sender.specs.declared.writer.Sending.{Sending}
use Rattle.ble_sender.specs.Piece.{least_room, is_first, size_for, pieces_from, pieces_of, piece_for}
use Rattle.ble_sender.specs.Writer.{header_bytes, packet_of, packets_of}
use Rattle.ble_sender.proofs.Largest.{size-le, size-some}
use Rattle.ble_sender.proofs.Guard.{SendingInRange, room-low, range-facts}
use Rattle.ble_sender_claims.proofs.CallsGiveAll.{calls_are}
use Rattle.ble_claims.specs.Delivery.{PacketReply, run_of, row_after, index_in, ours, packets_in, CallShown, shown, shown_in, shown_to, answerable, all_answerable, AnswerableAll, at_last, Arrived, MessagesArrive, RoundTrip, SlotEnough, MessageAsked}
use Rattle.wire.proofs.Tests.{and_left, and_right, or-true}
use Rattle.ble_claims.proofs.Steps.{gives, lane_for, index_for, Holding, Awaits, opening, within, holding-kept, last_step, more-step}

pub answerable-all : AnswerableAll
answerable-all c low room = rw (lt-ltb c.sequence four_bits (omega arith), le-leb ack_size (length c.out) room)

-- ---- one packet of a run

module _ (limit : ℕ) (w : Sending) (slots : List Slot) (bytes : List ℕ) (q : PacketCall) (ds : List PacketCall) where
  skipped : ours w q ≡ false
      → shown_to limit w (run_of limit slots bytes (q ∷ ds))
      ≡ shown_to limit w (run_of limit (accept_of limit slots bytes q).slots (accept_of limit slots bytes q).bytes ds)
  unfolding run_of
  skipped e = rw e

  looked-at : ours w q ≡ true
      → shown_to limit w (run_of limit slots bytes (q ∷ ds))
      ≡ shown (index_in (accept_of limit slots bytes q).told) (gives limit (accept_of limit slots bytes q)) (accept_of limit slots bytes q).out
      ∷ shown_to limit w (run_of limit (accept_of limit slots bytes q).slots (accept_of limit slots bytes q).bytes ds)
  unfolding run_of
  looked-at e = rw e

left_out : {A : Type 0} (test : A → Bool) (x : A) (xs : List A) → test x ≡ false → those test (x ∷ xs) ≡ those test xs
left_out test x xs e = rw e

put_in : {A : Type 0} (test : A → Bool) (x : A) (xs : List A) → test x ≡ true → those test (x ∷ xs) ≡ x ∷ those test xs
put_in test x xs e = rw e

-- a list without packets of the message shows nothing
abbrev Quiet : ℕ → Sending → List PacketCall → Type 0
Quiet limit w ds = (slots : List Slot) (bytes : List ℕ) → those (ours w) ds ≡ [] → shown_to limit w (run_of limit slots bytes ds) ≡ []

quiet_by : (limit : ℕ) (w : Sending) (q : PacketCall) (ds : List PacketCall) (b : Bool) → ours w q ≡ b → Quiet limit w ds → Quiet limit w (q ∷ ds)
quiet_by limit w q ds true f later slots bytes e =
    let z : 0 ≡ suc (length (those (ours w) ds)) = ap length (sym e ∙ put_in (ours w) q ds f) in
    absurd (omega arith)
quiet_by limit w q ds false f later slots bytes e =
    skipped limit w slots bytes q ds f ∙ later _ _ (sym (left_out (ours w) q ds f) ∙ e)

quiet : (limit : ℕ) (w : Sending) (ds : List PacketCall) → Quiet limit w ds
unfolding run_of
quiet limit w [] slots bytes e = refl
quiet limit w (q ∷ ds) slots bytes e = quiet_by limit w q ds (ours w q) refl (quiet limit w ds) slots bytes e

-- ---- the packets of the message

-- the writer's packets are of its stream and id, whatever they are handed in with
packet-ours : (w : Sending) (m : List ℕ) (p : Piece) (sequence : ℕ) (out : List ℕ) → ours w (call (packet_of w m p) sequence out) ≡ true
unfolding packet_of header_bytes
packet-ours w m p sequence out = eq-eqb (first_byte w.stream w.id) (first_byte w.stream w.id) refl

-- where there are no packets there are no calls
no-calls : (cs : List PacketCall) → packets_in cs ≡ [] → cs ≡ []
no-calls [] e = refl
no-calls (c ∷ cs) e = let z = ap length e in absurd (omega arith)

-- what the calls of a message show, from one of them on
abbrev from_next : ℕ → Sending → List ℕ → List PacketCall → List CallShown
from_next at w m [] = []
from_next at w m (c ∷ cs) = at_last at w m c cs

-- where packets are still to come, a call shows nothing
more-come : (at : ℕ) (w : Sending) (m : List ℕ) (c : PacketCall) (cs : List PacketCall) (fuel index start rest : ℕ) → 1 ≤ fuel
    → packets_in cs ≡ map (packet_of w m) (pieces_from fuel w.room index start rest)
    → at_last at w m c cs ≡ shown (some at) none c.out ∷ from_next at w m cs
more-come at w m c cs zero index start rest l e = absurd (omega arith)
more-come at w m c [] (suc fuel) index start rest l e = let z = ap length e in absurd (omega arith)
more-come at w m c (d ∷ cs) (suc fuel) index start rest l e = refl

module _ (limit : ℕ) (w : Sending) (m : List ℕ) (room : least_room ≤ w.room) (ok : SendingInRange limit w (length m)) (i : ℕ) where
  -- the index in the row of the message's slot
  abbrev at-index : ℕ
  at-index = index_for w i

  abbrev packets_from : ℕ → ℕ → ℕ → ℕ → List (List ℕ)
  packets_from fuel index start rest = map (packet_of w m) (pieces_from fuel w.room index start rest)

  -- those after a piece of n bytes, which may be the last
  abbrev packets_after : Bool → ℕ → ℕ → ℕ → ℕ → ℕ → List (List ℕ)
  packets_after last fuel index start rest n = map (packet_of w m) (cond last [] (pieces_from fuel w.room (suc index) (start + n) (rest - n)))

  -- what is held is all before a piece's start, and the packets of the pieces from there on are all that come of the message in ds, each answerable
  abbrev Rest : List PacketCall → Type 0
  Rest ds =
      (fuel index start rest : ℕ) (slots : List Slot) (bytes : List ℕ) → Holding limit w m i index start slots bytes → start + rest ≡ length m → rest < fuel
      → 1 ≤ rest → packets_in (those (ours w) ds) ≡ packets_from fuel (suc index) start rest → all_answerable (those (ours w) ds) ≡ true
      → shown_to limit w (run_of limit slots bytes ds) ≡ from_next at-index w m (those (ours w) ds)

  -- the awaited packet comes
  awaited : (ds : List PacketCall) → Rest ds → (fuel index start rest n sequence : ℕ) (out : List ℕ) (slots : List Slot) (bytes : List ℕ)
      → Awaits limit w m i slots bytes index start
      → start + rest ≡ length m → rest < suc fuel → n ≡ size_for w.room (is_first index) rest
      → answerable (call (packet_of w m (piece_for index start n)) sequence out) ≡ true → all_answerable (those (ours w) ds) ≡ true
      → (last : Bool) → eqb n rest ≡ last → packets_in (those (ours w) ds) ≡ packets_after last fuel index start rest n
      → shown_to limit w (run_of limit slots bytes (call (packet_of w m (piece_for index start n)) sequence out ∷ ds))
      ≡ at_last at-index w m (call (packet_of w m (piece_for index start n)) sequence out) (those (ours w) ds)
  awaited ds later fuel index start rest n sequence out slots bytes a t f en can each true b e =
      let c : PacketCall = call (packet_of w m (piece_for index start n)) sequence out in
      let nr : n ≡ rest = eqb-true n rest b in
      let none_left : those (ours w) ds ≡ [] = no-calls (those (ours w) ds) e in
      let ends = last_step limit w m ok slots bytes i n sequence out a can (omega arith) in
      looked-at limit w slots bytes c ds (packet-ours w m (piece_for index start n) sequence out)
      ∙ rw (ends.here, ends.message, ends.answer, quiet limit w ds (accept_of limit slots bytes c).slots (accept_of limit slots bytes c).bytes none_left, none_left)
  awaited ds later fuel index start rest n sequence out slots bytes a t f en can each false b e =
      let c : PacketCall = call (packet_of w m (piece_for index start n)) sequence out in
      let l : PacketLeft = accept_of limit slots bytes c in
      let d : (n ≡ rest → ⊥) = eqb-false n rest b in
      let s2 : n ≤ rest = rw en (size-le w.room (is_first index) room rest) in
      let s1 : 1 ≤ n = rw en (size-some w.room (is_first index) room rest (omega arith)) in
      let more = more-step limit w m ok slots bytes i n sequence out a can s1 (omega arith) in
      looked-at limit w slots bytes c ds (packet-ours w m (piece_for index start n) sequence out)
      ∙ rw (
        more.here,
        more.nothing,
        more.same_out,
        later fuel index (start + n) (rest - n) l.slots l.bytes more.holding (omega arith) (omega arith) (omega arith) e each,
      )
      (sym (more-come at-index w m c (those (ours w) ds) fuel (suc index) (start + n) (rest - n) (omega arith) e))

  rest-by : (q : PacketCall) (ds : List PacketCall) → Rest ds → (b : Bool) → ours w q ≡ b → Rest (q ∷ ds)
  rest-by q ds later b g zero index start rest slots bytes h t f s e each = absurd (omega arith)
  rest-by q ds later true g (suc fuel) index start rest slots bytes h t f s e each =
      let n : ℕ = size_for w.room (is_first (suc index)) rest in
      let p : List ℕ = packet_of w m (piece_for (suc index) start n) in
      let both : q.packet ∷ packets_in (those (ours w) ds) ≡ p ∷ packets_after (eqb n rest) fuel (suc index) start rest n
      = ap packets_in (sym (put_in (ours w) q ds g)) ∙ e in
      let head : q.packet ≡ p = cc in
      let tail : packets_in (those (ours w) ds) ≡ packets_after (eqb n rest) fuel (suc index) start rest n = cc in
      let same : q ≡ call p q.sequence q.out = ap (λ (bs : List ℕ). call bs q.sequence q.out) head in
      let can : (answerable q && all_answerable (those (ours w) ds)) ≡ true = ap all_answerable (sym (put_in (ours w) q ds g)) ∙ each in
      let now-can : answerable (call p q.sequence q.out) ≡ true = ap answerable (sym same) ∙ and_left (answerable q) _ can in
      let later-can : all_answerable (those (ours w) ds) ≡ true = and_right (answerable q) _ can in
      ap (λ (c : PacketCall). shown_to limit w (run_of limit slots bytes (c ∷ ds))) same
      ∙ awaited ds later fuel (suc index) start rest n q.sequence q.out slots bytes (within h (omega arith)) t f refl now-can later-can (eqb n rest) refl tail
      ∙ ap (λ (c : PacketCall). at_last at-index w m c (those (ours w) ds)) (sym same)
      ∙ ap (from_next at-index w m) (sym (put_in (ours w) q ds g))
  rest-by q ds later false g (suc fuel) index start rest slots bytes h t f s e each =
      skipped limit w slots bytes q ds g
      ∙ later (suc fuel) index start rest _ _ (holding-kept q ok.known g h) t f s (ap packets_in (sym (left_out (ours w) q ds g)) ∙ e)
      (ap all_answerable (sym (left_out (ours w) q ds g)) ∙ each)
      ∙ ap (from_next at-index w m) (sym (left_out (ours w) q ds g))

  rest-shown : (ds : List PacketCall) → Rest ds
  rest-shown [] zero index start rest slots bytes h t f s e each = absurd (omega arith)
  rest-shown [] (suc fuel) index start rest slots bytes h t f s e each = let z = ap length e in absurd (omega arith)
  rest-shown (q ∷ ds) fuel index start rest slots bytes h t f s e each =
      rest-by q ds (rest-shown ds) (ours w q) refl fuel index start rest slots bytes h t f s e each

  -- the first packet comes, and later the others
  all_shown : (first : PacketCall) (later : List PacketCall) (slots : List Slot) (bytes : List ℕ) → SlotsFit limit slots bytes → first_spot (lane_for w slots) w.id ≡ Some i
      → first.packet ≡ get_or (packets_of w m) 0 [] → packets_in (those (ours w) later) ≡ drop 1 (packets_of w m)
      → all_answerable (first ∷ those (ours w) later) ≡ true
      → shown_to limit w (run_of limit slots bytes (first ∷ later)) ≡ at_last at-index w m first (those (ours w) later)
  all_shown first later slots bytes o taken begins e each =
      let n : ℕ = size_for w.room (is_first 0) (length m) in
      let p : List ℕ = packet_of w m (piece_for 0 0 n) in
      let same : first ≡ call p first.sequence first.out = ap (λ (bs : List ℕ). call bs first.sequence first.out) begins in
      let now-can : answerable (call p first.sequence first.out) ≡ true = ap answerable (sym same) ∙ and_left (answerable first) _ each in
      let later-can : all_answerable (those (ours w) later) ≡ true = and_right (answerable first) _ each in
      ap (λ (c : PacketCall). shown_to limit w (run_of limit slots bytes (c ∷ later))) same
      ∙ awaited later (rest-shown later) (length m) 0 0 (length m) n first.sequence first.out slots bytes (opening o taken) (omega arith) (omega arith) refl
      now-can later-can (eqb n (length m)) refl e
      ∙ ap (λ (c : PacketCall). at_last at-index w m c (those (ours w) later)) (sym same)

-- ---- whatever came before, whatever comes after

-- a ready receiver over this row, from which the rest of the run goes on
record Later (limit : ℕ) (slots : List Slot) (replies : List PacketReply) (rest : List PacketCall) : Type 0 where
  pub bytes : List ℕ
  pub is-ready : SlotsFit limit slots bytes
  pub same : replies ≡ run_of limit slots bytes rest

later-on : (limit : ℕ) (slots : List Slot) (bytes : List ℕ) (before rest : List PacketCall) → SlotsFit limit slots bytes
    → Later limit (row_after limit slots bytes before) (drop (length before) (run_of limit slots bytes (before ++ rest))) rest
unfolding run_of row_after
later-on limit slots bytes [] rest o = record { bytes = bytes; is-ready = o; same = refl }
later-on limit slots bytes (q ∷ qs) rest o =
    later-on limit (accept_of limit slots bytes q).slots (accept_of limit slots bytes q).bytes qs rest (ready-next limit slots bytes q o)

run-cut : (limit : ℕ) (slots : List Slot) (bytes : List ℕ) (ds after : List PacketCall)
    → take (length ds) (run_of limit slots bytes (ds ++ after)) ≡ run_of limit slots bytes ds
unfolding run_of
run-cut limit slots bytes [] after = refl
run-cut limit slots bytes (q ∷ ds) after = rw (run-cut limit (accept_of limit slots bytes q).slots (accept_of limit slots bytes q).bytes ds after)

during-shown : (limit : ℕ) (slots : List Slot) (first : PacketCall) (later after : List PacketCall) (w : Sending) (m : List ℕ) (replies : List PacketReply)
    → least_room ≤ w.room → SendingInRange limit w (length m) → first.packet ≡ get_or (packets_of w m) 0 []
    → packets_in (those (ours w) later) ≡ drop 1 (packets_of w m) → all_answerable (first ∷ those (ours w) later) ≡ true
    → Later limit slots replies ((first ∷ later) ++ after) → SpotIn (first_spot (lane_for w slots) w.id)
    → Arrived w m first (those (ours w) later) (shown_to limit w (take (length (first ∷ later)) replies))
during-shown limit slots first later after w m replies room ok begins e each l s =
    record {
      index = index_for w s.spot;
      as_said =
          ap (λ (rs : List PacketReply). shown_to limit w (take (length (first ∷ later)) rs)) l.same
          ∙ ap (shown_to limit w) (run-cut limit slots l.bytes (first ∷ later) after)
          ∙ all_shown limit w m room ok s.spot first later slots l.bytes l.is-ready s.is begins e each;
    }

pub messages-arrive : MessagesArrive
messages-arrive limit slots bytes before first later after w m out law size t begins e each free =
    let s = calls_are limit w m out t in
    let row : List Slot = row_after limit slots bytes before in
    rw append_assoc
    (during-shown limit row first later after w m _ (room-low w.room t.room) (range-facts limit w (length m) t.arguments)
    (begins ∙ ap (λ (ps : List (List ℕ)). get_or ps 0 []) s) (e ∙ ap (λ (ps : List (List ℕ)). drop 1 ps) s) each
    (later-on limit slots bytes before ((first ∷ later) ++ after) (record { range = t.range; law = law; size = size }))
    (first_found (lane_for w row) w.id free))

-- ---- nothing before or between

-- a call of one of the writer's packets is the message's own
call-ours : (w : Sending) (m : List ℕ) (c : PacketCall) (p : Piece) → c.packet ≡ packet_of w m p → ours w c ≡ true
call-ours w m c p e =
    ap (λ (bytes : List ℕ). ours w (call bytes c.sequence c.out)) e ∙ packet-ours w m p c.sequence c.out

all-ours : (w : Sending) (m : List ℕ) (cs : List PacketCall) (ps : List Piece) → packets_in cs ≡ map (packet_of w m) ps
    → those (ours w) cs ≡ cs
all-ours w m [] ps e = refl
all-ours w m (c ∷ cs) [] e = let z = ap length e in absurd (omega arith)
all-ours w m (c ∷ cs) (p ∷ ps) e =
    let head : c.packet ≡ packet_of w m p = cc in
    let tail : packets_in cs ≡ map (packet_of w m) ps = cc in
    rw (call-ours w m c p head, all-ours w m cs ps tail)

replies-ours : (limit : ℕ) (slots : List Slot) (bytes : List ℕ) (w : Sending) (m : List ℕ) (cs : List PacketCall) (ps : List Piece)
    → packets_in cs ≡ map (packet_of w m) ps → those (λ (r : PacketReply). ours w r.call) (run_of limit slots bytes cs) ≡ run_of limit slots bytes cs
unfolding run_of
replies-ours limit slots bytes w m [] ps e = refl
replies-ours limit slots bytes w m (c ∷ cs) [] e = let z = ap length e in absurd (omega arith)
replies-ours limit slots bytes w m (c ∷ cs) (p ∷ ps) e =
    let head : c.packet ≡ packet_of w m p = cc in
    let tail : packets_in cs ≡ map (packet_of w m) ps = cc in
    rw (
      call-ours w m c p head,
      replies-ours limit (accept_of limit slots bytes c).slots (accept_of limit slots bytes c).bytes w m cs ps tail,
    )

pub round_trip : RoundTrip
round_trip limit slots bytes first later w m out law size t begins e each free =
    let s = calls_are limit w m out t in
    let ok = range-facts limit w (length m) t.arguments in
    let one : List ℕ = get_or (packets_of w m) 0 [] in
    let head : first.packet ≡ one = begins ∙ ap (λ (ps : List (List ℕ)). get_or ps 0 []) s in
    let tail : packets_in later ≡ drop 1 (packets_of w m) = e ∙ ap (λ (ps : List (List ℕ)). drop 1 ps) s in
    let whole : packets_in (first ∷ later) ≡ packets_of w m
    = ap (λ (p : List ℕ). p ∷ packets_in later) head ∙ ap (λ (ps : List (List ℕ)). one ∷ ps) tail in
    let own : those (ours w) later ≡ later = all-ours w m later (drop 1 (pieces_of w.room (length m))) tail in
    let k = first_found (lane_for w slots) w.id free in
    record {
      index = index_for w k.spot;
      as_said =
          ap (shown_in limit) (sym (replies-ours limit slots bytes w m (first ∷ later) (pieces_of w.room (length m)) whole))
          ∙ all_shown limit w m (room-low w.room t.room) ok k.spot first later slots bytes (record { range = t.range; law = law; size = size }) k.is
          head (ap packets_in own ∙ tail) (ap (λ (cs : List PacketCall). all_answerable (first ∷ cs)) own ∙ each)
          ∙ ap (at_last (index_for w k.spot) w m first) own;
    }

-- ---- the message is asked for

pub message-asked : MessageAsked
message-asked index w m first [] = refl
message-asked index w m first (d ∷ later) = message-asked index w m d later

-- ---- one slot is enough

any-idle : (l : List Slot) (i : ℕ) → i < length l → is_idle (get_or l i idle) ≡ true → any_idle l ≡ true
any-idle [] i low o = absurd (omega arith)
any-idle (x ∷ l) zero low o = rw o
any-idle (x ∷ l) (suc i) low o = or-true (is_idle x) _ (any-idle l i (omega arith) o)

pub slot-enough : SlotEnough
slot-enough slots w i low (inl o) = rw (any_at w.id (lane_for w slots) i o)
slot-enough slots w i low (inr o) = or-true (any_open w.id (lane_for w slots)) _ (any-idle (lane_for w slots) i low o)
