-- From every state that the judge comes to there is a continuation that is lawful: each open transaction is sent to its end.
use Prim.Native.Nat.{ℕ, zero, suc, ◌+◌, ◌-◌, ◌≤◌, ◌<◌}
use native.Mathlib.Omega.{arith}
use mathlib.Core.Path.{◌≡◌, refl, sym, ap, ◌∙◌}
use mathlib.Core.List.{List, [], ◌∷◌, ◌++◌, append-nil}
use mathlib.Core.Bool.{Bool, true, false, cond, ◌&&◌, false≢true}
use mathlib.Core.Option.{Option, none, some}
use lib.ListN.{length, take, drop, replicate, length-take, length-replicate}
use lib.Dec.{eqb, leb}
use borrow.Author.Tests.{leb-true, eqb-false, ltb-false}
use Rattle.wire.specs.Told.{given}
use Rattle.wire.specs.Bytes.{AllBytes}
use Rattle.capture_reader.specs.Capture.{Packets}
use Rattle.wire.specs.declared.stream.Stream.{Stream}
use Rattle.wire.specs.declared.stream.Stream.TheVariants.{Control, Ota, Alexa}
use Rattle.wire.specs.Stream.{stream_number}
use Rattle.wire.proofs.ByteLists.{bytes-append, bytes_take, bytes_drop}
use Rattle.wire.proofs.Streams.{number-low}
use Rattle.wire.proofs.Tests.{and_right}
use Rattle.ble_packet.specs.declared.reader.Packet.{Packet}
use Rattle.ble_packet.specs.declared.reader.Packet.TheVariants.{First, Next, Ack, Nack}
use Rattle.ble_packet.specs.Header.{type_continuation, type_last, sequence_after}
use Rattle.ble_packet.specs.Reader.{head_in, read_of}
use Rattle.ble_packet.proofs.Headers.{bit-low}
use Rattle.ble_packet.proofs.Reading.{length_in, read-passes}
use Rattle.ble_packet.proofs.Written.{next_packet}
use Rattle.ble_sender.specs.Piece.{least_room, largest_room, extended}
use Rattle.ble_sender.specs.Writer.{room_fits}
use Rattle.ble_sender.proofs.Largest.{size-le, size_fits}
use Rattle.ble_sender.proofs.Guard.{room-low}
use Rattle.capture_stream.specs.declared.SenderSlot.{SenderSlot}
use Rattle.capture_stream.specs.declared.SenderSlot.TheVariants.{Idle, Open}
use Rattle.capture_judge.specs.declared.State.{State}
use Rattle.capture_stream.specs.Slot.{fits_piece, slot_for, first_step, next_fits, next_step, slot_step, same}
use Rattle.capture_judge.specs.Step.{slot_in, with_slot, idle, step_of, after}
use Rattle.capture_judge_claims.specs.Lawful.{acknowledges}
use Rattle.ble_sender.proofs.Later.{next_size, next_last, later}
use Rattle.capture_judge_claims.proofs.Rest.{InRange, Rest, done, within, advance, rest-empty, chosen, never-some}
use Rattle.capture_judge_claims.proofs.Runs.{run_of, run_step, by-stream, slot_same, slot-other, StepTaken, was-ack, was-piece, stepped}

-- ---- the packets are bytes

kind-low : (last : Bool) → cond last type_last type_continuation ≤ 2
kind-low true = omega arith
kind-low false = omega arith

bytes-zeros : (n : ℕ) → AllBytes (replicate n 0)
bytes-zeros zero = tt
bytes-zeros (suc n) = (omega arith, bytes-zeros n)

bytes-length : (n : ℕ) (b : Bool) → extended n ≡ b → n < 65536 → AllBytes (length_in b n)
bytes-length n true e l = (omega arith, (omega arith, tt))
bytes-length n false e l = let z : n ≤ 255 = ltb-false 255 n e in (omega arith, tt)

next-bytes : (stream id sequence : ℕ) (last ack x : Bool) (payload : List ℕ) → extended (length payload) ≡ x → stream < 16 → id < 16 → sequence < 16 → length payload < 65536 → AllBytes payload
    → AllBytes (next_packet stream id sequence last ack x payload)
next-bytes stream id sequence last ack x payload e ns ni nq l b = (
  omega arith,
  (
    omega (arith, kind-low last, bit-low ack, bit-low x),
    bytes-append (length_in x (length payload)) payload (bytes-length (length payload) x e l) b,
  ),
)

room-high : (room : ℕ) → room_fits room ≡ true → room ≤ largest_room
unfolding room_fits
room-high room e = leb-true room largest_room (and_right (leb least_room room) _ e)

packets-by : (b : Bool) (ps : List (List ℕ)) → Packets ps → Packets (cond b [] ps)
packets-by true ps h = tt
packets-by false ps h = h

later-bytes : (room : ℕ) (s : Stream) (id : ℕ) (ack : Bool) → room_fits room ≡ true → id < 16 → (fuel sequence : ℕ) (rest : List ℕ) → sequence < 16 → AllBytes rest
    → Packets (later fuel room (stream_number s) id sequence ack rest)
unfolding later
later-bytes room s id ack f ni zero sequence rest nq b = tt
later-bytes room s id ack f ni (suc fuel) sequence rest nq b =
    let n : ℕ = next_size room rest in
    let k = size_fits room false (room-low room f) (length rest) in
    let h = room-high room f in
    let size : length (take n rest) ≡ n = length-take n rest ∙ omega (arith, size-le room false (room-low room f) (length rest)) in (
      next-bytes (stream_number s) id sequence (next_last room rest) (next_last room rest && ack) (extended n) (take n rest) (ap extended size) (number-low s) ni nq (omega arith)
          (bytes_take n rest b),
      packets-by (next_last room rest) _ (later-bytes room s id ack f ni fuel (sequence_after sequence 1) (drop n rest) (omega arith) (bytes_drop n rest b)),
    )

-- ---- the states that the judge comes to

abbrev pub Good : SenderSlot → Type 0
Good Idle = Unit {0}
Good (Open id left sequence) = (id < 16) × (sequence < 16) × (1 ≤ left)

abbrev pub AllGood : State → Type 0
AllGood st = (s : Stream) → Good (slot_in st s)

good-by : (id left sequence : ℕ) (b : Bool) → eqb left 0 ≡ b → id < 16 → sequence < 16 → Good (cond b Idle (Open id left sequence))
good-by id left sequence true e li ls = tt
good-by id left sequence false e li ls = let d : (left ≡ 0 → ⊥) = eqb-false left 0 e in (li, ls, omega arith)

good-for : (id left sequence : ℕ) → id < 16 → Good (slot_for id left (sequence_after sequence 1))
good-for id left sequence li = good-by id left (sequence_after sequence 1) (eqb left 0) refl li (omega arith)

slot-good : (room limit : ℕ) (p : List ℕ) (x : Packet) → read_of limit p ≡ given x → acknowledges (given x) ≡ false → (slot next : SenderSlot) → Good slot → slot_step room slot x ≡ some next → Good next
unfolding first_step next_step next_fits
slot-good room limit p (First h ack total start len) e na Idle next g st =
    let c = chosen (fits_piece room true total ack start len) _ next st in
    let passes = rw e at (read-passes limit p) in
    rw c.is-it at (good-for h.id (total - len) h.sequence passes.within.4.0)
slot-good room limit p (Next h ack last start len) e na Idle next g st = never-some next st
slot-good room limit p (Ack h) e na Idle next g st = absurd (false≢true (sym na))
slot-good room limit p (Nack h) e na Idle next g st = absurd (false≢true (sym na))
slot-good room limit p (First h ack total start len) e na (Open id left sequence) next g st = never-some next st
slot-good room limit p (Next h ack last start len) e na (Open id left sequence) next g st =
    let c = chosen (eqb h.id id && (eqb h.sequence sequence && (fits_piece room false left ack start len && same last (eqb len left)))) _ next st in
    rw c.is-it at (good-for id (left - len) sequence g.0)
slot-good room limit p (Ack h) e na (Open id left sequence) next g st = absurd (false≢true (sym na))
slot-good room limit p (Nack h) e na (Open id left sequence) next g st = absurd (false≢true (sym na))

step-good : (room limit : ℕ) (st t : State) (p : List ℕ) → StepTaken room limit st p t → AllGood st → AllGood t
step-good room limit st t p (was-ack a e) g = rw e g
step-good room limit st t p (was-piece x next r a q e) g =
    let s : Stream = (head_in x).stream in
    rw e
    (by-stream (λ other. Good (slot_in (with_slot st s next) other)) s (rw (slot_same st next s) (slot-good room limit p x r a (slot_in st s) next (g s) q))
    (λ other d. rw (slot-other st next s other d) (g other)))

run-good-by : (room limit : ℕ) (st t : State) (p : List ℕ) (ps : List (List ℕ)) → ((u : State) → AllGood u → run_of room limit u ps ≡ some t → AllGood t) → AllGood st
    → (o : Option State) → step_of room limit st p ≡ o → after o none (λ (u : State). run_of room limit u ps) ≡ some t → AllGood t
run-good-by room limit st t p ps later g none e r = never-some t r
run-good-by room limit st t p ps later g (some u) e r = later u (step-good room limit st u p (stepped room limit st u p e) g) r

pub run-good : (room limit : ℕ) (ps : List (List ℕ)) (t st : State) → AllGood st → run_of room limit st ps ≡ some t → AllGood t
unfolding run_of
run-good room limit [] t st g e = let z : st ≡ t = cc in rw z at g
run-good room limit (p ∷ ps) t st g e = run-good-by room limit st t p ps (run-good room limit ps t) g (step_of room limit st p) refl e

pub idle-good : AllGood idle
idle-good Control = tt
idle-good Ota = tt
idle-good Alexa = tt

-- ---- one stream to its end

with-idle : (st : State) (s : Stream) → slot_in st s ≡ Idle → st ≡ with_slot st s Idle
with-idle st Control e = λ i. record { control = e i; ota = st.ota; alexa = st.alexa }
with-idle st Ota e = λ i. record { control = st.control; ota = e i; alexa = st.alexa }
with-idle st Alexa e = λ i. record { control = st.control; ota = st.ota; alexa = e i }

with-twice : (st : State) (s : Stream) (a b : SenderSlot) → with_slot (with_slot st s a) s b ≡ with_slot st s b
with-twice st Control a b = refl
with-twice st Ota a b = refl
with-twice st Alexa a b = refl

module _ (room limit : ℕ) (fits : InRange room limit) where
  low-room : least_room ≤ room
  low-room = room-low room fits.room_fits

  -- what may still come of a stream leaves it idle, and the others as they are
  rest-runs : (s : Stream) (qs : List (List ℕ)) (st : State) → Rest room limit s (slot_in st s) qs → run_of room limit st qs ≡ some (with_slot st s Idle)
  unfolding run_of
  rest-runs s [] st r = ap some (with-idle st s (rest-empty room limit low-room s r))
  rest-runs s (p ∷ qs) st r =
      let t = advance room limit low-room s p qs r refl in
      run_step room limit st (with_slot st s t.next) p qs (t.takes st refl)
      ∙ rest-runs s qs (with_slot st s t.next) (rw (slot_same st t.next s) t.rest)
      ∙ ap some (with-twice st s t.next Idle)

  pub record Ending (s : Stream) (slot : SenderSlot) : Type 0 where
    pub more : List (List ℕ)
    pub more_bytes : Packets more
    pub more-rest : Rest room limit s slot more
    pub only-open : slot ≡ Idle → more ≡ []

  pub ending : (s : Stream) (slot : SenderSlot) → Good slot → Ending s slot
  ending s Idle g = record { more = []; more_bytes = tt; more-rest = done refl; only-open = λ e. refl }
  ending s (Open id left sequence) g =
      record {
        more = later left room (stream_number s) id sequence false (replicate left 0);
        more_bytes = later-bytes room s id false fits.room_fits g.0 left sequence (replicate left 0) g.1 (bytes-zeros left);
        more-rest = within left false (replicate left 0) [] (bytes-zeros left) g.0 g.1 (length-replicate left 0) g.2 (omega arith) (done refl) (sym (append-nil _));
        only-open = λ e. let z : ◌≡◌ {A = ℕ} 0 1 = cc in absurd (omega arith);
      }

  -- ---- all three

  run-append-by : (o : Option State) (f g : State → Option State) → after (after o none f) none g ≡ after o none (λ (t : State). after (f t) none g)
  run-append-by none f g = refl
  run-append-by (some t) f g = refl

  pub run-append : (ps qs : List (List ℕ)) (st : State) → run_of room limit st (ps ++ qs) ≡ after (run_of room limit st ps) none (λ (t : State). run_of room limit t qs)
  unfolding run_of
  run-append [] qs st = refl
  run-append (p ∷ ps) qs st = go (step_of room limit st p) (λ t. run-append ps qs t)
    where
      go : (o : Option State) → ((t : State) → run_of room limit t (ps ++ qs) ≡ after (run_of room limit t ps) none (λ (u : State). run_of room limit u qs))
          → after o none (λ (t : State). run_of room limit t (ps ++ qs)) ≡ after (after o none (λ (t : State). run_of room limit t ps)) none (λ (u : State). run_of room limit u qs)
      go none h = refl
      go (some t) h = h t

  run-then : (ps qs : List (List ℕ)) (st t : State) (o : Option State) → run_of room limit st ps ≡ some t → run_of room limit t qs ≡ o → run_of room limit st (ps ++ qs) ≡ o
  run-then ps qs st t o e f = run-append ps qs st ∙ rw e f

  pub record Ends (t : State) : Type 0 where
    pub more : List (List ℕ)
    pub more_bytes : Packets more
    pub runs : run_of room limit t more ≡ some idle

  pub packets-append : (ps qs : List (List ℕ)) → Packets ps → Packets qs → Packets (ps ++ qs)
  packets-append [] qs a b = b
  packets-append (p ∷ ps) qs a b = (a.0, packets-append ps qs a.1 b)

  ends : (t : State) → AllGood t → Ends t
  ends t g =
      let a = ending Control t.control (g Control) in
      let b = ending Ota t.ota (g Ota) in
      let c = ending Alexa t.alexa (g Alexa) in
      let t1 : State = with_slot t Control Idle in
      let t2 : State = with_slot t1 Ota Idle in
      record {
        more = a.more ++ (b.more ++ c.more);
        more_bytes = packets-append a.more _ a.more_bytes (packets-append b.more _ b.more_bytes c.more_bytes);
        runs =
            run-then a.more (b.more ++ c.more) t t1 (some idle) (rest-runs Control a.more t a.more-rest)
            (run-then b.more c.more t1 t2 (some idle) (rest-runs Ota b.more t1 b.more-rest) (rest-runs Alexa c.more t2 c.more-rest));
      }

  -- what the judge takes can be made lawful
  pub taken-ends : (ps : List (List ℕ)) (t : State) → run_of room limit idle ps ≡ some t → Ends t
  taken-ends ps t e = ends t (run-good room limit ps t idle idle-good e)
