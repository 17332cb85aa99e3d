-- The judge over a list of packets: it takes all of them, and ends with nothing open, exactly where they are lawful.
use Prim.Native.Nat.{ℕ, ◌+◌, ◌-◌, ◌≤◌}
use native.Mathlib.Omega.{arith}
use mathlib.Core.Path.{◌≡◌, refl, sym, ap, ◌∙◌}
use mathlib.Core.List.{List, [], ◌∷◌, ◌++◌, append-nil}
use mathlib.Core.Bool.{Bool, true, false, not, ◌||◌, false≢true}
use mathlib.Core.Option.{Option, none, some}
use borrow.Author.Tests.{eq-eqb, ne_eqb, eqb-true}
use Rattle.wire.specs.Those.{those}
use Rattle.wire.specs.Told.{Told, given, refused}
use Rattle.capture_reader.specs.Capture.{Packets}
use Rattle.wire.specs.Bytes.{AllBytes}
use Rattle.wire.specs.declared.stream.Stream.{Stream}
use Rattle.wire.specs.declared.stream.Stream.TheVariants.{Control, Ota, Alexa}
use Rattle.wire.specs.Stream.{stream_number}
use Rattle.wire.proofs.Streams.{number-back}
use Rattle.wire.proofs.Tests.{and_left, and_right, or-true}
use Rattle.ble_packet.specs.declared.reader.Packet.{Packet}
use Rattle.ble_packet.specs.declared.reader.Packet.TheVariants.{First, Next, Ack, Nack}
use Rattle.ble_packet.specs.Header.{stream_bits, is_of}
use Rattle.ble_packet.specs.Reader.{head_in, read_of}
use Rattle.ble_packet.proofs.Reading.{read-passes, empty-refused}
use Rattle.ble_sender.specs.Piece.{least_room}
use Rattle.ble_sender.proofs.Guard.{room-low}
use Rattle.capture_stream.specs.declared.SenderSlot.{SenderSlot}
use Rattle.capture_stream.specs.declared.SenderSlot.TheVariants.{Idle}
use Rattle.capture_judge.specs.declared.State.{State}
use Rattle.capture_stream.specs.Slot.{slot_step}
use Rattle.capture_judge.specs.Step.{slot_in, with_slot, idle, placed, step_by, step_of, after}
use Rattle.capture_judge_claims.specs.Lawful.{Transaction, AllWritable, packets_in, acknowledges, is_ack, carries, known, AllKnown, LawfulPackets}
use Rattle.capture_judge_claims.proofs.Rest.{InRange, Rest, done, begins, within, advance, step_back, rest-empty}

-- ---- a run

unfoldable pub run_of : ℕ → ℕ → State → List (List ℕ) → Option State
run_of room limit st [] = some st
run_of room limit st (p ∷ ps) = after (step_of room limit st p) none (λ (t : State). run_of room limit t ps)

pub run_step : (room limit : ℕ) (st t : State) (p : List ℕ) (ps : List (List ℕ)) → step_of room limit st p ≡ some t → run_of room limit st (p ∷ ps) ≡ run_of room limit t ps
unfolding run_of
run_step room limit st t p ps e = rw e

-- ---- the slot of one stream, and those of the others

abbrev pub Others : Stream → Stream → Type 0
Others s other = stream_number other ≡ stream_number s → ⊥

pub by-stream : (P : Stream → Type 0) (s : Stream) → P s → ((other : Stream) → Others s other → P other) → (other : Stream) → P other
by-stream P Control p q Control = p
by-stream P Control p q Ota = q Ota (λ e. omega arith)
by-stream P Control p q Alexa = q Alexa (λ e. omega arith)
by-stream P Ota p q Control = q Control (λ e. omega arith)
by-stream P Ota p q Ota = p
by-stream P Ota p q Alexa = q Alexa (λ e. omega arith)
by-stream P Alexa p q Control = q Control (λ e. omega arith)
by-stream P Alexa p q Ota = q Ota (λ e. omega arith)
by-stream P Alexa p q Alexa = p

module _ (st : State) (next : SenderSlot) where
  pub slot_same : (s : Stream) → slot_in (with_slot st s next) s ≡ next
  slot_same Control = refl
  slot_same Ota = refl
  slot_same Alexa = refl

  pub slot-other : (s other : Stream) → Others s other → slot_in (with_slot st s next) other ≡ slot_in st other
  slot-other Control Control d = absurd (d refl)
  slot-other Control Ota d = refl
  slot-other Control Alexa d = refl
  slot-other Ota Control d = refl
  slot-other Ota Ota d = absurd (d refl)
  slot-other Ota Alexa d = refl
  slot-other Alexa Control d = refl
  slot-other Alexa Ota d = refl
  slot-other Alexa Alexa d = absurd (d refl)

-- all slots are idle
idle-is : (st : State) → ((s : Stream) → slot_in st s ≡ Idle) → st ≡ idle
idle-is st e = λ i. record { control = e Control i; ota = e Ota i; alexa = e Alexa i }

-- ---- those of a stream

those-in : (test : List ℕ → Bool) (p : List ℕ) (ps : List (List ℕ)) → test p ≡ true → those test (p ∷ ps) ≡ p ∷ those test ps
those-in test p ps e = rw e

those-out : (test : List ℕ → Bool) (p : List ℕ) (ps : List (List ℕ)) → test p ≡ false → those test (p ∷ ps) ≡ those test ps
those-out test p ps e = rw e

of_other : (n m : ℕ) (p : List ℕ) → is_of n p ≡ true → (m ≡ n → ⊥) → is_of m p ≡ false
of_other n m [] e d = absurd (false≢true e)
of_other n m (x ∷ xs) e d = let z : stream_bits x ≡ n = eqb-true (stream_bits x) n e in ne_eqb (stream_bits x) m (λ u. d (sym u ∙ z))

module _ (limit : ℕ) (p : List ℕ) where
  ack-carries : (s : Stream) → is_ack limit p ≡ true → carries limit s p ≡ false
  ack-carries s e = rw e

  other-carries : (s other : Stream) → carries limit s p ≡ true → Others s other → carries limit other p ≡ false
  other-carries s other e d =
      let a : not (is_ack limit p) ≡ true = and_left (not (is_ack limit p)) _ e in
      let b : is_of (stream_number s) p ≡ true = and_right (not (is_ack limit p)) _ e in
      rw a (of_other (stream_number s) (stream_number other) p b d)

  -- the stream of a known packet that is no ACK
  record Carried : Type 0 where
    stream : Stream
    is-of : carries limit stream p ≡ true

  carried-by : (a b c : Bool) → carries limit Control p ≡ a → carries limit Ota p ≡ b → carries limit Alexa p ≡ c → (a || (b || c)) ≡ true → Carried
  carried-by true b c ea eb ec e = record { stream = Control; is-of = ea }
  carried-by false true c ea eb ec e = record { stream = Ota; is-of = eb }
  carried-by false false c ea eb ec e = record { stream = Alexa; is-of = ec ∙ e }

  carried : known limit p ≡ true → is_ack limit p ≡ false → Carried
  carried k a =
      let e : (carries limit Control p || (carries limit Ota p || carries limit Alexa p)) ≡ true = rw a (rw a at k) in
      carried-by (carries limit Control p) (carries limit Ota p) (carries limit Alexa p) refl refl refl e

-- ---- complete: what is lawful is taken

ack-by : (room : ℕ) (st : State) (r : Told Packet) → acknowledges r ≡ true → step_by room st r ≡ some st
ack-by room st (refused n) e = absurd (false≢true e)
ack-by room st (given (First h ack total start len)) e = absurd (false≢true e)
ack-by room st (given (Next h ack last start len)) e = absurd (false≢true e)
ack-by room st (given (Ack h)) e = refl
ack-by room st (given (Nack h)) e = refl

ack-step : (room limit : ℕ) (st : State) (p : List ℕ) → is_ack limit p ≡ true → step_of room limit st p ≡ some st
unfolding step_of
ack-step room limit st p e = ack-by room st (read_of limit p) e

-- what follows on each stream
abbrev pub Tails : Type 0
Tails = Stream → List (List ℕ)

module _ (room limit : ℕ) (low : least_room ≤ room) (tails : Tails) where
  -- on each stream of a state, what may still come is what comes, and the tail
  abbrev pub Awaits : State → List (List ℕ) → Type 0
  Awaits st ps = (s : Stream) → Rest room limit s (slot_in st s) (those (carries limit s) ps ++ tails s)

  -- all packets are taken, and on each stream the tail may still come
  pub record Reached (st : State) (ps : List (List ℕ)) : Type 0 where
    pub state : State
    pub runs : run_of room limit st ps ≡ some state
    pub rests : (s : Stream) → Rest room limit s (slot_in state s) (tails s)

  reached-step : (st t : State) (p : List ℕ) (ps : List (List ℕ)) → step_of room limit st p ≡ some t → Reached t ps → Reached st (p ∷ ps)
  reached-step st t p ps e r = record { state = r.state; runs = run_step room limit st t p ps e ∙ r.runs; rests = r.rests }

  abbrev Runs : List (List ℕ) → Type 0
  Runs ps = (st : State) → AllKnown limit ps → Awaits st ps → Reached st ps

  complete-piece : (p : List ℕ) (ps : List (List ℕ)) → Runs ps → (st : State) → AllKnown limit ps → Awaits st (p ∷ ps) → (s : Stream) → carries limit s p ≡ true → Reached st (p ∷ ps)
  complete-piece p ps later st ks w s c =
      let t = advance room limit low s p (those (carries limit s) ps ++ tails s) (w s) (ap (λ (x : List (List ℕ)). x ++ tails s) (those-in (carries limit s) p ps c)) in
      reached-step st (with_slot st s t.next) p ps (t.takes st refl)
      (later (with_slot st s t.next) ks
      (by-stream (λ other. Rest room limit other (slot_in (with_slot st s t.next) other) (those (carries limit other) ps ++ tails other)) s
      (rw (slot_same st t.next s) t.rest)
      (λ other d. rw (slot-other st t.next s other d) (rw (those-out (carries limit other) p ps (other-carries limit p s other c d)) at (w other)))))

  complete-by : (p : List ℕ) (ps : List (List ℕ)) (b : Bool) → is_ack limit p ≡ b → Runs ps → Runs (p ∷ ps)
  complete-by p ps true e later st k w =
      reached-step st st p ps (ack-step room limit st p e) (later st k.1 (λ s. rw (those-out (carries limit s) p ps (ack-carries limit p s e)) at (w s)))
  complete-by p ps false e later st k w =
      let c = carried limit p k.0 e in complete-piece p ps later st k.1 w c.stream c.is-of

  pub complete : (ps : List (List ℕ)) → Runs ps
  unfolding run_of
  complete [] st k w = record { state = st; runs = refl; rests = w }
  complete (p ∷ ps) st k w = complete-by p ps (is_ack limit p) refl (complete ps) st k w

-- ---- sound: what is taken is lawful

known_of : (limit : ℕ) (p : List ℕ) (s : Stream) → carries limit s p ≡ true → known limit p ≡ true
known_of limit p Control e = or-true (is_ack limit p) _ (rw e)
known_of limit p Ota e = or-true (is_ack limit p) _ (or-true (carries limit Control p) _ (rw e))
known_of limit p Alexa e = or-true (is_ack limit p) _ (or-true (carries limit Control p) _ (or-true (carries limit Ota p) _ e))

piece_of : (limit : ℕ) (p : List ℕ) (x : Packet) → read_of limit p ≡ given x → is_of (stream_number (head_in x).stream) p ≡ true
piece_of limit [] x e = let z : ◌≡◌ {A = ℕ} 0 1 = cc (empty-refused limit) in absurd (omega arith)
piece_of limit (b ∷ bs) x e =
    let passes = rw e at (read-passes limit (b ∷ bs)) in
    eq-eqb (stream_bits b) (stream_number (head_in x).stream) (sym (ap stream_number passes.named ∙ number-back (stream_bits b) passes.known))

piece-carries : (limit : ℕ) (p : List ℕ) (x : Packet) → read_of limit p ≡ given x → acknowledges (given x) ≡ false → carries limit (head_in x).stream p ≡ true
piece-carries limit p x e a = rw (e, a) (piece_of limit p x e)

-- what a step that was taken did
pub data StepTaken (room limit : ℕ) (st : State) (p : List ℕ) (t : State) : Type 0 where
  was-ack : is_ack limit p ≡ true → t ≡ st → StepTaken room limit st p t
  was-piece : (x : Packet) (next : SenderSlot) → read_of limit p ≡ given x → acknowledges (given x) ≡ false → slot_step room (slot_in st (head_in x).stream) x ≡ some next
      → t ≡ with_slot st (head_in x).stream next → StepTaken room limit st p t

record Placed (st : State) (s : Stream) (o : Option SenderSlot) (t : State) : Type 0 where
  next : SenderSlot
  is_some : o ≡ some next
  is_state : t ≡ with_slot st s next

placed_by : (st t : State) (s : Stream) (o : Option SenderSlot) → placed st s o ≡ some t → Placed st s o t
placed_by st t s none e = let z : ◌≡◌ {A = ℕ} 0 1 = cc in absurd (omega arith)
placed_by st t s (some next) e = record { next = next; is_some = refl; is_state = cc }

stepped_by : (room limit : ℕ) (st t : State) (p : List ℕ) (r : Told Packet) → read_of limit p ≡ r → step_by room st r ≡ some t → StepTaken room limit st p t
stepped_by room limit st t p (refused n) r e = let z : ◌≡◌ {A = ℕ} 0 1 = cc in absurd (omega arith)
stepped_by room limit st t p (given (First h ack total start len)) r e =
    let q = placed_by st t h.stream (slot_step room (slot_in st h.stream) (First h ack total start len)) e in
    was-piece (First h ack total start len) q.next r refl q.is_some q.is_state
stepped_by room limit st t p (given (Next h ack last start len)) r e =
    let q = placed_by st t h.stream (slot_step room (slot_in st h.stream) (Next h ack last start len)) e in
    was-piece (Next h ack last start len) q.next r refl q.is_some q.is_state
stepped_by room limit st t p (given (Ack h)) r e = was-ack (rw r) (cc)
stepped_by room limit st t p (given (Nack h)) r e = was-ack (rw r) (cc)

pub stepped : (room limit : ℕ) (st t : State) (p : List ℕ) → step_of room limit st p ≡ some t → StepTaken room limit st p t
unfolding step_of
stepped room limit st t p e = stepped_by room limit st t p (read_of limit p) refl e

module _ (room limit : ℕ) (fits : InRange room limit) (tails : Tails) where
  pub record Sound (st : State) (ps : List (List ℕ)) : Type 0 where
    pub all_known : AllKnown limit ps
    pub awaits : (s : Stream) → Rest room limit s (slot_in st s) (those (carries limit s) ps ++ tails s)

  sound-step : (st t : State) (p : List ℕ) (ps : List (List ℕ)) → AllBytes p → StepTaken room limit st p t → Sound t ps → Sound st (p ∷ ps)
  sound-step st t p ps bytes (was-ack a e) later =
      record {
        all_known = (rw a, later.all_known);
        awaits = λ s. rw (those-out (carries limit s) p ps (ack-carries limit p s a), ← e) (later.awaits s);
      }
  sound-step st t p ps bytes (was-piece x next r a q e) later =
      let s : Stream = (head_in x).stream in
      let c : carries limit s p ≡ true = piece-carries limit p x r a in
      record {
        all_known = (known_of limit p s c, later.all_known);
        awaits =
            by-stream (λ other. Rest room limit other (slot_in st other) (those (carries limit other) (p ∷ ps) ++ tails other)) s
            (rw (those-in (carries limit s) p ps c)
            (step_back room limit fits s p bytes x r refl a (slot_in st s) next (those (carries limit s) ps ++ tails s) q (rw (e, slot_same st next s) at (later.awaits s))))
            (λ other d.
            rw (those-out (carries limit other) p ps (other-carries limit p s other c d)) (rw (e, slot-other st next s other d) at (later.awaits other)));
      }

  -- from the end of a run, where the tails may still come
  module _ (end : State) (rests : (s : Stream) → Rest room limit s (slot_in end s) (tails s)) where
    sound-by : (st : State) (p : List ℕ) (ps : List (List ℕ)) → AllBytes p → ((t : State) → run_of room limit t ps ≡ some end → Sound t ps) → (o : Option State) → step_of room limit st p ≡ o
        → after o none (λ (t : State). run_of room limit t ps) ≡ some end → Sound st (p ∷ ps)
    sound-by st p ps bytes later none e r = let z : ◌≡◌ {A = ℕ} 0 1 = cc in absurd (omega arith)
    sound-by st p ps bytes later (some t) e r = sound-step st t p ps bytes (stepped room limit st t p e) (later t r)

    pub sound : (ps : List (List ℕ)) → Packets ps → (st : State) → run_of room limit st ps ≡ some end → Sound st ps
    unfolding run_of
    sound [] bytes st e = let z : st ≡ end = cc in record { all_known = tt; awaits = λ s. rw z (rests s) }
    sound (p ∷ ps) bytes st e = sound-by st p ps bytes.0 (sound ps bytes.1) (step_of room limit st p) refl e

-- ---- the transactions

pub record SentAs (room limit : ℕ) (s : Stream) (qs : List (List ℕ)) : Type 0 where
  pub sent : List Transaction
  pub writable : AllWritable room limit s sent
  pub packets-are : qs ≡ packets_in limit sent

-- what comes where nothing is open is a list of transactions
pub sent-of : {room limit : ℕ} {s : Stream} {slot : SenderSlot} {qs : List (List ℕ)} → Rest room limit s slot qs → slot ≡ Idle → SentAs room limit s qs
sent-of (done e) i = record { sent = []; writable = tt; packets-are = e }
sent-of {room} {limit} {s} (begins t others w o e) i =
    let later = sent-of o i in
    record { sent = t ∷ later.sent; writable = (w, later.writable); packets-are = e ∙ rw (← later.packets-are) }
sent-of (within fuel ack rest others b li ls r sl f o e) i = let z : ◌≡◌ {A = ℕ} 0 1 = cc in absurd (omega arith)

pub sent-rest : (room limit : ℕ) (s : Stream) (ts : List Transaction) → AllWritable room limit s ts → Rest room limit s Idle (packets_in limit ts)
sent-rest room limit s [] w = done refl
sent-rest room limit s (t ∷ ts) w = begins t (packets_in limit ts) w.0 (sent-rest room limit s ts w.1) refl

pub idle-slot : (s : Stream) → slot_in idle s ≡ Idle
idle-slot Control = refl
idle-slot Ota = refl
idle-slot Alexa = refl

-- no tails
abbrev nothing : Tails
nothing s = []

idle-done : (room limit : ℕ) (s : Stream) → Rest room limit s (slot_in idle s) []
idle-done room limit Control = done refl
idle-done room limit Ota = done refl
idle-done room limit Alexa = done refl

module _ (room limit : ℕ) (fits : InRange room limit) (ps : List (List ℕ)) where
  pub lawful-runs : LawfulPackets room limit ps → run_of room limit idle ps ≡ some idle
  lawful-runs l =
      let low = room-low room fits.room_fits in
      let r =
      complete room limit low nothing ps idle l.all_known
      (λ s. rw (idle-slot s, append-nil, l.packets-are s) (sent-rest room limit s (l.sent s) (l.writable s))) in
      r.runs ∙ ap some (idle-is r.state (λ s. rest-empty room limit low s (r.rests s)))

  pub runs-lawful : Packets ps → run_of room limit idle ps ≡ some idle → LawfulPackets room limit ps
  runs-lawful bytes e =
      let h = sound room limit fits nothing idle (idle-done room limit) ps bytes idle e in
      let qs : Tails = λ s. those (carries limit s) ps in
      let rest : (s : Stream) → Rest room limit s (slot_in idle s) (qs s) = λ s. rw append-nil at (h.awaits s) in
      record {
        sent = λ s. (sent-of (rest s) (idle-slot s)).sent;
        writable = λ s. (sent-of (rest s) (idle-slot s)).writable;
        packets-are = λ s. (sent-of (rest s) (idle-slot s)).packets-are;
        all_known = h.all_known;
      }
