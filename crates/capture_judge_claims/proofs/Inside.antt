-- Open is inside a transaction.
use Prim.Native.Nat.{ℕ, zero, suc, ◌+◌, ◌-◌, ◌≤◌, ◌<◌}
use native.Mathlib.Omega.{arith}
use mathlib.Core.Path.{◌≡◌, refl, sym, ap, ◌∙◌}
use mathlib.Core.List.{List, [], ◌∷◌, ◌++◌, append-nil, append_assoc}
use mathlib.Core.Bool.{Bool, true, false, cond, not, ◌&&◌, false≢true}
use mathlib.Core.Option.{some}
use lib.ListN.{length, take, drop, length-drop, take-append-drop}
use lib.Seq.{take_at, drop_at, take-append-le}
use lib.Dec.{eqb, ltb}
use borrow.Author.Tests.{eqb-true, eqb-false, ltb-true, ltb-false}
use Rattle.wire.specs.Those.{those}
use Rattle.wire.specs.declared.stream.Stream.{Stream}
use Rattle.capture_reader.specs.Capture.{Packets}
use Rattle.wire.specs.declared.stream.Stream.TheVariants.{Control, Ota, Alexa}
use Rattle.wire.specs.Stream.{stream_number}
use Rattle.ble_packet.specs.Header.{four_bits, in_range, sequence_after}
use Rattle.ble_packet.proofs.Headers.{in-range-low}
use Rattle.wire.specs.Bytes.{AllBytes}
use Rattle.wire.proofs.ByteLists.{bytes_drop}
use Rattle.wire.proofs.Tests.{and_left}
use Rattle.ble_sender.specs.Piece.{least_room, size_for}
use Rattle.ble_sender.specs.Writer.{arguments_fit}
use Rattle.ble_sender_claims.specs.Calls.{calls_of}
use Rattle.ble_sender.proofs.Largest.{size-le, size-some}
use Rattle.ble_sender.proofs.Guard.{room-low}
use Rattle.capture_stream.specs.declared.SenderSlot.{SenderSlot}
use Rattle.capture_stream.specs.declared.SenderSlot.TheVariants.{Idle, Open}
use Rattle.capture_judge.specs.declared.State.{State}
use Rattle.capture_stream.specs.Slot.{is_idle}
use Rattle.capture_judge.specs.Step.{slot_in, idle, all_idle}
use Rattle.capture_judge_claims.specs.Lawful.{Transaction, Writable, AllWritable, packets_in, carries, LawfulPackets, Viable}
use Rattle.capture_judge_claims.specs.Inside.{WholeOnes, CutInside, WholeOrCut, whole, cut, is_cut, EndsInside, OpenIsInside}
use Rattle.ble_sender.proofs.Later.{next_size, next_last, later}
use Rattle.capture_judge_claims.proofs.Rest.{InRange, Rest, done, begins, within, advance, rest-empty, first_then}
use Rattle.capture_judge_claims.proofs.Runs.{run_of, Tails, complete, Sound, sound, SentAs, sent-of, sent-rest, idle-slot, lawful-runs, runs-lawful}
use Rattle.capture_judge_claims.proofs.Continuing.{AllGood, run-good, idle-good, ending}
use Rattle.capture_judge_claims.proofs.Right.{idle-when, viable-goes, goes-viable}

abbrev calls : ℕ → Transaction → List (List ℕ)
calls limit t = calls_of limit t.how t.payload t.out

-- ---- inside a transaction something is open

record OpenRest (room limit : ℕ) (s : Stream) (qs : List (List ℕ)) : Type 0 where
  id : ℕ
  left : ℕ
  sequence : ℕ
  rest : Rest room limit s (Open id left sequence) qs

module _ (room limit : ℕ) (low : least_room ≤ room) (s : Stream) where
  -- what may come where nothing is open may not where something is
  conflict : (qs : List (List ℕ)) (id left sequence : ℕ) → Rest room limit s Idle qs → Rest room limit s (Open id left sequence) qs → ⊥
  conflict [] id left sequence a b = let z = rest-empty room limit low s b in let y : ◌≡◌ {A = ℕ} 0 1 = cc in omega arith
  conflict (q ∷ qs) id left sequence a b =
      false≢true (sym (advance room limit low s q qs b refl).first-or-not ∙ (advance room limit low s q qs a refl).first-or-not)

  later-drop : (id : ℕ) (ack : Bool) → id < four_bits → (fuel sequence : ℕ) (rest : List ℕ) (k : ℕ) → AllBytes rest → sequence < four_bits → 1 ≤ length rest → length rest ≤ fuel
      → k < length (later fuel room (stream_number s) id sequence ack rest) → OpenRest room limit s (drop k (later fuel room (stream_number s) id sequence ack rest))
  unfolding later
  later-drop id ack li zero sequence rest k b ls sl f h = absurd (omega arith)
  later-drop id ack li (suc fuel) sequence rest zero b ls sl f h =
      record {
        id = id;
        left = length rest;
        sequence = sequence;
        rest = within (suc fuel) ack rest [] b li ls refl sl f (done refl) (sym (append-nil _));
      }
  later-drop id ack li (suc fuel) sequence rest (suc k) b ls sl f h = go (next_last room rest) refl h (λ d sl2 f2 h2. later-drop id ack li fuel (sequence_after sequence 1) (drop (next_size room rest) rest) k (bytes_drop (next_size room rest) rest b) (omega arith) sl2 f2 h2)
    where
      after : List (List ℕ)
      after = later fuel room (stream_number s) id (sequence_after sequence 1) ack (drop (next_size room rest) rest)

      go : (b : Bool) → next_last room rest ≡ b → suc k < suc (length (cond b [] after))
          → (next_last room rest ≡ false → 1 ≤ length (drop (next_size room rest) rest) → length (drop (next_size room rest) rest) ≤ fuel → k < length after → OpenRest room limit s (drop k after))
          → OpenRest room limit s (drop k (cond b [] after))
      go true e l again = absurd (omega arith)
      go false e l again =
          let n : ℕ = next_size room rest in
          let d : (n ≡ length rest → ⊥) = eqb-false n (length rest) e in
          let k1 = size-le room false low (length rest) in
          let k2 = size-some room false low (length rest) sl in
          let ld = length-drop n rest in
          again e (omega arith) (omega arith) (omega arith)

  -- after some packets of a transaction, but not all, one is open
  cut_by : (t : Transaction) → Writable room limit s t → (come : ℕ) → 1 ≤ come → come < length (calls limit t) → OpenRest room limit s (drop come (calls limit t))
  unfolding arguments_fit
  cut_by t w zero l h = absurd (omega arith)
  cut_by t w (suc k) l h =
      let i = and_left (in_range t.how.stream t.how.id t.how.sequence) _ w.takes.arguments in
      let small = in-range-low t.how.stream t.how.id t.how.sequence i in
      let n : ℕ = size_for room true (length t.payload) in
      let e = first_then room limit s t w n refl in
      rw e (go n (eqb n (length t.payload)) refl (size-le room true low (length t.payload)) small.1 (rw e at h))
    where
      more : ℕ → List (List ℕ)
      more n = later (length t.payload) room (stream_number s) t.how.id (sequence_after t.how.sequence 1) t.how.ack (drop n t.payload)

      go : (n : ℕ) (b : Bool) → eqb n (length t.payload) ≡ b → n ≤ length t.payload → t.how.id < four_bits → suc k < suc (length (cond b [] (more n))) → OpenRest room limit s (drop k (cond b [] (more n)))
      go n true e f li g = absurd (omega arith)
      go n false e f li g =
          let d : (n ≡ length t.payload → ⊥) = eqb-false n (length t.payload) e in
          let ld = length-drop n t.payload in
          later-drop t.how.id t.how.ack li (length t.payload) (sequence_after t.how.sequence 1) (drop n t.payload) k (bytes_drop n t.payload w.bytes) (omega arith) (omega arith) (omega arith) (omega arith)

-- ---- a cut of transactions one after another

data Split (room limit : ℕ) (s : Stream) (xs ys : List (List ℕ)) : Type 0 where
  between : WholeOnes room limit s xs → Rest room limit s Idle ys → Split room limit s xs ys
  inside : CutInside room limit s xs → Split room limit s xs ys

-- one whole transaction before
split-more : {room limit : ℕ} {s : Stream} {xs ys : List (List ℕ)} (t : Transaction) (all : List (List ℕ)) → Writable room limit s t → all ≡ calls limit t ++ xs → Split room limit s xs ys → Split room limit s all ys
split-more {limit = limit} t all w e (between o r) = between (record { sent = t ∷ o.sent; writable = (w, o.writable); packets-are = e ∙ rw (← o.packets-are) }) r
split-more {limit = limit} t all w e (inside c) =
    inside
    (record {
      sent = t ∷ c.sent;
      writable = (w, c.writable);
      cut-one = c.cut-one;
      cut-writable = c.cut-writable;
      come = c.come;
      some-come = c.some-come;
      not-all = c.not-all;
      packets-are = e ∙ ap (λ (x : List (List ℕ)). calls limit t ++ x) c.packets-are ∙ sym (append_assoc (calls limit t) (packets_in limit c.sent) (take c.come (calls limit c.cut-one)));
    })

-- two ways to part a list: the first part of one lies in the first part of the other, or past it
short-part : (xs ys cs ds : List (List ℕ)) → xs ++ ys ≡ cs ++ ds → length xs ≤ length cs → xs ≡ take (length xs) cs
short-part xs ys cs ds e l = sym (take_at xs ys (length xs) refl) ∙ ap (take (length xs)) e ∙ take-append-le (length xs) cs ds l

long-part : (xs ys cs ds : List (List ℕ)) → xs ++ ys ≡ cs ++ ds → length cs ≤ length xs → xs ≡ cs ++ drop (length cs) xs
long-part xs ys cs ds e l = sym (take-append-drop (length cs) xs) ∙ ap (λ (x : List (List ℕ)). x ++ drop (length cs) xs) (sym (short-part cs ds xs ys (sym e) l))

cancel : (cs us vs : List (List ℕ)) → cs ++ us ≡ cs ++ vs → us ≡ vs
cancel cs us vs e = sym (drop_at cs us (length cs) refl) ∙ ap (drop (length cs)) e ∙ drop_at cs vs (length cs) refl

empty-list : (xs : List (List ℕ)) → length xs ≡ 0 → xs ≡ []
empty-list [] e = refl
empty-list (x ∷ xs) e = absurd (omega arith)

module _ (room limit : ℕ) (s : Stream) where
  split_by : (t : Transaction) (ts : List Transaction) → AllWritable room limit s (t ∷ ts) → (xs ys : List (List ℕ)) → xs ++ ys ≡ packets_in limit (t ∷ ts)
      → ((us : List (List ℕ)) → us ++ ys ≡ packets_in limit ts → Split room limit s us ys) → (b z : Bool) → ltb (length xs) (length (calls limit t)) ≡ b → eqb (length xs) 0 ≡ z → Split room limit s xs ys
  split_by t ts ws xs ys e later true true eb ez =
      let n : xs ≡ [] = empty-list xs (eqb-true (length xs) 0 ez) in
      let y : ys ≡ packets_in limit (t ∷ ts) = rw n at e in
      between (record { sent = []; writable = tt; packets-are = n }) (rw y (sent-rest room limit s (t ∷ ts) ws))
  split_by t ts ws xs ys e later true false eb ez =
      let d : (length xs ≡ 0 → ⊥) = eqb-false (length xs) 0 ez in
      let l : length xs < length (calls limit t) = ltb-true (length xs) (length (calls limit t)) eb in
      inside
      (record {
        sent = [];
        writable = tt;
        cut-one = t;
        cut-writable = ws.0;
        come = length xs;
        some-come = omega arith;
        not-all = l;
        packets-are = short-part xs ys (calls limit t) (packets_in limit ts) e (omega arith);
      })
  split_by t ts ws xs ys e later false z eb ez =
      let l : length (calls limit t) ≤ length xs = ltb-false (length xs) (length (calls limit t)) eb in
      let us : List (List ℕ) = drop (length (calls limit t)) xs in
      let p : xs ≡ calls limit t ++ us = long-part xs ys (calls limit t) (packets_in limit ts) e l in
      split-more t xs ws.0 p
      (later us (cancel (calls limit t) (us ++ ys) (packets_in limit ts) (sym (append_assoc (calls limit t) us ys) ∙ ap (λ (x : List (List ℕ)). x ++ ys) (sym p) ∙ e)))

  split : (ts : List Transaction) → AllWritable room limit s ts → (xs ys : List (List ℕ)) → xs ++ ys ≡ packets_in limit ts → Split room limit s xs ys
  split [] ws [] ys e = between (record { sent = []; writable = tt; packets-are = refl }) (done e)
  split [] ws (x ∷ xs) ys e = let z = ap length e in absurd (omega arith)
  split (t ∷ ts) ws xs ys e = split_by t ts ws xs ys e (λ us f. split ts ws.1 us ys f) (ltb (length xs) (length (calls limit t))) (eqb (length xs) 0) refl refl

  -- whole transactions, and what may come after them where nothing is open
  then-rest : (ts : List Transaction) → AllWritable room limit s ts → (ys : List (List ℕ)) → Rest room limit s Idle ys → Rest room limit s Idle (packets_in limit ts ++ ys)
  then-rest [] ws ys r = r
  then-rest (t ∷ ts) ws ys r = begins t (packets_in limit ts ++ ys) ws.0 (then-rest ts ws.1 ys r) (append_assoc (calls limit t) (packets_in limit ts) ys)

  -- the packets that a stream's transaction lacks
  lacks : (qs : List (List ℕ)) → WholeOrCut room limit s qs → List (List ℕ)
  lacks qs (whole w) = []
  lacks qs (cut c) = drop c.come (calls limit c.cut-one)

  lacks_rest : (qs : List (List ℕ)) (w : WholeOrCut room limit s qs) → Rest room limit s Idle (qs ++ lacks qs w)
  unfolding lacks
  lacks_rest qs (whole w) = rw (append-nil, w.packets-are) (sent-rest room limit s w.sent w.writable)
  lacks_rest qs (cut c) =
      rw (c.packets-are, append_assoc, take-append-drop)
      (then-rest c.sent c.writable (calls limit c.cut-one) (begins c.cut-one [] c.cut-writable (done refl) (sym (append-nil _))))

  lacks-open : least_room ≤ room → (qs : List (List ℕ)) (w : WholeOrCut room limit s qs) → is_cut w ≡ true → OpenRest room limit s (lacks qs w)
  unfolding lacks
  lacks-open low qs (whole w) e = absurd (false≢true e)
  lacks-open low qs (cut c) e = cut_by room limit low s c.cut-one c.cut-writable c.come c.some-come c.not-all

-- ---- both ways

module _ (room limit : ℕ) (fits : InRange room limit) (ps : List (List ℕ)) (bytes : Packets ps) where
  low-room : least_room ≤ room
  low-room = room-low room fits.room_fits

  abbrev mine : Stream → List (List ℕ)
  mine s = those (carries limit s) ps

  -- one that ends inside a transaction can go on, and is not lawful
  inside-open : EndsInside room limit ps → Viable room limit ps × ¬ (LawfulPackets room limit ps)
  inside-open e =
      let tails : Tails = λ s. lacks room limit s (mine s) (e.each-stream s) in
      let r = complete room limit low-room tails ps idle e.all_known (λ s. rw (idle-slot s) (lacks_rest room limit s (mine s) (e.each-stream s))) in (
        goes-viable room limit fits ps bytes r.state r.runs,
        (λ l.
            let s : Stream = e.stream in
            let o = lacks-open room limit s low-room (mine s) (e.each-stream s) e.is_cut in
            let same-state : r.state ≡ idle = some_same r.state idle (sym r.runs ∙ lawful-runs room limit fits ps l) in
            conflict room limit low-room s (tails s) o.id o.left o.sequence (rw (same-state, idle-slot s) at (r.rests s)) o.rest),
      )
    where
      some_same : (a b : State) → some a ≡ some b → a ≡ b
      some_same a b q = cc

  module _ (t : State) (runs : run_of room limit idle ps ≡ some t) where
    good : AllGood t
    good = run-good room limit ps t idle idle-good runs

    -- what ends each stream
    tails_of : Tails
    tails_of s = (ending room limit fits s (slot_in t s) (good s)).more

    all_sound : Sound room limit fits tails_of idle ps
    unfolding tails_of
    all_sound = sound room limit fits tails_of t (λ s. (ending room limit fits s (slot_in t s) (good s)).more-rest) ps bytes idle runs

    -- a stream's packets are cut where its slot is open
    record Came (s : Stream) (slot : SenderSlot) : Type 0 where
      side : WholeOrCut room limit s (mine s)
      cut-when : is_cut side ≡ not (is_idle slot)

    came-open : (s : Stream) (tail : List (List ℕ)) (id left sequence : ℕ) → Rest room limit s (Open id left sequence) tail → Split room limit s (mine s) tail → Came s (Open id left sequence)
    came-open s tail id left sequence r (between w o) = absurd (conflict room limit low-room s tail id left sequence o r)
    came-open s tail id left sequence r (inside c) = record { side = cut c; cut-when = refl }

    came-by : (s : Stream) (slot : SenderSlot) (tail : List (List ℕ)) → Rest room limit s slot tail → (slot ≡ Idle → tail ≡ []) → SentAs room limit s (mine s ++ tail) → Came s slot
    came-by s Idle tail r z sent =
        record {
          side = whole (record { sent = sent.sent; writable = sent.writable; packets-are = rw (z refl, append-nil) at sent.packets-are });
          cut-when = refl;
        }
    came-by s (Open id left sequence) tail r z sent =
        came-open s tail id left sequence r (split room limit s sent.sent sent.writable (mine s) tail sent.packets-are)

    came : (s : Stream) → Came s (slot_in t s)
    unfolding tails_of
    came s =
        came-by s (slot_in t s) (tails_of s) (ending room limit fits s (slot_in t s) (good s)).more-rest (ending room limit fits s (slot_in t s) (good s)).only-open
        (sent-of (all_sound.awaits s) (idle-slot s))

    -- some slot is open
    record SomeOpen : Type 0 where
      stream : Stream
      is_open : is_idle (slot_in t stream) ≡ false

    open_by : (a b c : Bool) → is_idle t.control ≡ a → is_idle t.ota ≡ b → is_idle t.alexa ≡ c → (a && (b && c)) ≡ false → SomeOpen
    open_by false b c ea eb ec e = record { stream = Control; is_open = ea }
    open_by true false c ea eb ec e = record { stream = Ota; is_open = eb }
    open_by true true c ea eb ec e = record { stream = Alexa; is_open = ec ∙ e }

    open-inside : all_idle t ≡ false → EndsInside room limit ps
    open-inside e =
        let o = open_by (is_idle t.control) (is_idle t.ota) (is_idle t.alexa) refl refl refl e in
        record {
          all_known = all_sound.all_known;
          each-stream = λ s. (came s).side;
          stream = o.stream;
          is_cut = (came o.stream).cut-when ∙ rw o.is_open;
        }

    ends_by : (b : Bool) → all_idle t ≡ b → ¬ (LawfulPackets room limit ps) → EndsInside room limit ps
    ends_by true e n = absurd (n (runs-lawful room limit fits ps bytes (rw (idle-when t e) at runs)))
    ends_by false e n = open-inside e

pub open-is-inside : OpenIsInside
open-is-inside room limit ps room_fits limit-fits bytes =
    let fits : InRange room limit = record { room_fits = room_fits; limit-fits = limit-fits } in (
      (λ h. let g = viable-goes room limit fits ps h.0 in ends_by room limit fits ps bytes g.state g.goes (all_idle g.state) refl h.1),
      inside-open room limit fits ps bytes,
    )
