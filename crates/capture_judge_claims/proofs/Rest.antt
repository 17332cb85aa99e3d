-- What may still come on a stream, from what is open on it: the packets that make it lawful.
use Prim.Native.Nat.{ℕ, zero, suc, ◌+◌, ◌-◌, ◌≤◌, ◌<◌}
use native.Mathlib.Omega.{arith}
use mathlib.Core.Path.{◌≡◌, refl, sym, ap, ◌∙◌}
use mathlib.Core.List.{List, [], ◌∷◌, ◌++◌}
use mathlib.Core.Bool.{Bool, true, false, cond, not, ◌&&◌, ◌||◌, false≢true}
use mathlib.Core.Option.{none, some}
use lib.ListN.{length, take, drop, replicate, length-append, length-take, length-drop, length-replicate}
use lib.Seq.{take_at, drop_at}
use lib.Dec.{eqb}
use borrow.Author.Tests.{eq-eqb, ne_eqb, eqb-true, eqb-false, le-leb, lt-ltb}
use Rattle.wire.specs.Told.{Told, given, refused}
use Rattle.wire.specs.Bytes.{AllBytes}
use Rattle.wire.specs.declared.stream.Stream.{Stream}
use Rattle.wire.specs.Stream.{stream_number, stream_of}
use Rattle.wire.specs.Limit.{limit_fits}
use Rattle.wire.proofs.ByteLists.{bytes-append, bytes_drop}
use Rattle.wire.proofs.Streams.{stream-known, stream-back}
use Rattle.wire.proofs.Tests.{and_left, and_right}
use Rattle.ble_packet.specs.declared.reader.Head.{Head}
use Rattle.ble_packet.specs.declared.reader.Packet.{Packet}
use Rattle.ble_packet.specs.declared.reader.Packet.TheVariants.{First, Next, Ack, Nack}
use Rattle.ble_packet.specs.Header.{four_bits, in_range, header_size, sequence_after}
use Rattle.ble_packet.specs.Reader.{head_in, read_of}
use Rattle.ble_packet.proofs.Headers.{in-range-low}
use Rattle.ble_packet.proofs.Written.{first_packet, next_packet, read-written}
use Rattle.ble_packet.proofs.Reading.{read-passes, first_read, next-read}
use Rattle.ble_sender.specs.Piece.{least_room, extended, size_for}
use Rattle.ble_sender.specs.Writer.{room_fits, arguments_fit}
use Rattle.ble_sender_claims.specs.Calls.{calls_of}
use Rattle.ble_sender.proofs.Largest.{size-le, size-some}
use Rattle.ble_sender.proofs.Guard.{room-low, range-facts}
use Rattle.ble_sender_claims.proofs.CallsGiveAll.{calls_are}
use Rattle.capture_stream.specs.declared.SenderSlot.{SenderSlot}
use Rattle.capture_stream.specs.declared.SenderSlot.TheVariants.{Idle, Open}
use Rattle.capture_judge.specs.declared.State.{State}
use Rattle.capture_stream.specs.Slot.{same, fits_piece, slot_for, first_step, next_fits, next_step, slot_step, is_idle}
use Rattle.capture_judge.specs.Step.{slot_in, with_slot, step_of}
use Rattle.capture_judge_claims.specs.Lawful.{Transaction, Writable, acknowledges}
use Rattle.ble_sender.proofs.Later.{later, later-fuel, packets-are}

-- ---- the packets of a transaction

-- where its first piece is known
pub first_then : (room limit : ℕ) (s : Stream) (t : Transaction) → Writable room limit s t → (n : ℕ) → n ≡ size_for room true (length t.payload)
    → calls_of limit t.how t.payload t.out
    ≡ first_packet (stream_number s) t.how.id t.how.sequence (eqb n (length t.payload) && t.how.ack) (extended n) (length t.payload) (take n t.payload)
    ∷ cond (eqb n (length t.payload)) []
    (later (length t.payload) room (stream_number s) t.how.id (sequence_after t.how.sequence 1) t.how.ack (drop n t.payload))
unfolding arguments_fit
first_then room limit s t w n e =
    let h = and_left (in_range t.how.stream t.how.id t.how.sequence) _ w.takes.arguments in
    let low = in-range-low t.how.stream t.how.id t.how.sequence h in
    rw (e, ← w.room-is, ← w.stream-is)
    (calls_are limit t.how t.payload t.out w.takes
    ∙ packets-are t.how t.payload (room-low t.how.room w.takes.room) low.2)

-- the bytes that are left, in two parts of which the first is the next piece
next-then : (room stream id sequence fuel left : ℕ) (ack : Bool) (payload rest : List ℕ) → length payload + length rest ≡ left → length payload ≡ size_for room false left
    → later (suc fuel) room stream id sequence ack (payload ++ rest)
    ≡ next_packet stream id sequence (eqb (length payload) left) (eqb (length payload) left && ack) (extended (length payload)) payload
    ∷ cond (eqb (length payload) left) [] (later fuel room stream id (sequence_after sequence 1) ack rest)
unfolding later
next-then room stream id sequence fuel left ack payload rest e n =
    let z : length (payload ++ rest) ≡ left = length-append payload rest ∙ e in
    rw (z, ← n, take_at payload rest (length payload) refl, drop_at payload rest (length payload) refl)

-- room and limit in range
pub record InRange (room limit : ℕ) : Type 0 where
  pub room_fits : room_fits room ≡ true
  pub limit-fits : limit_fits limit ≡ true

-- ---- what may still come

pub data Rest (room limit : ℕ) (s : Stream) : SenderSlot → List (List ℕ) → Type 0 where
  done : {qs : List (List ℕ)} → qs ≡ [] → Rest room limit s Idle qs
  begins : {qs : List (List ℕ)} (t : Transaction) (others : List (List ℕ)) → Writable room limit s t → Rest room limit s Idle others
      → qs ≡ calls_of limit t.how t.payload t.out ++ others → Rest room limit s Idle qs
  within : {qs : List (List ℕ)} {id left sequence : ℕ} (fuel : ℕ) (ack : Bool) (rest : List ℕ) (others : List (List ℕ)) → AllBytes rest
      → id < four_bits → sequence < four_bits → length rest ≡ left → 1 ≤ left → left ≤ fuel → Rest room limit s Idle others
      → qs ≡ later fuel room (stream_number s) id sequence ack rest ++ others → Rest room limit s (Open id left sequence) qs

-- ---- forwards: the packet that may come is taken

-- the flag stands only on the last
flag-last : (b ack : Bool) → (not (b && ack) || b) ≡ true
flag-last true true = refl
flag-last true false = refl
flag-last false ack = refl

piece-fits : (room left n : ℕ) (first ack : Bool) → n ≡ size_for room first left → fits_piece room first left (eqb n left && ack) (header_size first (extended n)) n ≡ true
unfolding fits_piece
piece-fits room left n first ack e =
    rw (eq-eqb n (size_for room first left) e, eq-eqb (header_size first (extended n)) (header_size first (extended n)) refl) (flag-last (eqb n left) ack)

same_refl : (b : Bool) → same b b ≡ true
same_refl true = refl
same_refl false = refl

-- a first packet was read
abbrev pub is_first_read : Told Packet → Bool
is_first_read (given (First head ack total start len)) = true
is_first_read (given (Next head ack last start len)) = false
is_first_read (given (Ack head)) = false
is_first_read (given (Nack head)) = false
is_first_read (refused n) = false

-- the packet is taken, whatever the other streams hold, and what may come after it comes
pub record Taken (room limit : ℕ) (s : Stream) (slot : SenderSlot) (p : List ℕ) (qs : List (List ℕ)) : Type 0 where
  pub next : SenderSlot
  pub first-or-not : is_first_read (read_of limit p) ≡ is_idle slot
  pub takes : (st : State) → slot_in st s ≡ slot → step_of room limit st p ≡ some (with_slot st s next)
  pub rest : Rest room limit s next qs

empty-only : (room n total : ℕ) → least_room ≤ room → n ≡ size_for room true total → n ≡ 0 → total ≡ 0
empty-only room n zero low e z = refl
empty-only room n (suc total) low e z = let h : 1 ≤ size_for room true (suc total) = size-some room true low (suc total) (omega arith) in absurd (omega arith)

module _ (room limit : ℕ) (low : least_room ≤ room) (s : Stream) where
  first-is-read : (id sequence total n : ℕ) (ack : Bool) (payload : List ℕ) → id < four_bits → sequence < four_bits → n ≡ size_for room true total → total ≤ limit → length payload ≡ n
      → read_of limit (first_packet (stream_number s) id sequence ack (extended n) total payload)
      ≡ given (First (record { stream = stream_of (stream_number s); id = id; sequence = sequence }) ack total (header_size true (extended n)) (length payload))
  first-is-read id sequence total n ack payload li ls e t l =
      let k : n ≤ total = rw e (size-le room true low total) in
      let z : (length payload ≡ 0 → total ≡ 0) = λ u. empty-only room n total low e (omega arith) in
      first_read limit (stream_number s) id sequence ack payload (stream-known s) li ls (extended n) total t z (omega arith)

  next-is-read : (id sequence left n : ℕ) (last ack : Bool) (payload : List ℕ) → id < four_bits → sequence < four_bits → n ≡ size_for room false left → 1 ≤ left → length payload ≡ n
      → read_of limit (next_packet (stream_number s) id sequence last ack (extended n) payload)
      ≡ given (Next (record { stream = stream_of (stream_number s); id = id; sequence = sequence }) ack last (header_size false (extended n)) (length payload))
  next-is-read id sequence left n last ack payload li ls e some_left l =
      let k : 1 ≤ n = rw e (size-some room false low left some_left) in
      next-read limit (stream_number s) id sequence ack payload (stream-known s) li ls (extended n) last (omega arith)

  first_step_lem : (id sequence total n : ℕ) (ack : Bool) (payload : List ℕ) (st : State) → id < four_bits → sequence < four_bits → n ≡ size_for room true total → total ≤ limit → length payload ≡ n
      → slot_in st s ≡ Idle
      → step_of room limit st (first_packet (stream_number s) id sequence (eqb n total && ack) (extended n) total payload) ≡ some (with_slot st s (slot_for id (total - n) (sequence_after sequence 1)))
  unfolding step_of first_step
  first_step_lem id sequence total n ack payload st li ls e t l idle =
      rw (
        first-is-read id sequence total n (eqb n total && ack) payload li ls e t l,
        stream-back s,
        idle,
        l,
        piece-fits room total n true ack e,
      )

  next-step : (id sequence left n : ℕ) (ack : Bool) (payload : List ℕ) (st : State) → id < four_bits → sequence < four_bits → n ≡ size_for room false left → 1 ≤ left → length payload ≡ n
      → slot_in st s ≡ Open id left sequence
      → step_of room limit st (next_packet (stream_number s) id sequence (eqb n left) (eqb n left && ack) (extended n) payload) ≡ some (with_slot st s (slot_for id (left - n) (sequence_after sequence 1)))
  unfolding step_of next_step next_fits
  next-step id sequence left n ack payload st li ls e some_left l opened =
      rw (
        next-is-read id sequence left n (eqb n left) (eqb n left && ack) payload li ls e some_left l,
        stream-back s,
        opened,
        eq-eqb id id refl,
        eq-eqb sequence sequence refl,
        l,
        piece-fits room left n false ack e,
        same_refl (eqb n left),
      )

  -- what is open after a packet of n bytes, where this many were left
  rest-after : (id sequence left n fuel : ℕ) (ack : Bool) (rest : List ℕ) (others : List (List ℕ)) → AllBytes rest → id < four_bits → length rest ≡ left - n → n ≤ left → left ≤ fuel + n → Rest room limit s Idle others
      → (last : Bool) → eqb n left ≡ last
      → Rest room limit s (slot_for id (left - n) (sequence_after sequence 1)) (cond last [] (later fuel room (stream_number s) id (sequence_after sequence 1) ack rest) ++ others)
  rest-after id sequence left n fuel ack rest others b li r k f o true e =
      let z : n ≡ left = eqb-true n left e in
      rw (eq-eqb (left - n) 0 (omega arith)) o
  rest-after id sequence left n fuel ack rest others b li r k f o false e =
      let d : (n ≡ left → ⊥) = eqb-false n left e in
      rw (ne_eqb (left - n) 0 (λ z. d (omega arith))) (within {id = id} {left = left - n} {sequence = sequence_after sequence 1} fuel ack rest others b li (omega arith) r (omega arith) (omega arith) o refl)

  first_taken : (t : Transaction) (p : List ℕ) (qs others : List (List ℕ)) → Writable room limit s t → Rest room limit s Idle others
      → p ∷ qs ≡ calls_of limit t.how t.payload t.out ++ others → Taken room limit s Idle p qs
  unfolding arguments_fit
  first_taken t p qs others w o e =
      let h = and_left (in_range t.how.stream t.how.id t.how.sequence) _ w.takes.arguments in
      let small = in-range-low t.how.stream t.how.id t.how.sequence h in
      let fits = range-facts limit t.how (length t.payload) w.takes.arguments in
      let total : ℕ = length t.payload in
      let n : ℕ = size_for room true total in
      let k : n ≤ total = size-le room true low total in
      let first : List ℕ = first_packet (stream_number s) t.how.id t.how.sequence (eqb n total && t.how.ack) (extended n) total (take n t.payload) in
      let more : List (List ℕ) = cond (eqb n total) [] (later total room (stream_number s) t.how.id (sequence_after t.how.sequence 1) t.how.ack (drop n t.payload)) in
      let both : p ∷ qs ≡ first ∷ (more ++ others) = e ∙ ap (λ (x : List (List ℕ)). x ++ others) (first_then room limit s t w n refl) in
      let head : p ≡ first = cc in
      let tail : qs ≡ more ++ others = cc in
      record {
        next = slot_for t.how.id (total - n) (sequence_after t.how.sequence 1);
        first-or-not =
            rw (head, first-is-read t.how.id t.how.sequence total n (eqb n total && t.how.ack) (take n t.payload) small.1 small.2 refl fits.within (length-take n t.payload ∙ omega arith));
        takes = λ st idle.
            rw head
            (first_step_lem t.how.id t.how.sequence total n t.how.ack (take n t.payload) st small.1 small.2 refl fits.within (length-take n t.payload ∙ omega arith) idle);
        rest =
            rw tail
            (rest-after t.how.id t.how.sequence total n total t.how.ack (drop n t.payload) others (bytes_drop n t.payload w.bytes) small.1 (length-drop n t.payload) k (omega arith) o (eqb n total) refl);
      }

  next-taken : (id left sequence fuel : ℕ) (ack : Bool) (rest : List ℕ) (p : List ℕ) (qs others : List (List ℕ)) → AllBytes rest → id < four_bits → sequence < four_bits → length rest ≡ left → 1 ≤ left → left ≤ fuel
      → Rest room limit s Idle others
      → p ∷ qs ≡ later fuel room (stream_number s) id sequence ack rest ++ others → Taken room limit s (Open id left sequence) p qs
  unfolding later
  next-taken id left sequence zero ack rest p qs others b li ls r sl f o e = absurd (omega arith)
  next-taken id left sequence (suc fuel) ack rest p qs others b li ls r sl f o e =
      let n : ℕ = size_for room false left in
      let k : n ≤ left = size-le room false low left in
      let k1 : 1 ≤ n = size-some room false low left sl in
      let first : List ℕ = next_packet (stream_number s) id sequence (eqb n left) (eqb n left && ack) (extended n) (take n rest) in
      let more : List (List ℕ) = cond (eqb n left) [] (later fuel room (stream_number s) id (sequence_after sequence 1) ack (drop n rest)) in
      let both : p ∷ qs ≡ first ∷ (more ++ others) = rw r at e in
      let head : p ≡ first = cc in
      let tail : qs ≡ more ++ others = cc in
      record {
        next = slot_for id (left - n) (sequence_after sequence 1);
        first-or-not = rw (head, next-is-read id sequence left n (eqb n left) (eqb n left && ack) (take n rest) li ls refl sl (length-take n rest ∙ omega arith));
        takes = λ st opened. rw head (next-step id sequence left n ack (take n rest) st li ls refl sl (length-take n rest ∙ omega arith) opened);
        rest = rw tail (rest-after id sequence left n fuel ack (drop n rest) others (bytes_drop n rest b) li (length-drop n rest ∙ omega arith) k (omega arith) o (eqb n left) refl);
      }

  pub advance : {slot : SenderSlot} {all : List (List ℕ)} (p : List ℕ) (qs : List (List ℕ)) → Rest room limit s slot all → all ≡ p ∷ qs → Taken room limit s slot p qs
  advance p qs (done d) e = let z : 0 ≡ suc (length qs) = ap length (sym d ∙ e) in absurd (omega arith)
  advance p qs (begins t others w o d) e = first_taken t p qs others w o (sym e ∙ d)
  advance p qs (within {id = id} {left = left} {sequence = sequence} fuel ack rest others b li ls r sl f o d) e =
      next-taken id left sequence fuel ack rest p qs others b li ls r sl f o (sym e ∙ d)

  -- nothing may be missing where nothing is open
  empty-by : {slot : SenderSlot} {all : List (List ℕ)} → Rest room limit s slot all → all ≡ [] → slot ≡ Idle
  unfolding later
  empty-by (done d) e = refl
  empty-by (begins t others w o d) e = refl
  empty-by (within zero ack rest others b li ls r sl f o d) e = absurd (omega arith)
  empty-by (within {id = id} {left = left} {sequence = sequence} (suc fuel) ack rest others b li ls r sl f o d) e =
      let z = ap length (sym e ∙ d) in absurd (omega arith)

  pub rest-empty : {slot : SenderSlot} → Rest room limit s slot [] → slot ≡ Idle
  rest-empty r = empty-by r refl

-- ---- backwards: before a packet that was taken

-- what a piece that fits says
record Fits (room left start len : ℕ) (first ack : Bool) : Type 0 where
  size_is : len ≡ size_for room first left
  start_is : start ≡ header_size first (extended len)
  flag_is : (eqb len left && ack) ≡ ack

flag-back : (b ack : Bool) → (not ack || b) ≡ true → (b && ack) ≡ ack
flag-back true ack e = refl
flag-back false true e = e
flag-back false false e = refl

fits-back : (room left start len : ℕ) (first ack : Bool) → fits_piece room first left ack start len ≡ true → Fits room left start len first ack
unfolding fits_piece
fits-back room left start len first ack e =
    let a = and_left (eqb len (size_for room first left)) _ e in
    let b = and_right (eqb len (size_for room first left)) _ e in
    record {
      size_is = eqb-true len (size_for room first left) a;
      start_is = eqb-true start (header_size first (extended len)) (and_left (eqb start (header_size first (extended len))) _ b);
      flag_is = flag-back (eqb len left) ack (and_right (eqb start (header_size first (extended len))) _ b);
    }

-- what is left after a packet with this flag: the wish is the flag where nothing is left
record Left (room limit : ℕ) (s : Stream) (id left sequence : ℕ) (flag : Bool) (qs : List (List ℕ)) : Type 0 where
  fuel : ℕ
  wish : Bool
  rest : List ℕ
  others : List (List ℕ)
  rest-bytes : AllBytes rest
  size : length rest ≡ left
  fueled : left ≤ fuel
  then : Rest room limit s Idle others
  last-wish : left ≡ 0 → wish ≡ flag
  packets : qs ≡ cond (eqb left 0) [] (later fuel room (stream_number s) id sequence wish rest) ++ others

left_by : (room limit : ℕ) (s : Stream) (id left sequence : ℕ) (flag : Bool) (qs : List (List ℕ)) (b : Bool) → eqb left 0 ≡ b
    → Rest room limit s (cond b Idle (Open id left sequence)) qs → Left room limit s id left sequence flag qs
left_by room limit s id left sequence flag qs true e r =
    record {
      fuel = left;
      wish = flag;
      rest = [];
      others = qs;
      rest-bytes = tt;
      size = sym (eqb-true left 0 e);
      fueled = omega arith;
      then = r;
      last-wish = λ z. refl;
      packets = rw e;
    }
left_by room limit s id left sequence flag qs false e (within fuel ack rest others b li ls size sl f o d) =
    record {
      fuel = fuel;
      wish = ack;
      rest = rest;
      others = others;
      rest-bytes = b;
      size = size;
      fueled = f;
      then = o;
      last-wish = λ z. absurd (eqb-false left 0 e z);
      packets = rw e d;
    }

-- the flag of a packet is the wish where it is the last, and else it is off
flag_same : (len left : ℕ) (flag wish b : Bool) → eqb len left ≡ b → len ≤ left → (left - len ≡ 0 → wish ≡ flag) → (b && flag) ≡ flag → flag ≡ (b && wish)
flag_same len left flag wish true e l w f = let z : len ≡ left = eqb-true len left e in sym (w (omega arith))
flag_same len left flag wish false e l w f = sym f

-- the last piece leaves nothing
last-same : (len left : ℕ) (b : Bool) → eqb len left ≡ b → len ≤ left → eqb (left - len) 0 ≡ b
last-same len left true e l = let z : len ≡ left = eqb-true len left e in eq-eqb (left - len) 0 (omega arith)
last-same len left false e l = let d : (len ≡ left → ⊥) = eqb-false len left e in ne_eqb (left - len) 0 (λ z. d (omega arith))

tail-same : (f g room stream id sequence left : ℕ) (wish : Bool) (rest : List ℕ) (b : Bool) → least_room ≤ room → length rest ≡ left → eqb left 0 ≡ b → left ≤ f → left ≤ g
    → cond b [] (later f room stream id sequence wish rest) ≡ cond b [] (later g room stream id sequence wish rest)
tail-same f g room stream id sequence left wish rest true low l e hf hg = refl
tail-same f g room stream id sequence left wish rest false low l e hf hg =
    let d : (left ≡ 0 → ⊥) = eqb-false left 0 e in
    later-fuel f g room stream id sequence wish rest low (omega arith) (omega arith) (omega arith)

-- a packet and what is left after it, joined
module _ (room stream id sequence len left fuel : ℕ) (flag wish : Bool) (payload rest : List ℕ) (qs others : List (List ℕ))
    (low : least_room ≤ room) (size : length payload ≡ len) (rest-size : length rest ≡ left - len) (small : len ≤ left) (fueled : left - len ≤ fuel)
    (flag_is : flag ≡ (eqb len left && wish))
    (packets : qs ≡ cond (eqb (left - len) 0) [] (later fuel room stream id (sequence_after sequence 1) wish rest) ++ others) where
  whole : length (payload ++ rest) ≡ left
  whole = length-append payload rest ∙ omega arith

  joined-first : (p : List ℕ) → p ≡ first_packet stream id sequence flag (extended len) left payload
      → p ∷ qs
      ≡ (first_packet stream id sequence (eqb len (length (payload ++ rest)) && wish) (extended len) (length (payload ++ rest)) (take len (payload ++ rest))
      ∷ cond (eqb len (length (payload ++ rest))) [] (later (length (payload ++ rest)) room stream id (sequence_after sequence 1) wish (drop len (payload ++ rest))))
      ++ others
  joined-first p e =
      rw (
        whole,
        take_at payload rest len size,
        drop_at payload rest len size,
        ← flag_is,
        e,
        packets,
        last-same len left (eqb len left) refl small,
        tail-same fuel left room stream id (sequence_after sequence 1) (left - len) wish rest (eqb len left) low rest-size (last-same len left (eqb len left) refl small) fueled (omega arith),
      )

  joined-next : (p : List ℕ) → p ≡ next_packet stream id sequence (eqb len left) flag (extended len) payload → len ≡ size_for room false left
      → p ∷ qs ≡ later (suc left) room stream id sequence wish (payload ++ rest) ++ others
  joined-next p e n =
      rw (
        next-then room stream id sequence left left wish payload rest (omega arith) (size ∙ n),
        e,
        size,
        ← flag_is,
        packets,
        last-same len left (eqb len left) refl small,
        tail-same fuel left room stream id (sequence_after sequence 1) (left - len) wish rest (eqb len left) low rest-size (last-same len left (eqb len left) refl small) fueled (omega arith),
      )

module _ (room limit : ℕ) (fits-room : InRange room limit) (s : Stream) where
  low-room : least_room ≤ room
  low-room = room-low room fits-room.room_fits

  -- a transaction that our writer takes
  writable : (id sequence : ℕ) (wish : Bool) (m : List ℕ) → id < 16 → sequence < 16 → length m ≤ limit → AllBytes m
      → Writable room limit s
      (record { how = record { room = room; stream = stream_number s; id = id; sequence = sequence; ack = wish }; payload = m; out = replicate room 0 })
  unfolding arguments_fit in_range
  writable id sequence wish m li ls l b =
      record {
        takes = record {
          range = fits-room.limit-fits;
          room = fits-room.room_fits;
          arguments = rw (stream-known s, lt-ltb id 16 li, lt-ltb sequence 16 ls) (le-leb (length m) limit l);
          space = rw (length-replicate {A = ℕ} room 0) (omega arith);
        };
        room-is = refl;
        stream-is = refl;
        bytes = b;
      }

  module _ (p : List ℕ) (bytes : AllBytes p) (h : Head) (of-stream : h.stream ≡ s) (ack : Bool) (start len : ℕ) (qs : List (List ℕ)) where
    first-joined : (total : ℕ) → read_of limit p ≡ given (First h ack total start len) → Fits room total start len true ack
        → Left room limit s h.id (total - len) (sequence_after h.sequence 1) ack qs → Rest room limit s Idle (p ∷ qs)
    first-joined total e fits left =
        let passes = rw e at (read-passes limit p) in
        let bounds = passes.within in
        let written = (rw e at (read-written limit p bytes)) (extended len) fits.start_is in
        let small : len ≤ total = bounds.1 in
        let m : List ℕ = drop start p ++ left.rest in
        let size : length m ≡ total = length-append (drop start p) left.rest ∙ rw (written.same_size, left.size) (omega arith) in
        let w = writable h.id h.sequence left.wish m bounds.4.0 bounds.4.1 (rw size bounds.2) (bytes-append (drop start p) left.rest (bytes_drop start p bytes) left.rest-bytes) in
        begins _ left.others w left.then
        (joined-first room (stream_number s) h.id h.sequence len total left.fuel ack left.wish (drop start p) left.rest qs left.others
        low-room written.same_size left.size small left.fueled
        (flag_same len total ack left.wish (eqb len total) refl small left.last-wish fits.flag_is)
        left.packets p (rw of-stream at written.same_bytes)
        ∙ ap (λ (x : List (List ℕ)). x ++ left.others) (sym (first_then room limit s _ w len (rw size fits.size_is))))

    first_back : (total : ℕ) → read_of limit p ≡ given (First h ack total start len) → fits_piece room true total ack start len ≡ true
        → Rest room limit s (slot_for h.id (total - len) (sequence_after h.sequence 1)) qs → Rest room limit s Idle (p ∷ qs)
    first_back total e f r =
        first-joined total e (fits-back room total start len true ack f)
        (left_by room limit s h.id (total - len) (sequence_after h.sequence 1) ack qs (eqb (total - len) 0) refl r)

    next-joined : (left : ℕ) (last : Bool) → read_of limit p ≡ given (Next h ack last start len) → Fits room left start len false ack → last ≡ eqb len left
        → Left room limit s h.id (left - len) (sequence_after h.sequence 1) ack qs → Rest room limit s (Open h.id left h.sequence) (p ∷ qs)
    next-joined left last e fits l after =
        let passes = rw e at (read-passes limit p) in
        let bounds = passes.within in
        let both = rw e at (read-written limit p bytes) in
        let written = both.1 (extended len) fits.start_is in
        let small : len ≤ left = rw fits.size_is (size-le room false low-room left) in
        let some_byte : 1 ≤ len = both.0 in
        within {id = h.id} {left = left} {sequence = h.sequence} (suc left) after.wish (drop start p ++ after.rest) after.others
        (bytes-append (drop start p) after.rest (bytes_drop start p bytes) after.rest-bytes) bounds.1.0 bounds.1.1
        (length-append (drop start p) after.rest ∙ rw (written.same_size, after.size) (omega arith)) (omega arith) (omega arith) after.then
        (joined-next room (stream_number s) h.id h.sequence len left after.fuel ack after.wish (drop start p) after.rest qs after.others
        low-room written.same_size after.size small after.fueled
        (flag_same len left ack after.wish (eqb len left) refl small after.last-wish fits.flag_is)
        after.packets p (rw (of-stream, l) at written.same_bytes) fits.size_is)

    next-back : (id left sequence : ℕ) (last : Bool) → read_of limit p ≡ given (Next h ack last start len) → h.id ≡ id → h.sequence ≡ sequence
        → fits_piece room false left ack start len ≡ true → last ≡ eqb len left
        → Rest room limit s (slot_for id (left - len) (sequence_after sequence 1)) qs → Rest room limit s (Open id left sequence) (p ∷ qs)
    next-back id left sequence last e i q f l r =
        rw (← i, ← q)
        (next-joined left last e (fits-back room left start len false ack f) l
        (left_by room limit s h.id (left - len) (sequence_after h.sequence 1) ack qs (eqb (left - len) 0) refl (rw (i, q) r)))

same_true : (a b : Bool) → same a b ≡ true → a ≡ b
same_true true b e = sym e
same_true false true e = e
same_true false false e = refl

-- what a step that was taken says
pub record Chosen {A : Type 0} (b : Bool) (x y : A) : Type 0 where
  pub test : b ≡ true
  pub is-it : x ≡ y

pub chosen : {A : Type 0} (b : Bool) (x y : A) → cond b (some x) none ≡ some y → Chosen b x y
chosen true x y e = record { test = refl; is-it = cc }
chosen false x y e = let z : ◌≡◌ {A = ℕ} 0 1 = cc in absurd (omega arith)

pub never-some : {A : Type 0} {B : Type 0} (y : A) → none ≡ some y → B
never-some y e = let z : ◌≡◌ {A = ℕ} 0 1 = cc in absurd (omega arith)

-- before a packet that a slot took, what may come is the packet and what may come after it
pub step_back : (room limit : ℕ) (fits-room : InRange room limit) (s : Stream) (p : List ℕ) → AllBytes p → (x : Packet) → read_of limit p ≡ given x → (head_in x).stream ≡ s
    → acknowledges (given x) ≡ false → (slot next : SenderSlot) (qs : List (List ℕ)) → slot_step room slot x ≡ some next → Rest room limit s next qs → Rest room limit s slot (p ∷ qs)
unfolding first_step next_step next_fits
step_back room limit fits-room s p bytes (First h ack total start len) e os na Idle next qs st r =
    let c = chosen (fits_piece room true total ack start len) _ next st in
    first_back room limit fits-room s p bytes h os ack start len qs total e c.test (rw c.is-it r)
step_back room limit fits-room s p bytes (Next h ack last start len) e os na Idle next qs st r = never-some next st
step_back room limit fits-room s p bytes (Ack h) e os na Idle next qs st r = absurd (false≢true (sym na))
step_back room limit fits-room s p bytes (Nack h) e os na Idle next qs st r = absurd (false≢true (sym na))
step_back room limit fits-room s p bytes (First h ack total start len) e os na (Open id left sequence) next qs st r = never-some next st
step_back room limit fits-room s p bytes (Next h ack last start len) e os na (Open id left sequence) next qs st r =
    let c = chosen (eqb h.id id && (eqb h.sequence sequence && (fits_piece room false left ack start len && same last (eqb len left)))) _ next st in
    let t1 = and_right (eqb h.id id) _ c.test in
    let t2 = and_right (eqb h.sequence sequence) _ t1 in
    next-back room limit fits-room s p bytes h os ack start len qs id left sequence last e
    (eqb-true h.id id (and_left (eqb h.id id) _ c.test))
    (eqb-true h.sequence sequence (and_left (eqb h.sequence sequence) _ t1))
    (and_left (fits_piece room false left ack start len) _ t2)
    (same_true last (eqb len left) (and_right (fits_piece room false left ack start len) _ t2))
    (rw c.is-it r)
step_back room limit fits-room s p bytes (Ack h) e os na (Open id left sequence) next qs st r = absurd (false≢true (sym na))
step_back room limit fits-room s p bytes (Nack h) e os na (Open id left sequence) next qs st r = absurd (false≢true (sym na))
