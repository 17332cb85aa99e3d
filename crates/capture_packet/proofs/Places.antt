-- Laws of reading at a place: what stands inside a capture, and that place after place all its packets are read.
use Prim.Native.Nat.{ℕ, zero, suc, ◌+◌, ◌≤◌, ◌<◌}
use native.Mathlib.Omega.{arith}
use mathlib.Core.Path.{◌≡◌, refl, sym, ap, ◌∙◌}
use mathlib.Core.Bool.{Bool, true, false}
use mathlib.Core.List.{List, []}
use mathlib.Mathlib.Data.Bool.Basic.{or-eq-false-eq-eq-false-and-eq-false}
use lib.ListN.{length, take, drop, length-drop, drop_of_length-le}
use lib.Seq.{drop-drop}
use lib.Dec.{eqb, ltb}
use borrow.Author.Tests.{eq-eqb, ne_eqb, le-ltb, eqb-true, eqb-false, ltb-false}
use Rattle.wire.specs.Told.{Told, given, refused, and_then}
use Rattle.capture_reader.specs.Capture.{width, ToldAt, located, front_of, before, packets_from, other_version, packets_of}
use Rattle.capture_reader.proofs.Walking.{front-within, packets-cons, packets-nil, packets-begin, other-refused, some_byte}
use Rattle.capture_packet.specs.Place.{PacketItem, found, end, found_at, bad_place, packet_at}

module _ (bytes : List ℕ) (place : ℕ) where
  pub place-within : bad_place bytes place ≡ false → (1 ≤ place) × (place ≤ length bytes)
  unfolding bad_place
  place-within e =
      let both = (or-eq-false-eq-eq-false-and-eq-false (eqb place 0) (ltb (length bytes) place)).0 e in
      let d : (place ≡ 0 → ⊥) = eqb-false place 0 both.0 in
      let l = ltb-false (length bytes) place both.1 in
      (omega arith, omega arith)

  pub place-fits : 1 ≤ place → place ≤ length bytes → bad_place bytes place ≡ false
  unfolding bad_place
  place-fits low high = rw (ne_eqb place 0 (λ e. omega arith), le-ltb (length bytes) place high)

  -- what stands at a place of a capture that is of the version
  module _ (version : other_version bytes ≡ false) (fits : bad_place bytes place ≡ false) where
    pub at-end : place ≡ length bytes → packet_at bytes place ≡ given end
    unfolding packet_at
    at-end e = rw (version, fits, eq-eqb place (length bytes) e)

    pub at-packet : (place ≡ length bytes → ⊥)
        → packet_at bytes place ≡ and_then (located place (front_of (drop place bytes))) (λ n. given (found (found_at place n)))
    unfolding packet_at
    at-packet more = rw (version, fits, ne_eqb place (length bytes) more)

    pub at-refused : (place ≡ length bytes → ⊥) → (why : ℕ × ℕ) → located place (front_of (drop place bytes)) ≡ refused why
        → packet_at bytes place ≡ refused why
    at-refused more why e = at-packet more ∙ rw e

    pub at-given : (place ≡ length bytes → ⊥) → (n : ℕ) → front_of (drop place bytes) ≡ given n → packet_at bytes place ≡ given (found (found_at place n))
    at-given more n e = at-packet more ∙ rw e

  -- a packet ends within the bytes
  pub packet-within : (n : ℕ) → place ≤ length bytes → front_of (drop place bytes) ≡ given n → place + width + n ≤ length bytes
  packet-within n l e = omega (arith, (front-within (drop place bytes) n e).0, length-drop place bytes, l)

-- ---- place after place

-- a packet before those from the next place on
abbrev pub onward : List ℕ → (ℕ → ToldAt (List (List ℕ))) → PacketItem → ToldAt (List (List ℕ))
onward bytes later (found f) = before (take f.size (drop f.start bytes)) (later f.next)
onward bytes later end = given []

-- at most so many times
unfoldable pub packets_at : ℕ → List ℕ → ℕ → ToldAt (List (List ℕ))
packets_at zero bytes place = given []
packets_at (suc turns) bytes place = and_then (packet_at bytes place) (onward bytes (packets_at turns bytes))

-- a turn of each walk, where what comes after it is the same
turn-same : (bytes : List ℕ) (place : ℕ) (t : Told ℕ) (later rest : ℕ → ToldAt (List (List ℕ)))
    → ((n : ℕ) → t ≡ given n → later (place + width + n) ≡ rest n)
    → and_then (and_then (located place t) (λ n. given (found (found_at place n)))) (onward bytes later)
    ≡ and_then (located place t) (λ n. before (take n (drop width (drop place bytes))) (rest n))
turn-same bytes place (given n) later rest same =
    ap (λ (p : List ℕ). before (take n p) (later (place + width + n))) (sym (drop-drop width place bytes))
    ∙ ap (before (take n (drop width (drop place bytes)))) (same n refl)
turn-same bytes place (refused n) later rest same = refl

module _ (bytes : List ℕ) (version : other_version bytes ≡ false) where
  -- from a place on, both give the same
  abbrev Same : ℕ → ℕ → Type 0
  Same turns place = packets_at (suc turns) bytes place ≡ packets_from turns place (drop place bytes)

  packets-end : (turns place : ℕ) → 1 ≤ place → place ≡ length bytes → Same turns place
  unfolding packets_at
  packets-end turns place low e =
      let none : drop place bytes ≡ [] = drop_of_length-le bytes {i = place} (omega arith) in
      rw (at-end bytes place version (place-fits bytes place low (omega arith)) e, none, packets-nil turns place)

  packets-more : (turns place : ℕ) → 1 ≤ place → place < length bytes
      → ((n : ℕ) → front_of (drop place bytes) ≡ given n → Same turns (place + width + n)) → Same (suc turns) place
  unfolding packets_at
  packets-more turns place low more later =
      ap (λ (t : ToldAt PacketItem). and_then t (onward bytes (packets_at (suc turns) bytes)))
      (at-packet bytes place version (place-fits bytes place low (omega arith)) (λ e. omega arith))
      ∙ turn-same bytes place (front_of (drop place bytes)) (packets_at (suc turns) bytes)
      (λ n. packets_from turns (place + width + n) (drop (width + n) (drop place bytes)))
      (λ n e. later n e ∙ ap (packets_from turns (place + width + n)) (ap (λ (k : ℕ). drop k bytes) (sum n) ∙ sym (drop-drop (width + n) place bytes)))
      ∙ sym (packets-cons turns place (drop place bytes) (omega (arith, length-drop place bytes)))
    where
      sum : (n : ℕ) → place + width + n ≡ place + (width + n)
      sum n = omega arith

  packets-from : (turns place : ℕ) → 1 ≤ place → place ≤ length bytes → length bytes ≤ place + turns → Same turns place
  packets-from zero place low high enough = packets-end zero place low (omega arith)
  packets-from (suc turns) place low high enough =
      by_end (eqb place (length bytes)) refl
      (λ n f. packets-from turns (place + width + n) (omega arith) (packet-within bytes place n high f) (omega arith))
    where
      by_end : (b : Bool) → eqb place (length bytes) ≡ b → ((n : ℕ) → front_of (drop place bytes) ≡ given n → Same turns (place + width + n))
          → Same (suc turns) place
      by_end true e later = packets-end (suc turns) place low (eqb-true place (length bytes) e)
      by_end false e later =
          let more : (place ≡ length bytes → ⊥) = eqb-false place (length bytes) e in
          packets-more turns place low (omega arith) later

pub places-give-all : (bytes : List ℕ) → packets_at (suc (length bytes)) bytes 1 ≡ packets_of bytes
unfolding packets_at packet_at
places-give-all bytes = by-version (other_version bytes) refl
  where
    by-version : (b : Bool) → other_version bytes ≡ b → packets_at (suc (length bytes)) bytes 1 ≡ packets_of bytes
    by-version true e = rw e (sym (other-refused bytes e))
    by-version false e = packets-from bytes e (length bytes) 1 (omega arith) (some_byte bytes e) (omega arith) ∙ sym (packets-begin bytes e)
