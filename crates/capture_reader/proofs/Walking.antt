-- Laws of a walk over a capture: the packet at the front, and the packets after it.
use Prim.Native.Nat.{ℕ, zero, suc, ◌+◌, ◌-◌, ◌≤◌, ◌<◌}
use native.Mathlib.Omega.{arith}
use mathlib.Core.Path.{◌≡◌, refl, sym, ap, ◌∙◌}
use mathlib.Core.List.{List, [], ◌∷◌}
use mathlib.Core.Bool.{true, false, not, ◌&&◌}
use mathlib.Mathlib.Data.Bool.Basic.{or-eq-false-eq-eq-false-and-eq-false}
use lib.ListN.{length, get_or, take, drop, length-drop, drop_of_length-le}
use lib.Seq.{drop-drop}
use lib.Dec.{eqb, leb}
use borrow.Author.Tests.{le-leb, lt-leb, lt-ltb, le-ltb, eq-eqb, ne_eqb, eqb-false, ltb-false}
use Rattle.wire.specs.Told.{Told, given, refused, and_then, line}
use Rattle.wire.specs.Bytes.{AllBytes}
use Rattle.wire.proofs.ByteLists.{bytes_take, bytes_drop}
use Rattle.wire.proofs.Tables.{by-table}
use Rattle.capture_reader.specs.Capture.{version, width, ToldAt, located, length_in, front_lines, front_of, before, packets_from, other_version, packets_of, checked_of, Packets}

-- ---- the packet at the front

module _ (rest : List ℕ) where
  pub field_cut : length rest < width → front_of rest ≡ refused 41
  unfolding front_of
  field_cut h = rw (lt-leb width (length rest) h, lt-ltb (length rest) (width + length_in rest) (omega arith))

  module _ (n : ℕ) (n-is : n ≡ length_in rest) (whole : width ≤ length rest) where
    pub zero-length : n ≡ 0 → front_of rest ≡ refused 42
    unfolding front_of
    zero-length z = rw (← n-is, le-leb width (length rest) whole, eq-eqb n 0 z)

    pub packet-cut : (n ≡ 0 → ⊥) → length rest - width < n → front_of rest ≡ refused 41
    unfolding front_of
    packet-cut z h = rw (← n-is, le-leb width (length rest) whole, ne_eqb n 0 z, lt-ltb (length rest) (width + n) (omega arith))

    pub packet-whole : (n ≡ 0 → ⊥) → n ≤ length rest - width → front_of rest ≡ given n
    unfolding front_of
    packet-whole z h = rw (← n-is, le-leb width (length rest) whole, ne_eqb n 0 z, le-ltb (length rest) (width + n) (omega arith))

  abbrev Lies : Told ℕ → Type 0
  Lies (given n) = (width + n ≤ length rest) × (n ≡ length_in rest) × (1 ≤ n)
  Lies (refused k) = Unit {0}

  some-length : width + length_in rest ≤ length rest → (leb width (length rest) && eqb (length_in rest) 0) ≡ false → 1 ≤ length_in rest
  some-length whole e =
      let z : eqb (length_in rest) 0 ≡ false = rw (le-leb width (length rest) (omega arith)) at e in
      let d : (length_in rest ≡ 0 → ⊥) = eqb-false (length_in rest) 0 z in
      omega arith

  lies : Lies (front_of rest)
  unfolding front_of
  lies =
      by-table Lies (front_lines rest) refused (given (length_in rest)) (λ k. tt) (λ h.
      let whole = ltb-false (length rest) (width + length_in rest) h.1.0 in
      (whole, refl, some-length whole h.0))

  -- it lies within the bytes, and its length is the one at the front, and not 0
  pub front-within : (n : ℕ) → front_of rest ≡ given n → (width + n ≤ length rest) × (n ≡ length_in rest) × (1 ≤ n)
  front-within n e = rw e at lies

-- ---- the packets after it

pub packets-cons : (turns at : ℕ) (rest : List ℕ) → 1 ≤ length rest
    → packets_from (suc turns) at rest
    ≡ and_then (located at (front_of rest)) (λ n. before (take n (drop width rest)) (packets_from turns (at + width + n) (drop (width + n) rest)))
unfolding packets_from
packets-cons turns at [] h = absurd (omega arith)
packets-cons turns at (b ∷ bs) h = refl

pub packets-nil : (turns at : ℕ) → packets_from turns at [] ≡ given []
unfolding packets_from
packets-nil zero at = refl
packets-nil (suc turns) at = refl

pub before-then : {A : Type 0} (p : List ℕ) (t : ToldAt (List (List ℕ))) (f g : List (List ℕ) → ToldAt A) → ((ps : List (List ℕ)) → f (p ∷ ps) ≡ g ps)
    → and_then (before p t) f ≡ and_then t g
before-then p (given ps) f g h = h ps
before-then p (refused n) f g h = refl

module _ (bytes : List ℕ) where
  pub other-refused : other_version bytes ≡ true → packets_of bytes ≡ refused (40, 0)
  unfolding packets_of
  other-refused e = rw e

  pub packets-begin : other_version bytes ≡ false → packets_of bytes ≡ packets_from (length bytes) 1 (drop 1 bytes)
  unfolding packets_of
  packets-begin e = rw e

  pub some_byte : other_version bytes ≡ false → 1 ≤ length bytes
  unfolding other_version
  some_byte e =
      let both = (or-eq-false-eq-eq-false-and-eq-false (eqb (length bytes) 0) (not (eqb (get_or bytes 0 0) version))).0 e in
      let d : (length bytes ≡ 0 → ⊥) = eqb-false (length bytes) 0 both.0 in
      omega arith

-- ---- a walk: from a place on, what is left, gone on with, gives what the whole capture does

pub record PacketWalk {A : Type 0} (bytes : List ℕ) (all : ToldAt A) (at : ℕ) (f : List (List ℕ) → ToldAt A) : Type 0 where
  pub inside : at ≤ length bytes
  pub turns : ℕ
  pub enough : length bytes ≤ at + turns
  pub gives : and_then (packets_from turns at (drop at bytes)) f ≡ all

module _ {A : Type 0} (bytes : List ℕ) where
  pub walk_begins : (f : List (List ℕ) → ToldAt A) → other_version bytes ≡ false → PacketWalk bytes (and_then (packets_of bytes) f) 1 f
  walk_begins f e =
      record { inside = some_byte bytes e; turns = length bytes; enough = omega arith; gives = rw (packets-begin bytes e) }

  module _ {all : ToldAt A} {at : ℕ} {f : List (List ℕ) → ToldAt A} (w : PacketWalk bytes all at f) where
    pub walk_ends : length bytes ≤ at → all ≡ f []
    walk_ends h = sym w.gives ∙ rw (drop_of_length-le bytes h, packets-nil w.turns at)

    module _ (h : at < length bytes) where
      turn : all
          ≡ and_then (and_then (located at (front_of (drop at bytes)))
          (λ n. before (take n (drop width (drop at bytes))) (packets_from (w.turns - 1) (at + width + n) (drop (width + n) (drop at bytes))))) f
      turn =
          let count : w.turns ≡ suc (w.turns - 1) = omega (arith, w.enough) in
          let some_left : 1 ≤ length (drop at bytes) = omega (arith, length-drop at bytes) in
          sym w.gives
          ∙ ap (λ (n : ℕ). and_then (packets_from n at (drop at bytes)) f) count
          ∙ rw (packets-cons (w.turns - 1) at (drop at bytes) some_left)

      pub walk-stops : (why : ℕ × ℕ) → located at (front_of (drop at bytes)) ≡ refused why → all ≡ refused why
      walk-stops why e = turn ∙ rw e

      pub walk-goes : (n : ℕ) (p : List ℕ) (g : List (List ℕ) → ToldAt A) → front_of (drop at bytes) ≡ given n → p ≡ take n (drop (at + width) bytes)
          → ((ps : List (List ℕ)) → f (p ∷ ps) ≡ g ps) → PacketWalk bytes all (at + width + n) g
      walk-goes n p g e pe same =
          let k : width + n ≤ length (drop at bytes) = (front-within (drop at bytes) n e).0 in
          let l : length (drop at bytes) ≡ length bytes - at = length-drop at bytes in
          let q : take n (drop width (drop at bytes)) ≡ p = ap (take n) (drop-drop width at bytes) ∙ sym pe in
          let z : at + (width + n) ≡ at + width + n = omega arith in
          record {
            inside = omega arith;
            turns = w.turns - 1;
            enough = omega (arith, w.enough);
            gives =
                sym
                (turn
                ∙ rw (e, q, drop-drop (width + n) at bytes, z)
                (before-then p (packets_from (w.turns - 1) (at + width + n) (drop (at + width + n) bytes)) f g same));
          }

      front_by : (t : Told ℕ) → front_of (drop at bytes) ≡ t → (x : A) → all ≡ given x → front_of (drop at bytes) ≡ given (length_in (drop at bytes))
      front_by (given n) e x a = e ∙ ap given (front-within (drop at bytes) n e).1
      front_by (refused n) e x a = cc (walk-stops (n, at) (ap (located at) e))

      -- where all can be read, so can the packet at the front
      pub walk-front : (x : A) → all ≡ given x → front_of (drop at bytes) ≡ given (length_in (drop at bytes))
      walk-front x a = front_by (front_of (drop at bytes)) refl x a

-- the walk that only checks
module _ (bytes : List ℕ) where
  pub check-refused : other_version bytes ≡ true → checked_of bytes ≡ refused (40, 0)
  unfolding checked_of
  check-refused e = rw (other-refused bytes e)

  pub check-begins : other_version bytes ≡ false → PacketWalk bytes (checked_of bytes) 1 (λ ps. given tt)
  unfolding checked_of
  check-begins e = walk_begins bytes (λ ps. given tt) e

-- ---- the packets of a capture are bytes

abbrev pub IfPackets : ToldAt (List (List ℕ)) → Type 0
IfPackets (given ps) = Packets ps
IfPackets (refused n) = Unit {0}

before-packets : (p : List ℕ) (t : ToldAt (List (List ℕ))) → AllBytes p → IfPackets t → IfPackets (before p t)
before-packets p (given ps) b h = (b, h)
before-packets p (refused n) b h = tt

turn-packets : (t : ToldAt ℕ) (f : ℕ → ToldAt (List (List ℕ))) → ((n : ℕ) → IfPackets (f n)) → IfPackets (and_then t f)
turn-packets (given n) f h = h n
turn-packets (refused k) f h = tt

from-packets : (turns at : ℕ) (rest : List ℕ) → AllBytes rest → IfPackets (packets_from turns at rest)
unfolding packets_from
from-packets zero at rest b = tt
from-packets (suc turns) at [] b = tt
from-packets (suc turns) at (x ∷ xs) b =
    turn-packets (located at (front_of (x ∷ xs))) _ (λ n.
    before-packets (take n (drop width (x ∷ xs))) (packets_from turns (at + width + n) (drop (width + n) (x ∷ xs))) (bytes_take n _ (bytes_drop width (x ∷ xs) b))
    (from-packets turns (at + width + n) (drop (width + n) (x ∷ xs)) (bytes_drop (width + n) (x ∷ xs) b)))

pub of-packets : (bytes : List ℕ) → AllBytes bytes → IfPackets (packets_of bytes)
unfolding packets_of
of-packets bytes b =
    by-table IfPackets (line 40 (other_version bytes) ∷ []) (λ n. refused (n, 0)) (packets_from (length bytes) 1 (drop 1 bytes)) (λ n. tt)
    (λ h. from-packets (length bytes) 1 (drop 1 bytes) (bytes_drop 1 bytes b))
