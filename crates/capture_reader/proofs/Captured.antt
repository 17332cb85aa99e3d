-- A capture holds every list of packets of 1 to 65,535 bytes, and nothing else.
use Prim.Native.Nat.{ℕ, zero, suc, ◌+◌, ◌/◌, ◌%◌, ◌≤◌, ◌<◌}
use native.Mathlib.Omega.{arith}
use mathlib.Core.Path.{◌≡◌, refl, sym, ap, ◌∙◌}
use mathlib.Core.List.{List, [], ◌∷◌, ◌++◌}
use mathlib.Core.Bool.{Bool, true, false, not}
use mathlib.Mathlib.Data.Bool.Basic.{or-eq-false-eq-eq-false-and-eq-false}
use lib.ListN.{length, take, drop, length-append, length-drop, take-append-drop}
use lib.Seq.{take-append_seam, drop-append_seam, drop-append-add, length-take-le}
use lib.Dec.{eqb}
use borrow.Author.Tests.{ne_eqb, eqb-true, not-false}
use Rattle.wire.specs.Bytes.{pair_of, pair_bytes, AllBytes}
use Rattle.wire.specs.Told.{ToldOf, Told, given, refused, and_then}
use Rattle.wire.proofs.ByteLists.{bytes_drop}
use Rattle.capture_reader.specs.Capture.{version, width, ToldAt, located, front_of, before, packets_from, other_version, packets_of}
use Rattle.capture_reader.specs.Captured.{framed, captured, Sizes, CapturesHold, CapturesOnly}
use Rattle.capture_reader.proofs.Walking.{packet-whole, front-within, packets-cons, packets-nil, packets-begin, other-refused, some_byte}

-- ---- the packets of a capture that was put together

pair-back : (n : ℕ) → n ≡ pair_of (n / 256) (n % 256)
pair-back n = omega arith

module _ (p later : List ℕ) where
  abbrev joint : List ℕ
  joint = pair_bytes (length p) ++ p ++ later

  front-is : 1 ≤ length p → front_of joint ≡ given (length p)
  front-is s =
      packet-whole joint (length p) (pair-back (length p)) (omega arith) (λ z. omega arith) (omega (arith, length-append p later))

  rest-is : drop (width + length p) joint ≡ later
  rest-is = drop-append-add (pair_bytes (length p)) (p ++ later) (length p) ∙ drop-append_seam p later

held-from : (turns at : ℕ) (ps : List (List ℕ)) → Sizes ps → length (framed ps) ≤ turns → packets_from turns at (framed ps) ≡ given ps
held-from turns at [] s l = packets-nil turns at
held-from zero at (p ∷ ps) s l = absurd (omega arith)
held-from (suc turns) at (p ∷ ps) s l =
    let long = length-append p (framed ps) in
    packets-cons turns at (joint p (framed ps)) (omega arith)
    ∙ rw (front-is p (framed ps) s.0, rest-is p (framed ps), held-from turns (at + width + length p) ps s.2 (omega arith), take-append_seam p (framed ps))

version-stands : (rest : List ℕ) → other_version (1 ∷ rest) ≡ false
unfolding other_version
version-stands rest = rw (ne_eqb (length (1 ∷ rest)) 0 (λ e. omega arith))

pub captures-hold : CapturesHold
captures-hold ps s = packets-begin (captured ps) (version-stands (framed ps)) ∙ held-from (length (captured ps)) 1 ps s (omega arith)

-- ---- the bytes from which packets can be read

abbrev Held : List ℕ → List (List ℕ) → Type 0
Held rest ps = (rest ≡ framed ps) × Sizes ps

no-refusal : {A B : Type 0} {N : Type 0} (n : N) (a : A) → ◌≡◌ {A = ToldOf N A} (refused n) (given a) → B
no-refusal n a e = let z : ◌≡◌ {A = ℕ} 0 1 = cc in absurd (omega arith)

none-held : (ps : List (List ℕ)) → ◌≡◌ {A = ToldAt (List (List ℕ))} (given []) (given ps) → Held [] ps
none-held [] e = (refl, tt)
none-held (p ∷ ps) e = let z : ◌≡◌ {A = ℕ} 0 1 = cc in absurd (omega arith)

high_is : (n b c : ℕ) → c < 256 → n ≡ pair_of b c → n / 256 ≡ b
high_is n b c h e = omega arith

low-is : (n b c : ℕ) → c < 256 → n ≡ pair_of b c → n % 256 ≡ c
low-is n b c h e = omega arith

-- the packet at the front, and those after it
both-held : (b c : ℕ) (cs : List ℕ) (n : ℕ) (qs : List (List ℕ)) → AllBytes (b ∷ c ∷ cs) → front_of (b ∷ c ∷ cs) ≡ given n → Held (drop n cs) qs
    → Held (b ∷ c ∷ cs) (take n cs ∷ qs)
both-held b c cs n qs h e later =
    let w = front-within (b ∷ c ∷ cs) n e in
    let low : b < 256 = h.0 in
    let k : length (take n cs) ≡ n = length-take-le n cs (omega arith) in
    let back : take n cs ++ framed qs ≡ cs = ap (λ (r : List ℕ). take n cs ++ r) (sym later.0) ∙ take-append-drop n cs in
    (rw (k, high_is n b c h.1.0 w.1, low-is n b c h.1.0 w.1, back), (rw k (omega arith), rw k (omega arith), later.1))

joined : (bs : List ℕ) (b n : ℕ) (qs : List (List ℕ)) → AllBytes (b ∷ bs) → front_of (b ∷ bs) ≡ given n → Held (drop (width + n) (b ∷ bs)) qs
    → Held (b ∷ bs) (take n (drop width (b ∷ bs)) ∷ qs)
joined [] b n qs h e later = let w = front-within (b ∷ []) n e in absurd (omega arith)
joined (c ∷ cs) b n qs h e later =
    both-held b c cs n qs h e (rw (sym (drop-append-add (b ∷ c ∷ []) cs n)) later)

module _ (b : ℕ) (bs : List ℕ) (h : AllBytes (b ∷ bs)) where
  by-later : (n : ℕ) (t : ToldAt (List (List ℕ))) (ps : List (List ℕ)) → front_of (b ∷ bs) ≡ given n
      → ((qs : List (List ℕ)) → t ≡ given qs → Held (drop (width + n) (b ∷ bs)) qs)
      → before (take n (drop width (b ∷ bs))) t ≡ given ps → Held (b ∷ bs) ps
  by-later n (refused k) ps e later q = no-refusal k ps q
  by-later n (given qs) ps e later q =
      let z : ps ≡ take n (drop width (b ∷ bs)) ∷ qs = cc in
      rw z (joined bs b n qs h e (later qs refl))

  by_front : (at : ℕ) (t : Told ℕ) (f : ℕ → ToldAt (List (List ℕ))) (ps : List (List ℕ)) → front_of (b ∷ bs) ≡ t
      → ((n : ℕ) (qs : List (List ℕ)) → f n ≡ given qs → Held (drop (width + n) (b ∷ bs)) qs)
      → and_then (located at t) (λ n. before (take n (drop width (b ∷ bs))) (f n)) ≡ given ps → Held (b ∷ bs) ps
  by_front at (refused k) f ps e later q = no-refusal (k, at) ps q
  by_front at (given n) f ps e later q = by-later n (f n) ps e (later n) q

only-from : (turns at : ℕ) (rest : List ℕ) (ps : List (List ℕ)) → AllBytes rest → length rest ≤ turns → packets_from turns at rest ≡ given ps → Held rest ps
only-from zero at [] ps h l e = none-held ps (sym (packets-nil 0 at) ∙ e)
only-from zero at (b ∷ bs) ps h l e = absurd (omega arith)
only-from (suc turns) at [] ps h l e = none-held ps (sym (packets-nil (suc turns) at) ∙ e)
only-from (suc turns) at (b ∷ bs) ps h l e =
    by_front b bs h at (front_of (b ∷ bs)) (λ n. packets_from turns (at + width + n) (drop (width + n) (b ∷ bs))) ps refl
    (λ n qs q. only-from turns (at + width + n) (drop (width + n) (b ∷ bs)) qs (bytes_drop (width + n) (b ∷ bs) h) (omega (arith, length-drop (width + n) (b ∷ bs))) q)
    (sym (packets-cons turns at (b ∷ bs) (omega arith)) ∙ e)

version-is : (x : ℕ) (xs : List ℕ) → other_version (x ∷ xs) ≡ false → x ≡ version
unfolding other_version
version-is x xs e =
    eqb-true x version
    (not-false (eqb x version) ((or-eq-false-eq-eq-false-and-eq-false (eqb (length (x ∷ xs)) 0) (not (eqb x version))).0 e).1)

only-by : (bytes : List ℕ) (ps : List (List ℕ)) (b : Bool) → other_version bytes ≡ b → AllBytes bytes → packets_of bytes ≡ given ps → (bytes ≡ captured ps) × Sizes ps
only-by bytes ps true v h e = no-refusal (40, 0) ps (sym (other-refused bytes v) ∙ e)
only-by [] ps false v h e = let s = some_byte [] v in absurd (omega arith)
only-by (x ∷ xs) ps false v h e =
    let held : Held xs ps = only-from (length (x ∷ xs)) 1 xs ps h.1 (omega arith) (sym (packets-begin (x ∷ xs) v) ∙ e) in
    (rw (version-is x xs v, ← held.0), held.1)

pub captures-only : CapturesOnly
captures-only bytes ps h e = only-by bytes ps (other_version bytes) refl h e
