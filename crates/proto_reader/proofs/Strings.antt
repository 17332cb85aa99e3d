-- Laws of strings that are well formed: with one of them replaced, each by itself, and in a longer message.
use Prim.Native.Nat.{ℕ, zero, suc, ◌+◌, ◌-◌, ◌≤◌}
use mathlib.Core.Path.{◌≡◌, sym, ap, subst, ◌∙◌}
use mathlib.Core.List.{List, [], ◌∷◌, ◌++◌}
use native.Mathlib.Omega.{arith}
use lib.ListN.{length, take, drop, set, get_or, length-append, length-drop, take-append-drop}
use lib.Seq.{drop-append-le, take-append-le}
use borrow.Author.Tests.{eq-eqb, ne_eqb}
use Rattle.wire.specs.Told.{given, refused}
use Rattle.wire.proofs.Parts.{length_part}
use Rattle.proto_field.specs.declared.value.Part.{Part}
use Rattle.proto_field.specs.Value.{Within, bytes_of}
use Rattle.proto_field.proofs.Places.{within-longer}
use Rattle.utf8.specs.WellFormed.{WellFormed, empty, bad_place}
use Rattle.proto_reader.specs.declared.gathered.Gathered.{Gathered}
use Rattle.proto_reader.specs.Gathered.{no_part, with_text, AllText}
use Rattle.proto_reader.specs.Refusal.{Strings}
use Rattle.proto_reader.specs.Walk.{with_string}

-- the bytes of a part, as the code takes them
pub part-taken : (s : List ℕ) (p : Part) → take (p.start + p.len - p.start) (drop p.start s) ≡ bytes_of s p
part-taken s p =
    let e : p.start + p.len - p.start ≡ p.len = omega arith in
    ap (λ n. take n (drop p.start s)) e

pub text-set : (s : List ℕ) (ps : List Part) (i : ℕ) (p : Part) → WellFormed (bytes_of s p) → AllText s ps → AllText s (set ps i p)
text-set s [] i p h w = tt
text-set s (q ∷ ps) zero p h w = (h, w.1)
text-set s (q ∷ ps) (suc i) p h w = (w.0, text-set s ps i p h w.1)

pub text-get : (s : List ℕ) (ps : List Part) (i : ℕ) → AllText s ps → WellFormed (bytes_of s (get_or ps i no_part))
text-get s [] i w = empty
text-get s (p ∷ ps) zero w = w.0
text-get s (p ∷ ps) (suc i) w = text-get s ps i w.1

-- ---- a string by the place of its first bad sequence
module _ (s : List ℕ) (field slot : ℕ) (p : Part) (g : Gathered) (place : ℕ) (h : p.start + p.len ≤ length s) (e : place ≡ bad_place (bytes_of s p)) where
  size : length (bytes_of s p) ≡ p.len
  size = length_part s p.start p.len h

  pub string-taken : place ≡ p.len → with_string s field slot p g ≡ given (with_text slot p g)
  unfolding with_string
  string-taken q = rw (eq-eqb (bad_place (bytes_of s p)) (length (bytes_of s p)) (sym e ∙ q ∙ sym size))

  pub string-refused : (place ≡ p.len → ⊥) → with_string s field slot p g ≡ refused (36, field ∷ place ∷ [])
  unfolding with_string
  string-refused n = rw (ne_eqb (bad_place (bytes_of s p)) (length (bytes_of s p)) (λ z. n (e ∙ z ∙ size)), e)

-- ---- what is told of the first bytes is told of all
same_bytes : (t u : List ℕ) (p : Part) → p.start + p.len ≤ length t → bytes_of (t ++ u) p ≡ bytes_of t p
same_bytes t u p h =
    let a : p.start ≤ length t = omega arith in
    let b : p.len ≤ length (drop p.start t) = omega (arith, length-drop p.start t) in
    ap (take p.len) (drop-append-le p.start t u a) ∙ take-append-le p.len (drop p.start t) u b

text-longer : (t u : List ℕ) (ps : List Part) → Within t ps → AllText t ps → AllText (t ++ u) ps
text-longer t u [] h w = tt
text-longer t u (p ∷ ps) h w = (subst WellFormed (sym (same_bytes t u p h.0)) w.0, text-longer t u ps h.1 w.1)

strings-longer : (t u : List ℕ) (ps : List Part) → Strings t ps → Strings (t ++ u) ps
strings-longer t u ps h = (within-longer t (t ++ u) ps (omega (arith, length-append t u)) h.0, text-longer t u ps h.0 h.1)

pub strings-first : (n : ℕ) (s : List ℕ) (ps : List Part) → Strings (take n s) ps → Strings s ps
strings-first n s ps h = rw (take-append-drop n s) at (strings-longer (take n s) (drop n s) ps h)
