-- Laws of the call: what it is where the file is whole.
use Prim.Native.Nat.{ℕ, zero, suc, ◌+◌, ◌≤◌}
use mathlib.Core.Path.{◌≡◌, refl, sym, ap, ◌∙◌}
use mathlib.Core.Bool.{Bool, true, false, not}
use mathlib.Core.List.{List, [], ◌∷◌, ◌++◌}
use mathlib.Mathlib.Data.Bool.Basic.{or-eq-false-eq-eq-false-and-eq-false}
use native.Mathlib.Omega.{arith}
use lib.Dec.{eqb, ltb}
use lib.ListN.{length, get_or, drop}
use lib.Seq.{sets}
use borrow.Author.Tests.{le-ltb, ltb-false, eqb-true, eq-eqb, ne_eqb, not-false}
use Rattle.wire.specs.Told.{line, table}
use Rattle.outbox.specs.Format.{Format, Known, one, two, format_of, new_bytes, first_place}
use Rattle.outbox.specs.Reader.{Answer, given, refused, refused_at, Item, found, end, HandedRecord, onward, other_version, read_of, readings, read_all, walk_of}
use Rattle.outbox.specs.Writer.{Stored, stored, stored_at, if_whole}
use Rattle.outbox.proofs.Record.{clash, found-stands}
use Rattle.outbox.proofs.Place.{read-record}
use Rattle.outbox.proofs.Walk.{whole-version}
use Rattle.outbox_move.specs.Moves.{records_in, over_by, over_from, moved_to, placed, size_unless, count_of, move_of}

-- ---- a file's own records are within its own limit

module _ (fmt : Format) (file : List ℕ) where
  within-own : (turns place : ℕ) → over_from fmt.limit place (readings turns fmt file place) ≡ given tt
  unfolding readings
  within-own zero place = refl
  within-own (suc turns) place = by_answer (λ next. within-own turns next) (read_of fmt file place) refl
    where
      by_answer : ((next : ℕ) → over_from fmt.limit next (readings turns fmt file next) ≡ given tt) → (a : Answer Item) → read_of fmt file place ≡ a
          → over_by fmt.limit place a (λ next. over_from fmt.limit next (onward a (λ n. readings turns fmt file n))) ≡ given tt
      by_answer later (given (found f)) e =
          let s = found-stands fmt place (drop place file) f (read-record fmt file place f e) in
          rw (le-ltb fmt.limit f.size (rw s.1 (omega (arith, s.0.short)))) (later f.next)
      by_answer later (given end) e = refl
      by_answer later (refused n) e = refl
      by_answer later (refused_at n p) e = refl

  pub all-within : over_from fmt.limit first_place (read_all fmt file) ≡ given tt
  unfolding read_all
  all-within = within-own (suc (length file)) first_place

  -- its first byte is its version
  pub first-is : walk_of fmt file ≡ given tt → get_or file 0 0 ≡ fmt.version
  unfolding other_version
  first-is w =
      let both = (or-eq-false-eq-eq-false-and-eq-false (eqb (length file) 0) (not (eqb (get_or file 0 0) fmt.version))).0 (whole-version fmt file w) in
      eqb-true (get_or file 0 0) fmt.version (not-false _ both.1)

pub known_same : (a b : Format) → Known a → Known b → a.version ≡ b.version → a ≡ b
known_same a b one one e = refl
known_same a b two two e = refl
known_same a b one two e = absurd (omega (arith, e))
known_same a b two one e = absurd (omega (arith, e))

module _ (wished : Format) (file out : List ℕ) (w : walk_of (format_of file) file ≡ given tt) where
  pub copies : format_of file ≡ wished → move_of wished file out ≡ placed out file
  unfolding move_of moved_to
  copies e =
      let fmt = format_of file in
      let within : over_from wished.limit first_place (read_all fmt file) ≡ given tt
      = ap (λ (x : Format). over_from x.limit first_place (read_all fmt file)) (sym e) ∙ all-within fmt file in
      rw (w, within, eq-eqb wished.version fmt.version (ap (λ (x : Format). x.version) (sym e)))

  pub rewrites : (own : Format) → own ≡ format_of file → (wished.version ≡ own.version → ⊥)
      → move_of wished file out
      ≡ if_whole (over_from wished.limit first_place (read_all own file)) out (placed out (new_bytes wished ++ records_in wished (read_all own file)))
  unfolding move_of moved_to
  rewrites own e n = rw (e, w, ne_eqb wished.version (format_of file).version (rw e at n))

-- ---- the count decides

abbrev pub decided : List ℕ → List ℕ → Answer ℕ → Stored
decided out bytes (given n) = table (line 14 (ltb (length out) n) ∷ []) (λ m. stored (refused m) out) (stored (given n) (sets out 0 bytes))
decided out bytes (refused n) = stored (refused n) out
decided out bytes (refused_at n place) = stored (refused_at n place) out

count-decides : (o : Answer (Unit {0})) (out bytes : List ℕ) (a : Answer ℕ) → size_unless o (length bytes) ≡ a → if_whole o out (placed out bytes) ≡ decided out bytes a
count-decides (given none) out bytes a e =
    let plus : 0 + length bytes ≡ length bytes = omega arith in
    ap (λ n. table (line 14 (ltb (length out) (length bytes)) ∷ []) (λ m. stored (refused m) out) (stored (given n) (sets out 0 bytes))) plus
    ∙ ap (decided out bytes) e
count-decides (refused n) out bytes a e = ap (decided out bytes) e
count-decides (refused_at n place) out bytes a e = ap (decided out bytes) e

-- a size is told where no record is too long
size-told : (o : Answer (Unit {0})) (k n : ℕ) → size_unless o k ≡ given n → (o ≡ given tt) × (k ≡ n)
size-told (given none) k n e = (refl, cc)
size-told (refused m) k n e = absurd (clash (cc))
size-told (refused_at m place) k n e = absurd (clash (cc))

module _ (fmt : Format) (hs : List HandedRecord) where
  pub counted : (out : List ℕ) (a : Answer ℕ) → count_of fmt first_place first_place hs ≡ a
      → if_whole (over_from fmt.limit first_place hs) out (placed out (new_bytes fmt ++ records_in fmt hs)) ≡ decided out (new_bytes fmt ++ records_in fmt hs) a
  unfolding count_of
  counted out a e =
      let o = over_from fmt.limit first_place hs in
      let bytes = new_bytes fmt ++ records_in fmt hs in
      let plus : length bytes ≡ first_place + length (records_in fmt hs) = omega arith in
      count-decides o out bytes a (ap (size_unless o) plus ∙ e)

  pub counted-size : (n : ℕ) → count_of fmt first_place first_place hs ≡ given n → (over_from fmt.limit first_place hs ≡ given tt) × (first_place + length (records_in fmt hs) ≡ n)
  unfolding count_of
  counted-size n e = size-told (over_from fmt.limit first_place hs) (first_place + length (records_in fmt hs)) n e

-- ---- what is told to be written lies within the output

if-fits : (limit : ℕ) (a : Answer (Unit {0})) (out : List ℕ) (s : Stored) → ((n : ℕ) → s.told ≡ given n → n ≤ limit) → (n : ℕ) → (if_whole a out s).told ≡ given n → n ≤ limit
if-fits limit (given none) out s k n e = k n e
if-fits limit (refused m) out s k n e = absurd (clash (cc))
if-fits limit (refused_at m place) out s k n e = absurd (clash (cc))

placed-fits : (out bytes : List ℕ) (t : Bool) → ltb (length out) (length bytes) ≡ t → (n : ℕ)
    → (table (line 14 t ∷ []) (λ m. stored (refused m) out) (stored_at out 0 bytes)).told ≡ given n → n ≤ length out
placed-fits out bytes true t n e = absurd (clash (cc))
placed-fits out bytes false t n e = let m : 0 + length bytes ≡ n = cc in omega (arith, m, ltb-false (length out) (length bytes) t)

pub written-fits : (wished : Format) (file out : List ℕ) (n : ℕ) → (move_of wished file out).told ≡ given n → n ≤ length out
unfolding move_of
written-fits wished file out n e =
    let fmt = format_of file in
    let bytes = moved_to wished fmt file in
    if-fits (length out) (walk_of fmt file) out _
    (if-fits (length out) (over_from wished.limit first_place (read_all fmt file)) out _ (placed-fits out bytes (ltb (length out) (length bytes)) refl)) n e

-- ---- a file that is not whole

pub broken : (wished : Format) (file out : List ℕ) (n place : ℕ) → walk_of (format_of file) file ≡ refused_at n place → move_of wished file out ≡ stored (refused_at n place) out
unfolding move_of
broken wished file out n place e = rw e
