-- The outbox: what its calls answer as rows.
use Rattle.std.specs.Prelude.{ℕ, cond, List, [], ◌∷◌, replicate, eqb}
use Rattle.outbox.specs.Reader.{Answer, given, refused, refused_at, Item, found, end}

-- the place that goes with 41; 0 with any other number
unfoldable pub cut_place : ℕ → ℕ → ℕ
cut_place n place = cond (eqb n 41) place 0

-- the used bytes
abbrev pub used_in : Answer ℕ → ℕ
used_in (given n) = n
used_in (refused n) = 0
used_in (refused_at n place) = 0

abbrev pub cut_in : {A : Type 0} → Answer A → ℕ
cut_in (given a) = 0
cut_in (refused n) = 0
cut_in (refused_at n place) = cut_place n place

-- used, cut place
abbrev pub used_row : Answer ℕ → List ℕ
used_row a = used_in a ∷ cut_in a ∷ []

-- outcome (0 the end, 1 a record), stream, start, length, next, cut place
abbrev pub record_row : Answer Item → List ℕ
record_row (given (found f)) = 1 ∷ f.stream ∷ f.start ∷ f.size ∷ f.next ∷ 0 ∷ []
record_row (given end) = replicate 6 0
record_row (refused n) = replicate 6 0
record_row (refused_at n place) = 0 ∷ 0 ∷ 0 ∷ 0 ∷ 0 ∷ cut_place n place ∷ []

-- cut place
abbrev pub whole_row : Answer (Unit {0}) → List ℕ
whole_row a = cut_in a ∷ []
