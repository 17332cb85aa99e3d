-- A capture of one direction of a link: a version byte, then each packet behind its length of two bytes.
use Rattle.std.specs.Prelude.{ℕ, zero, suc, ◌+◌, List, [], ◌∷◌, Bool, not, ◌&&◌, ◌||◌, length, get_or, take, drop, eqb, leb, ltb, Result}
use Rattle.wire.specs.Told.{ToldOf, Told, given, refused, told_by, and_then, Line, line, table}
use Rattle.wire.specs.Bytes.{pair_of, AllBytes}
use Rattle.capture_reader.specs.declared.Refusal.{Refusal}
use Rattle.capture_reader.specs.declared.Refusal.TheVariants.{Version, Length, Cut}
use Rattle.capture_reader.specs.declared.RefusedAt.{RefusedAt}

abbrev pub version : ℕ
version = 1

-- a length has two bytes
abbrev pub width : ℕ
width = 2

-- the length at the front of some bytes; a byte that is not there counts as 0
abbrev pub length_in : List ℕ → ℕ
length_in rest = pair_of (get_or rest 0 0) (get_or rest 1 0)

-- a refusal tells its number, and a place in the capture
abbrev pub ToldAt : Type 0 → Type 0
ToldAt A = ToldOf (ℕ × ℕ) A

abbrev pub located : {A : Type 0} → ℕ → Told A → ToldAt A
located at (given a) = given a
located at (refused n) = refused (n, at)

-- the number of a refusal, or 0
abbrev pub number_in : {A : Type 0} → ToldAt A → ℕ
number_in (given a) = 0
number_in (refused why) = why.0

-- 42: a length of 0, all of whose bytes are there; 41: the bytes end inside the packet, or inside its length
abbrev pub front_lines : List ℕ → List Line
front_lines rest = line 42 (leb width (length rest) && eqb (length_in rest) 0) ∷ line 41 (ltb (length rest) (width + length_in rest)) ∷ []

-- the length of the packet at the front of some bytes
unfoldable pub front_of : List ℕ → Told ℕ
front_of rest = table (front_lines rest) refused (given (length_in rest))

-- a packet before the others, if they can be read
abbrev pub before : List ℕ → ToldAt (List (List ℕ)) → ToldAt (List (List ℕ))
before p (given ps) = given (p ∷ ps)
before p (refused n) = refused n

-- the packets of the bytes from a place on, one after another, or the first refusal, at the place of the packet's length; with as
-- many turns as there are bytes
unfoldable pub packets_from : ℕ → ℕ → List ℕ → ToldAt (List (List ℕ))
packets_from zero at rest = given []
packets_from (suc turns) at [] = given []
packets_from (suc turns) at (b ∷ bs) =
    and_then (located at (front_of (b ∷ bs))) (λ n. before (take n (drop width (b ∷ bs))) (packets_from turns (at + width + n) (drop (width + n) (b ∷ bs))))

-- 40: the capture is empty, or of another version
unfoldable pub other_version : List ℕ → Bool
other_version bytes = eqb (length bytes) 0 || not (eqb (get_or bytes 0 0) version)

-- the packets of a capture
unfoldable pub packets_of : List ℕ → ToldAt (List (List ℕ))
packets_of bytes = table (line 40 (other_version bytes) ∷ []) (λ n. refused (n, 0)) (packets_from (length bytes) 1 (drop 1 bytes))

-- whether they can be read, or the refusal
unfoldable pub checked_of : List ℕ → ToldAt (Unit {0})
checked_of bytes = and_then (packets_of bytes) (λ ps. given tt)

-- every packet is a list of bytes
abbrev pub Packets : List (List ℕ) → Type 0
Packets [] = Unit {0}
Packets (p ∷ ps) = AllBytes p × Packets ps

-- the place of a packet's length in the capture, by the packet's index
abbrev pub place_from : ℕ → ℕ → List (List ℕ) → ℕ
place_from at zero ps = at
place_from at (suc k) [] = at
place_from at (suc k) (p ∷ ps) = place_from (at + width + length p) k ps

abbrev pub place_of : ℕ → List (List ℕ) → ℕ
place_of k ps = place_from 1 k ps

abbrev pub number_of : Refusal → ℕ
number_of Version = 40
number_of Length = 42
number_of Cut = 41

-- ---- what the code tells

-- a refusal by its number, and its place
abbrev pub told_at : {A R : Type 0} → (R → ℕ) → Result A (RefusedAt R) → ToldAt A
told_at tells = told_by (λ e. (tells e.why, e.at))

abbrev pub front_told : Result ℕ Refusal → Told ℕ
front_told = told_by number_of

abbrev pub soundness_told : Result (Unit {0}) (RefusedAt Refusal) → ToldAt (Unit {0})
soundness_told = told_at number_of
