-- Laws of big-endian numbers, over the width of the field.
use Prim.Native.Nat.{ℕ, zero, suc, ◌+◌, ◌*◌, ◌/◌, ◌%◌, ◌^◌, ◌≤◌, ◌<◌}
use mathlib.Core.Path.{◌≡◌, refl, sym, ap}
use mathlib.Core.List.{List, [], ◌∷◌, ◌++◌}
use native.Mathlib.Nat.{mod-lt, one-le-pow, div-add-mod', div-one, div-div-eq-div-mul}
use native.Mathlib.Omega.{arith}
use lib.Arith.{mod-mul, digits_div, digits_mod}
use lib.ListN.{length, get_or}
use Rattle.wire.specs.Bytes.{pair_of, pair_bytes}
use Rattle.outbox.specs.Format.{number_of, bytes_of}

-- a field's bytes are as many as its width
pub length-bytes : (w n : ℕ) → length (bytes_of w n) ≡ w
unfolding bytes_of
length-bytes zero n = refl
length-bytes (suc w) n = ap suc (length-bytes w (n % 256 ^ w))

-- what was written in a field is read from it
pub number-bytes : (w n : ℕ) (l : List ℕ) → n < 256 ^ w → number_of w (bytes_of w n ++ l) ≡ n
unfolding bytes_of number_of
number-bytes zero n l h = omega arith
number-bytes (suc w) n l h =
    rw (number-bytes w (n % 256 ^ w) l (mod-lt n (one-le-pow w 256 (omega arith)))) (div-add-mod' n (256 ^ w))

-- bytes after the field do not change its number
pub number_append : (w : ℕ) (l m : List ℕ) → w ≤ length l → number_of w (l ++ m) ≡ number_of w l
unfolding number_of
number_append zero l m h = refl
number_append (suc w) [] m h = absurd (omega arith)
number_append (suc w) (b ∷ l) m h = rw (number_append w l m (omega arith))

-- a field of two bytes is a pair
pub number-pair : (l : List ℕ) → number_of 2 l ≡ pair_of (get_or l 0 0) (get_or l 1 0)
unfolding number_of
number-pair [] = refl
number-pair (a ∷ []) = omega arith
number-pair (a ∷ b ∷ l) = omega arith

pub bytes_pair : (n : ℕ) → bytes_of 2 n ≡ pair_bytes n
unfolding bytes_of
bytes_pair n = rw (div-one (n % 256))

-- .. and one of four is two pairs
pub number-pairs : (l : List ℕ) → number_of 4 l ≡ pair_of (get_or l 0 0) (get_or l 1 0) * 65536 + pair_of (get_or l 2 0) (get_or l 3 0)
unfolding number_of
number-pairs [] = refl
number-pairs (a ∷ []) = omega arith
number-pairs (a ∷ b ∷ []) = omega arith
number-pairs (a ∷ b ∷ c ∷ []) = omega arith
number-pairs (a ∷ b ∷ c ∷ d ∷ l) = omega arith

pub bytes-pairs : (n : ℕ) → bytes_of 4 n ≡ pair_bytes (n / 65536) ++ pair_bytes (n % 65536)
unfolding bytes_of
bytes-pairs n =
    let low : n % 65536 < 65536 = mod-lt n (omega arith) in
    let high : n / 16777216 ≡ n / 65536 / 256 = sym (div-div-eq-div-mul n 65536 256) in
    let digits : n % 16777216 ≡ (n / 65536 % 256) * 65536 + n % 65536 = mod-mul n {m = 256} {c = 65536} (omega arith) (omega arith) in
    let second : n % 16777216 / 65536 ≡ n / 65536 % 256 = rw digits (digits_div (n / 65536 % 256) low) in
    let rest : n % 16777216 % 65536 ≡ n % 65536 = rw digits (digits_mod (n / 65536 % 256) low) in
    rw (high, second, rest, div-one (n % 65536 % 256))
