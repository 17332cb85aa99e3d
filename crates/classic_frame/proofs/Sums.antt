-- Laws of the checksum's sum.
use Rattle.std.proofs.Common.{◌≡◌, ℕ, ◌+◌, ◌%◌, ◌<◌, ◌≤◌, List, length, get_or, drop, ap, ◌∙◌, add-zero, mod-eq_of_lt, add-one, arith, drop_of_length-le, drop-cons}
use native.Mathlib.Nat.{mod-add-mod}
use Rattle.classic_frame.specs.Frame.{sum_of}

-- one more byte into a sum that is kept modulo m
pub sum_step : (m s : ℕ) (l : List ℕ) (i : ℕ) → i < length l
    → ((s + get_or l i 0) % m + sum_of (drop (i + 1) l)) % m ≡ (s + sum_of (drop i l)) % m
unfolding sum_of
sum_step m s l i h = mod-add-mod _ _ _ ∙ rw (add-one, drop-cons l i 0) (ap (λ (n : ℕ). n % m) (omega arith))

-- the sum is whole once the list is passed
pub sum-end : (m s : ℕ) (l : List ℕ) (i : ℕ) → length l ≤ i → s < m → (s + sum_of (drop i l)) % m ≡ s
unfolding sum_of
sum-end m s l i h k = rw (drop_of_length-le l h, add-zero, mod-eq_of_lt k)
