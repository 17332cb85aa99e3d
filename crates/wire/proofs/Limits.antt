-- Laws of the limit of a link.
use Prim.Native.Nat.{ℕ, ◌≤◌}
use mathlib.Core.Path.{◌≡◌}
use mathlib.Core.Bool.{true}
use lib.Dec.{leb}
use borrow.Author.Tests.{leb-true, le-leb}
use Rattle.wire.specs.Limit.{limit_fits}
use Rattle.wire.proofs.Tests.{and_left, and_right}

pub limit-range : (limit : ℕ) → limit_fits limit ≡ true → (1 ≤ limit) × (limit ≤ 65535)
unfolding limit_fits
limit-range limit e =
    (leb-true 1 limit (and_left (leb 1 limit) (leb limit 65535) e), leb-true limit 65535 (and_right (leb 1 limit) (leb limit 65535) e))

pub range-limit : (limit : ℕ) → 1 ≤ limit → limit ≤ 65535 → limit_fits limit ≡ true
unfolding limit_fits
range-limit limit some most = rw (le-leb 1 limit some, le-leb limit 65535 most)
