-- Laws of the two versions.
use Prim.Native.Nat.{ℕ, ◌≤◌}
use mathlib.Core.Bool.{Bool, true, false, cond}
use mathlib.Core.List.{List}
use native.Mathlib.Omega.{arith}
use Rattle.outbox.specs.declared.format.FileVersion.{FileVersion}
use Rattle.outbox.specs.Format.{Format, version_one, version_two, Known, one, two, is_one, format_of, format_for}

-- what code over any of them needs: a length has 2 to 4 bytes, and no sum runs over
pub known_small : (fmt : Format) → Known fmt → (2 ≤ fmt.width) × (fmt.width ≤ 4) × (fmt.limit ≤ 65535)
known_small fmt one = (omega arith, omega arith, omega arith)
known_small fmt two = (omega arith, omega arith, omega arith)

-- a version that the code has is one of them
pub known-for : (version : FileVersion) → Known (format_for version)
known-for FileVersion.One = one
known-for FileVersion.Two = two

pub small : (version : FileVersion) → (2 ≤ (format_for version).width) × ((format_for version).width ≤ 4) × ((format_for version).limit ≤ 65535)
small version = known_small (format_for version) (known-for version)

-- .. and so is one that a file is judged by
pub format-known : (file : List ℕ) → Known (format_of file)
unfolding format_of
format-known file = by_first (is_one file)
  where
    by_first : (b : Bool) → Known (cond b version_one version_two)
    by_first true = one
    by_first false = two
