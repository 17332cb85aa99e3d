-- The premises of the claims from the other side: each follows from the facts of docs/FORMATS.md, written out, so none of them asks for more.
use Rattle.std.specs.Prelude.{ℕ, ◌+◌, ◌≤◌, ◌<◌, ◌≡◌, List, [], ◌∷◌, length}
use Rattle.classic_writer.specs.Sending.{NoMark, SendableWhen}
use Rattle.classic_parts.specs.declared.state.PartProgress.{PartProgress}
use Rattle.classic_parts_claims.specs.Run.{PartCall, part, beyond, fruitful}
use Rattle.classic_parts_claims.specs.Stopping.{Offering}

-- a lawful state, at most as many bytes as are missing, an output of one byte or more
abbrev pub OfferingWhen : Type 0
OfferingWhen =
    (limit : ℕ) (s : PartProgress) (offered out : List ℕ)
    → 1 ≤ limit
    → limit ≤ 65535
    → s.sequence < 256
    → NoMark s.sequence
    → s.total ≤ limit
    → s.taken + length offered ≤ s.total
    → 1 ≤ length out
    → Offering limit s offered out

-- calls that each offer and lend a byte
abbrev pub AllSome : List PartCall → Type 0
AllSome [] = Unit {0}
AllSome (part n out ∷ cs) = (1 ≤ n) × (1 ≤ length out) × AllSome cs
AllSome (beyond b bs out ∷ cs) = ⊥

-- .. are fruitful, all of them
abbrev pub FruitfulWhen : Type 0
FruitfulWhen = (calls : List PartCall) → AllSome calls → fruitful calls ≡ length calls

-- ---- the claim

pub record PartFactsSuffice : Type 0 where
  pub sendable : SendableWhen
  pub offering : OfferingWhen
  pub fruitful : FruitfulWhen
