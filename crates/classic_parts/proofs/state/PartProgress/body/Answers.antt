use Prim.Native.Nat.{ℕ, ◌<◌, ◌≤◌}
use mathlib.Core.Path.{◌≡◌, refl}
use mathlib.Core.List.{List, [], ◌∷◌}
use native.Mathlib.Omega.{arith}
use borrow.Author.Tests.{lt-ltb, le-ltb}
use lib.ListN.{length, get_or}
use Rattle.classic_frame.specs.Mark.{kind_of}
use Rattle.classic_parts.specs.declared.state.PartProgress.{PartProgress}
use Rattle.classic_parts.specs.Byte.{nothing, byte, first_by, took, payload_byte, body_byte}
use Rattle.classic_parts.proofs.state.PartProgress.body.Goals as goal

none-offered : (s : PartProgress) (l : List ℕ) → length l ≤ 0 → nothing ≡ payload_byte s l
none-offered s [] h = refl
none-offered s (x ∷ xs) h = absurd (omega arith)

first-offered : (s : PartProgress) (l : List ℕ) (b : ℕ) → 0 < length l → b ≡ get_or l 0 0 → byte (first_by (kind_of b) b) (took s b) 1 ≡ payload_byte s l
first-offered s [] b h e = absurd (omega arith)
first-offered s (x ∷ xs) b h e = rw e

pub returns-then-self : goal.returns-then-self
unfolding body_byte
returns-then-self c = rw (le-ltb _ _ c.if-self.true) c.closing.ensures

pub returns-in_err-b : goal.returns-in_err-b
unfolding body_byte
returns-in_err-b c = rw (c.from_residual.ensures, lt-ltb _ _ c.if-self.false) (none-offered c.args.self c.args.offered.now c.in_err-b.ensures.item.3)

pub returns : goal.returns
unfolding body_byte
returns c =
    let item = c.in_ok-b.ensures.item.3 in
    rw (c.first-2.ensures, c.took.ensures, lt-ltb _ _ c.if-self.false) (first-offered c.args.self c.args.offered.now c.in_ok-b.field-0.now item.0 (item.1 0))
