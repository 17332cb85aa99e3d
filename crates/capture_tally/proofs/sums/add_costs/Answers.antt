-- Each sum that fits, in turn, up to the first that does not.
use Prim.Native.Nat.{ℕ, ◌<◌}
use native.Mathlib.Omega.{arith}
use mathlib.Core.Path.{◌≡◌}
use mathlib.Core.Bool.{false}
use lib.Dec.{ltb}
use borrow.Author.Tests.{lt-ltb, le-ltb}
use Rattle.capture_report.specs.Report.{past64, costs_plus, costs_fit}
use Rattle.capture_tally.proofs.sums.add_costs.Goals as goal

over : (n : ℕ) → (n < past64 → ⊥) → ltb n past64 ≡ false
over n h = le-ltb n past64 (omega (arith, h))

pub returns-in_err-checked_add : goal.returns-in_err-checked_add
unfolding costs_plus costs_fit
returns-in_err-checked_add c =
    rw (
      c.from_residual.ensures,
      over _ c.in_err-checked_add.ensures,
    )

pub returns-in_err-checked_add-2 : goal.returns-in_err-checked_add-2
unfolding costs_plus costs_fit
returns-in_err-checked_add-2 c =
    rw (
      c.from_residual-in_err-checked_add-2.ensures,
      lt-ltb _ _ c.in_ok-checked_add.ensures.0,
      over _ c.in_err-checked_add-2.ensures,
    )

pub returns-in_err-checked_add-3 : goal.returns-in_err-checked_add-3
unfolding costs_plus costs_fit
returns-in_err-checked_add-3 c =
    rw (
      c.from_residual-in_err-checked_add-3.ensures,
      lt-ltb _ _ c.in_ok-checked_add.ensures.0,
      lt-ltb _ _ c.in_ok-checked_add-2.ensures.0,
      over _ c.in_err-checked_add-3.ensures,
    )

pub returns-in_err-checked_add-4 : goal.returns-in_err-checked_add-4
unfolding costs_plus costs_fit
returns-in_err-checked_add-4 c =
    rw (
      c.from_residual-in_err-checked_add-4.ensures,
      lt-ltb _ _ c.in_ok-checked_add.ensures.0,
      lt-ltb _ _ c.in_ok-checked_add-2.ensures.0,
      lt-ltb _ _ c.in_ok-checked_add-3.ensures.0,
      over _ c.in_err-checked_add-4.ensures,
    )

pub returns-in_err-checked_add-5 : goal.returns-in_err-checked_add-5
unfolding costs_plus costs_fit
returns-in_err-checked_add-5 c =
    rw (
      c.from_residual-in_err-checked_add-5.ensures,
      lt-ltb _ _ c.in_ok-checked_add.ensures.0,
      lt-ltb _ _ c.in_ok-checked_add-2.ensures.0,
      lt-ltb _ _ c.in_ok-checked_add-3.ensures.0,
      lt-ltb _ _ c.in_ok-checked_add-4.ensures.0,
      over _ c.in_err-checked_add-5.ensures,
    )

pub returns-in_err-checked_add-6 : goal.returns-in_err-checked_add-6
unfolding costs_plus costs_fit
returns-in_err-checked_add-6 c =
    rw (
      c.from_residual-in_err-checked_add-6.ensures,
      lt-ltb _ _ c.in_ok-checked_add.ensures.0,
      lt-ltb _ _ c.in_ok-checked_add-2.ensures.0,
      lt-ltb _ _ c.in_ok-checked_add-3.ensures.0,
      lt-ltb _ _ c.in_ok-checked_add-4.ensures.0,
      lt-ltb _ _ c.in_ok-checked_add-5.ensures.0,
      over _ c.in_err-checked_add-6.ensures,
    )

pub returns-in_err-checked_add-7 : goal.returns-in_err-checked_add-7
unfolding costs_plus costs_fit
returns-in_err-checked_add-7 c =
    rw (
      c.from_residual-in_err-checked_add-7.ensures,
      lt-ltb _ _ c.in_ok-checked_add.ensures.0,
      lt-ltb _ _ c.in_ok-checked_add-2.ensures.0,
      lt-ltb _ _ c.in_ok-checked_add-3.ensures.0,
      lt-ltb _ _ c.in_ok-checked_add-4.ensures.0,
      lt-ltb _ _ c.in_ok-checked_add-5.ensures.0,
      lt-ltb _ _ c.in_ok-checked_add-6.ensures.0,
      over _ c.in_err-checked_add-7.ensures,
    )

pub returns : goal.returns
unfolding costs_plus costs_fit
returns c =
    rw (
      lt-ltb _ _ c.in_ok-checked_add.ensures.0,
      lt-ltb _ _ c.in_ok-checked_add-2.ensures.0,
      lt-ltb _ _ c.in_ok-checked_add-3.ensures.0,
      lt-ltb _ _ c.in_ok-checked_add-4.ensures.0,
      lt-ltb _ _ c.in_ok-checked_add-5.ensures.0,
      lt-ltb _ _ c.in_ok-checked_add-6.ensures.0,
      lt-ltb _ _ c.in_ok-checked_add-7.ensures.0,
      c.in_ok-checked_add.ensures.1,
      c.in_ok-checked_add-2.ensures.1,
      c.in_ok-checked_add-3.ensures.1,
      c.in_ok-checked_add-4.ensures.1,
      c.in_ok-checked_add-5.ensures.1,
      c.in_ok-checked_add-6.ensures.1,
      c.in_ok-checked_add-7.ensures.1,
    )
