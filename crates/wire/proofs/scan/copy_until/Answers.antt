use Prim.Native.Nat.{◌+◌}
use mathlib.Core.Path.{refl, sym, ◌∙◌}
use lib.ListN.{get_or, length-set}
use native.Mathlib.Omega.{arith}
use Rattle.wire.proofs.Runs.{clear-byte, clear-short, copied_byte}
use Rattle.wire.proofs.scan.copy_until.Goals as goal

pub loop-at-init : goal.loop-at-init
loop-at-init c = (refl, c.requires.clear, λ l k. k)

pub bounds-run-i : goal.bounds-run-i
bounds-run-i c = clear-short c.requires.run_value c.loop-at.invariant.1

pub returns-then-in_range : goal.returns-then-in_range
returns-then-in_range c = c.loop-at.invariant.2

pub overflow_add-out : goal.overflow_add-out
overflow_add-out c = omega (arith, clear-short c.requires.run_value c.loop-at.invariant.1)

pub bounds-out-at : goal.bounds-out-at
bounds-out-at c = omega (arith, clear-short c.requires.run_value c.loop-at.invariant.1, c.loop-at.invariant.0)

pub overflow_add-i : goal.overflow_add-i
overflow_add-i c = omega (arith, clear-short c.requires.run_value c.loop-at.invariant.1)

pub loop-at-smaller : goal.loop-at-smaller
loop-at-smaller c = omega (arith, clear-short c.requires.run_value c.loop-at.invariant.1)

pub loop-at-preserved : goal.loop-at-preserved
loop-at-preserved c =
    let short = clear-short c.requires.run_value c.loop-at.invariant.1 in
    let out = sym c.in_range.ensures ∙ c.if-in_range.false in (
      length-set c.loop-at.out (c.args.at + c.loop-at.i) (get_or c.args.run.now c.loop-at.i 0) ∙ c.loop-at.invariant.0,
      clear-byte c.loop-at.invariant.1 short out,
      λ l k. copied_byte (c.loop-at.invariant.2 l k) short out,
    )
