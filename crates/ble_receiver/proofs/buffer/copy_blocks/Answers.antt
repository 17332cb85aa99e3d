use Prim.Native.Nat.{ℕ, ◌+◌, ◌-◌}
use mathlib.Core.Path.{◌≡◌, refl, ap, ◌∙◌}
use mathlib.Core.List.{List}
use lib.ListN.{take, drop}
use lib.Seq.{sets}
use native.Mathlib.Omega.{arith}
use Rattle.ble_receiver.proofs.Copies.{block_more}
use borrow.Author.Rules.{rules}
use Rattle.ble_receiver.proofs.buffer.copy_blocks.Goals as goal

pub loop-i-init : goal.loop-i-init
loop-i-init c = (search rules, refl, λ l e. e)

pub copy_block-requires : goal.copy_block-requires
copy_block-requires c =
    let size = c.copy_block-arg-in-loop-i-1.given.1 in
    (omega (arith, size), omega (arith, size, c.loop-i.invariant.1))

pub loop-i-preserved : goal.loop-i-preserved
loop-i-preserved c =
    let i = c.loop-i.i in
    let more : i + (i + 16 - i) ≡ i + 16 = omega arith in (
      omega arith,
      c.copy_block.auto.out ∙ c.loop-i.invariant.1,
      λ l e.
          c.copy_block.ensures
          ∙ ap (λ (m : List ℕ). sets m (c.args.at + i) (take (i + 16 - i) (drop i c.args.run.now))) (c.loop-i.invariant.2 l e)
          ∙ block_more l c.args.at i (i + 16 - i) c.args.run.now c.loop-i.invariant.0
          ∙ ap (λ (k : ℕ). sets l c.args.at (take k c.args.run.now)) more,
    )

pub shape_of-out : goal.shape_of-out
shape_of-out c = c.loop-i.invariant.1

pub returns : goal.returns
returns c = (c.loop-i.invariant.2, omega arith, c.loop-i.invariant.0)
