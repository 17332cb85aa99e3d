use Prim.Native.Nat.{◌+◌, ◌-◌}
use mathlib.Core.Path.{sym, ◌∙◌}
use lib.ListN.{length-take}
use lib.Seq.{length-take-le}
use native.Mathlib.Omega.{arith}
use Rattle.wire.proofs.Runs.{clear-block, clear-into, any-up-to, copied_none, copied-length, copied_more, copied-rest, copied-into, copied-out}
use Rattle.wire.proofs.scan.copy_clear.Goals as goal

pub loop-i-init : goal.loop-i-init
loop-i-init c = copied_none

pub slice_bounds-copy_until-end : goal.slice_bounds-copy_until-end
slice_bounds-copy_until-end c = sym (length-take-le _ _ (omega arith))

pub copy_until-requires : goal.copy_until-requires
copy_until-requires c =
    let k = c.loop-i.invariant in record { run_in_bounds = omega (arith, copied-length k, length-take (c.loop-i.i + 16) c.args.run.now); run_value = any-up-to c.args.first c.args.last c.args.run.now c.loop-i.i (c.loop-i.i + 16) (omega arith) (sym c.any_in_range.ensures ∙ c.if-any_in_range.true); clear = clear-into {e = c.loop-i.i + 16} (omega arith) k.clear }

pub shape_of-out-then-any_in_range : goal.shape_of-out-then-any_in_range
shape_of-out-then-any_in_range c = c.copy_until.auto.out ∙ copied-length c.loop-i.invariant

pub returns-then-any_in_range : goal.returns-then-any_in_range
returns-then-any_in_range c =
    let until = c.copy_until.ensures _ (copied-into {e = c.loop-i.i + 16} (omega arith) c.loop-i.invariant) in
    copied-out {e = c.loop-i.i + 16} (omega (arith, until.clear.within, length-take (c.loop-i.i + 16) c.args.run.now)) until

pub copy_block-requires : goal.copy_block-requires
copy_block-requires c =
    let size = c.copy_block-arg-in-loop-i-1.given.1 in
    (omega (arith, size), omega (arith, size, copied-length c.loop-i.invariant))

pub loop-i-preserved : goal.loop-i-preserved
loop-i-preserved c =
    let k = c.loop-i.invariant in
    copied_more k _ (omega arith) (clear-block k.clear _ (omega arith) (omega arith) (sym c.any_in_range.ensures ∙ c.if-any_in_range.false)) c.copy_block.ensures

pub copy_bytes-requires : goal.copy_bytes-requires
copy_bytes-requires c =
    omega (arith, c.copy_bytes-arg-2-1.given.1, c.loop-i.invariant.clear.within, copied-length c.loop-i.invariant)

pub shape_of-out : goal.shape_of-out
shape_of-out c = c.copy_bytes.auto.out ∙ copied-length c.loop-i.invariant

pub returns : goal.returns
returns c =
    copied-rest c.loop-i.invariant c.copy_bytes.ensures
