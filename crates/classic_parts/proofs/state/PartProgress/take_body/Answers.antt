use native.Mathlib.Omega.{arith}
use Rattle.classic_parts.proofs.FastPath.{onward-here, onward_then}
use Rattle.classic_parts.proofs.state.PartProgress.take_body.Goals as goal

pub loop-place-init : goal.loop-place-init
loop-place-init c =
    (onward-here c.requires.taken_in_bounds c.requires.at_in_bounds, c.requires.self_value)

pub take_run-run-requires : goal.take_run-run-requires
take_run-run-requires c =
    let k = c.loop-place.invariant in record { taken_in_bounds = k.0.offered; at_in_bounds = omega (arith, k.0.within, k.0.same); self_value = k.1 }

pub take_pair-pair-requires : goal.take_pair-pair-requires
take_pair-pair-requires c =
    let on = onward_then c.loop-place.invariant.0 c.take_run-run.ensures.0 in record { taken_in_bounds = on.offered; at_in_bounds = omega (arith, on.within, on.same); self_value = c.take_run-run.ensures.1 }

pub shape_of-out-then-place-end : goal.shape_of-out-then-place-end
shape_of-out-then-place-end c =
    (onward_then (onward_then c.loop-place.invariant.0 c.take_run-run.ensures.0) c.take_pair-pair.ensures.0).same

pub returns-then-place-end : goal.returns-then-place-end
returns-then-place-end c =
    onward_then (onward_then c.loop-place.invariant.0 c.take_run-run.ensures.0) c.take_pair-pair.ensures.0

pub loop-place-smaller : goal.loop-place-smaller
loop-place-smaller c =
    let k = c.loop-place.invariant.0 in
    let far = onward_then (onward_then k c.take_run-run.ensures.0) c.take_pair-pair.ensures.0 in
    omega (arith, c.take_run-run.ensures.0.from, c.take_pair-pair.ensures.0.from, far.within, far.same, k.same)

pub loop-place-preserved : goal.loop-place-preserved
loop-place-preserved c =
    (onward_then (onward_then c.loop-place.invariant.0 c.take_run-run.ensures.0) c.take_pair-pair.ensures.0, c.take_pair-pair.ensures.1)
