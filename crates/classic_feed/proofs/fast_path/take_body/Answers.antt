use mathlib.Core.Path.{refl, ◌∙◌}
use native.Mathlib.Omega.{arith}
use Rattle.classic_feed.proofs.Onwards.{onward-here, onward_then}
use Rattle.classic_feed.proofs.fast_path.take_body.Goals as goal

pub loop-at-init : goal.loop-at-init
loop-at-init c =
    (refl, onward-here c.requires.fits c.requires.i_in_bounds, c.requires.phase_value)

pub take_run-run-requires : goal.take_run-run-requires
take_run-run-requires c = let k = c.loop-at.invariant in record { fits = k.1.fits; i_in_bounds = k.1.within; phase_value = k.2 }

pub take_pair-pair-requires : goal.take_pair-pair-requires
take_pair-pair-requires c =
    let on = onward_then c.loop-at.invariant.1 c.take_run-run.ensures.0 in record { fits = on.fits; i_in_bounds = on.within; phase_value = c.take_run-run.ensures.1 }

pub shape_of-buffer-then-at-end : goal.shape_of-buffer-then-at-end
shape_of-buffer-then-at-end c =
    let k = c.loop-at.invariant in
    c.take_pair-pair.auto.buffer ∙ c.take_run-run.auto.buffer ∙ k.0

pub returns-then-at-end : goal.returns-then-at-end
returns-then-at-end c =
    let k = c.loop-at.invariant in
    onward_then (onward_then k.1 c.take_run-run.ensures.0) c.take_pair-pair.ensures.0

pub loop-at-smaller : goal.loop-at-smaller
loop-at-smaller c =
    let k = c.loop-at.invariant in
    let far = onward_then (onward_then k.1 c.take_run-run.ensures.0) c.take_pair-pair.ensures.0 in
    omega (arith, c.take_run-run.ensures.0.from, c.take_pair-pair.ensures.0.from, far.within)

pub loop-at-preserved : goal.loop-at-preserved
loop-at-preserved c =
    let k = c.loop-at.invariant in
    (c.take_pair-pair.auto.buffer ∙ c.take_run-run.auto.buffer ∙ k.0, onward_then (onward_then k.1 c.take_run-run.ensures.0) c.take_pair-pair.ensures.0, c.take_pair-pair.ensures.1)
