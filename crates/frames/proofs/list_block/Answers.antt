use Rattle.std.proofs.Common.{arith}
use Rattle.frames.proofs.Used.{used-fits}
use Rattle.frames.proofs.list_block.Goals as goal

pub overflow_add-end : goal.overflow_add-end
overflow_add-end c =
    let used = used-fits c.loop-at.now.state.limit c.loop-at.now.state.progress c.loop-at.buffer c.args.bytes.now c.loop-at.at c.loop-at.invariant.0 c.feed-fed.ensures.0 in
    omega (arith, used, c.well_formed.1.1.0.1)

pub slice_bounds-list_call-end : goal.slice_bounds-list_call-end
slice_bounds-list_call-end c =
    let used = used-fits c.loop-at.now.state.limit c.loop-at.now.state.progress c.loop-at.buffer c.args.bytes.now c.loop-at.at c.loop-at.invariant.0 c.feed-fed.ensures.0 in
    omega (arith, used)
