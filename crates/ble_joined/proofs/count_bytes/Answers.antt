use Prim.Native.Nat.{◌+◌, ◌-◌, ◌*◌, ◌≤◌, ◌<◌}
use native.Mathlib.Omega.{arith}
use Rattle.ble_joined.proofs.Pieces.{size_low}
use Rattle.ble_joined.proofs.Counting.{counting-start, counting-next, counting-end}
use Rattle.ble_joined.proofs.count_bytes.Goals.{After-header_size-head}
use Rattle.ble_joined.proofs.count_bytes.Goals as goal

pub loop-going-init : goal.loop-going-init
loop-going-init c = counting-start c.args.room c.args.total c.requires.0

-- what the additions of a turn stand on
turn : (c : After-header_size-head)
    →
    let total = c.args.total in
    (c.loop-going.index ≤ c.loop-going.start) × (c.loop-going.start ≤ total) × (c.loop-going.sum ≤ c.loop-going.start + 7 * c.loop-going.index)
    × (c.piece_size-size.result ≤ total - c.loop-going.start) × (c.header_size-head.result < 8) × (total < 65536)
turn c =
    let i = c.loop-going.invariant in
    let low = size_low c.args.room c.args.total c.loop-going.index c.loop-going.start _ c.requires.0 c.piece_size-size.ensures in
    (i.few c.loop-going-test.true, i.low, i.bound, low, c.header_size-head.ensures.1, c.requires.1)

pub overflow_add-sum : goal.overflow_add-sum
overflow_add-sum c = omega (arith, turn c)

pub overflow_add-sum-in-loop-going : goal.overflow_add-sum-in-loop-going
overflow_add-sum-in-loop-going c = omega (arith, turn c)

pub overflow_add-start : goal.overflow_add-start
overflow_add-start c = omega (arith, turn c)

pub overflow_add-index : goal.overflow_add-index
overflow_add-index c = omega (arith, turn c)

pub loop-going-smaller : goal.loop-going-smaller
loop-going-smaller c = omega (arith, turn c)

pub loop-going-preserved : goal.loop-going-preserved
loop-going-preserved c =
    counting-next c.args.room c.args.total c.requires.0 c.loop-going.index c.loop-going.start c.loop-going.sum _ _ (rw c.loop-going-test.true at c.loop-going.invariant) c.piece_size-size.ensures c.header_size-head.ensures.0 c.header_size-head.ensures.1

pub returns : goal.returns
returns c =
    counting-end c.args.room c.args.total c.requires.0 c.loop-going.index c.loop-going.start c.loop-going.sum (rw c.loop-going-test.false at c.loop-going.invariant)
