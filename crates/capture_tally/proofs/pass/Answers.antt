use Prim.Native.Nat.{ℕ, ◌+◌, ◌-◌, ◌≤◌}
use native.Mathlib.Omega.{arith}
use mathlib.Core.Path.{◌≡◌, sym, ap, ◌∙◌}
use mathlib.Core.List.{List}
use lib.ListN.{length, take, drop}
use borrow.Author.Rules.{rules}
use Rattle.wire.specs.Told.{given}
use Rattle.capture_reader.specs.Capture.{width, length_in}
use Rattle.ble_slot.specs.declared.Slot.{Slot}
use Rattle.ble_receiver.proofs.Accepting.{ready-says, ready-holds}
use Rattle.capture_tally.specs.Tally.{passed_of}
use Rattle.capture_tally.proofs.Passing.{passing_begins, passing-ends, length-is, packet-lies, passing-goes}
use Rattle.capture_tally.proofs.pass.Goals.{After-pair-n}
use Rattle.capture_tally.proofs.pass.Goals as goal

pub loop-at-init : goal.loop-at-init
loop-at-init c =
    passing_begins _ _ _ _ c.requires.0
    (ready-says c.args.limit _ c.args.buffer.now (rw c.idle_row.ensures c.requires.1))

pub bounds-capture-at-in-loop-at : goal.bounds-capture-at-in-loop-at
bounds-capture-at-in-loop-at c =
    omega (arith, packet-lies _ _ _ _ c.requires.0 c.loop-at.invariant c.loop-at-test.true)

-- the length that was read
read : (c : After-pair-n)
    → c.pair-n.result ≡ length_in (drop c.loop-at.at c.args.capture.now)
read c =
    c.pair-n.ensures.0 ∙ sym (length-is _ _ _ _ c.requires.0 c.loop-at.invariant c.loop-at-test.true)

-- the packet lies within the capture
within : (c : After-pair-n)
    → c.loop-at.at + width + c.pair-n.result ≤ length c.args.capture.now
within c =
    omega (arith, read c, packet-lies _ _ _ _ c.requires.0 c.loop-at.invariant c.loop-at-test.true)

pub overflow_add-start : goal.overflow_add-start
overflow_add-start c = omega (arith, within c)

pub overflow_add-next : goal.overflow_add-next
overflow_add-next c = omega (arith, within c)

pub slice_bounds-take-end : goal.slice_bounds-take-end
slice_bounds-take-end c = omega (arith, within (goal.at.slice_bounds-take-end c).After-pair-n)

pub take-tally-requires : goal.take-tally-requires
take-tally-requires c =
    ready-holds _ c.loop-at.tally.slots c.loop-at.buffer c.loop-at.invariant.fits

pub loop-at-smaller : goal.loop-at-smaller
loop-at-smaller c = omega (arith, within (goal.at.loop-at-smaller c).After-pair-n)

pub loop-at-preserved : goal.loop-at-preserved
loop-at-preserved c =
    let at : ℕ = c.loop-at.at in
    let n : ℕ = c.pair-n.result in
    let bytes : List ℕ = c.args.capture.now in
    let z : at + width + n - (at + width) ≡ n = omega arith in
    passing-goes _ _ _ _ c.requires.0 c.loop-at.invariant c.loop-at-test.true n _ _ _ (read (goal.at.loop-at-preserved c).After-pair-n)
    (ap (λ (i : ℕ). take i (drop (at + width) bytes)) z) c.take-tally.ensures (search rules)

pub shape_of-buffer : goal.shape_of-buffer
shape_of-buffer c = c.loop-at.invariant.size

pub returns : goal.returns
returns c =
    rw (c.add_more-sum.ensures, c.open_report.ensures)
    (passing-ends _ _ _ _ c.requires.0 c.loop-at.invariant c.loop-at-test.false
    ∙ ap (λ (slots : List Slot). passed_of (given c.args.report) c.args.limit slots c.args.buffer.now c.args.capture.now)
    c.idle_row.ensures)
