use Prim.Native.Nat.{ℕ, ◌+◌, ◌-◌, ◌*◌, ◌≤◌}
use Rattle.wire.proofs.Parts.{sets-part}
use Rattle.ble_slot.specs.Slot.{slot_count}
use Rattle.ble_receiver.specs.Buffer.{part_start}
use Rattle.ble_receiver.proofs.Parts.{part-inside}
use borrow.Rule.Slice.PartMut.{put_mid}
use lib.ListN.{length, take, drop, length-take, length-drop}
use lib.Seq.{sets}
use mathlib.Core.Path.{◌≡◌, ap, ◌∙◌}
use mathlib.Core.List.{List}
use native.Mathlib.Nat.{add-sub_cancel_left}
use native.Mathlib.Omega.{arith}
use Rattle.ble_receiver.proofs.buffer.write_payload.Goals.{Start}
use Rattle.ble_receiver.proofs.buffer.write_payload.Goals as goal

-- the part that is lent lies within the buffer
inside : (c : Start) → part_start c.args.limit c.args.index + c.args.limit ≤ slot_count * c.args.limit
inside c = part-inside c.args.limit c.args.index c.requires.1

pub overflow_mul-start : goal.overflow_mul-start
overflow_mul-start c = omega (arith, c.requires.0, inside (goal.at.overflow_mul-start c).Start)

pub overflow_add-end : goal.overflow_add-end
overflow_add-end c = omega (arith, c.requires.0, inside (goal.at.overflow_add-end c).Start)

pub slice_bounds-copy_run-end : goal.slice_bounds-copy_run-end
slice_bounds-copy_run-end c = omega (arith, c.requires.2, inside (goal.at.slice_bounds-copy_run-end c).Start)

shorter : (n k : ℕ) (l : List ℕ) → length (take n (drop k l)) ≤ n
shorter n k l = simp (length-take, length-drop) (omega arith)

pub returns : goal.returns
returns c =
    let start = c.args.index * c.args.limit in
    let size = start + c.args.limit - start in
    let payload = c.args.payload in
    let n = payload.start + payload.len - payload.start in
    let run = take n (drop payload.start c.args.packet.now) in
    let cut : n ≡ payload.len = add-sub_cancel_left payload.start payload.len in
    let short : length run ≤ n = shorter n payload.start c.args.packet.now in
    ap (put_mid start size c.args.buffer.now) c.copy_run.ensures
    ∙ sets-part c.args.buffer.now start size payload.at run (omega (arith, c.requires.2, inside (goal.at.returns c).Start)) (omega (arith, short, cut, c.requires.3.1))
    ∙ ap (λ (k : ℕ). sets c.args.buffer.now (start + payload.at) (take k (drop payload.start c.args.packet.now))) cut
