use Prim.Native.Nat.{ℕ, ◌+◌, ◌-◌, ◌≤◌}
use mathlib.Core.Path.{◌≡◌, sym, ap, ◌∙◌}
use mathlib.Core.List.{List}
use lib.ListN.{length, take, drop}
use lib.Seq.{sets, length-take-le}
use native.Mathlib.Omega.{arith}
use Rattle.ble_receiver.proofs.Copies.{block_last, rest-block}
use Rattle.ble_receiver.proofs.buffer.copy_run.Goals as goal

pub slice_bounds-copy_block-end : goal.slice_bounds-copy_block-end
slice_bounds-copy_block-end c =
    let long : 16 ≤ length c.args.run.now = omega arith in
    sym (length-take-le 16 c.args.run.now long)

pub copy_block-requires : goal.copy_block-requires
copy_block-requires c =
    let long : 16 ≤ length c.args.run.now = omega arith in
    let size : length (take 16 c.args.run.now) ≡ 16 = length-take-le 16 c.args.run.now long in
    (size, omega (arith, size, c.requires))

-- the blocks up to the last, and the last over what is there
pub returns : goal.returns
returns c =
    let l = c.args.out.now in
    let run = c.args.run.now in
    let at = c.args.at in
    let k = length run - 16 in
    let done = c.copy_blocks-last.ensures in
    c.copy_block-2.ensures
    ∙ ap (λ (m : List ℕ). sets m (at + k) (take (length run - k) (drop k run))) (done.0 l c.copy_block.ensures)
    ∙ ap (sets (sets l at (take c.copy_blocks-last.result run)) (at + k)) (rest-block k run)
    ∙ block_last l at k c.copy_blocks-last.result run (omega (arith, done.1)) done.2
