use Prim.Native.Nat.{ℕ, ◌+◌, ◌-◌}
use native.Mathlib.Omega.{arith}
use mathlib.Core.Path.{◌≡◌}
use mathlib.Core.List.{List}
use lib.ListN.{length, take, drop, length-take, length-drop}
use lib.Seq.{sets-eq}
use Rattle.ble_joined.proofs.move_down.Goals as goal

pub returns : goal.returns
returns c =
    let l : List ℕ = c.args.out.now in
    let run : List ℕ = take c.args.n (drop c.args.from l) in
    let size : length run ≡ c.args.n = simp (length-take, length-drop) (omega arith) in
    let moved : c.args.from + c.args.n - c.args.from ≡ c.args.n = omega arith in
    rw (c.copy_within.ensures.after, sets-eq run l c.args.to (omega arith), size, moved)
