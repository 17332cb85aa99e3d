use Prim.Native.Nat.{◌+◌, ◌-◌, min}
use mathlib.Core.Path.{◌≡◌, ◌∙◌}
use native.Mathlib.Omega.{arith}
use lib.ListN.{length}
use Rattle.capture_why.proofs.Parts.{part-within}
use Rattle.capture_why.proofs.stopped_in.Goals as goal

pub returns : goal.returns
returns c =
    let l = c.args.rest.now in
    let start = c.smaller-start.result in
    let size = c.smaller-size.result in
    let n = c.pair-n.result in
    let k : start + size - start ≡ min (length l - start) n = omega (arith, c.smaller-size.ensures.0) in
    c.stopped_of.ensures
    ∙ rw (
      part-within l 2 start n (start + size - start) c.smaller-start.ensures.0 k,
      c.pair-n.ensures.0,
      c.byte_at-2.ensures,
      c.byte_at.ensures,
    )
