use Prim.Native.Nat.{◌+◌}
use native.Mathlib.Nat.{add-sub_cancel_left}
use native.Mathlib.Omega.{arith}
use Rattle.classic_parts.proofs.FastPath.{onward-plain}
use Rattle.classic_parts.proofs.state.PartProgress.take_plain.Goals as goal

pub returns : goal.returns
returns c =
    let e = c.args.taken + c.run_limit.result in (
      rw (c.advanced-next.ensures.0, c.add_all-sum.ensures, add-sub_cancel_left c.args.taken c.copy_clear-n.result)
          (onward-plain c.args.payload.now c.args.self c.args.out.now c.args.taken c.args.at c.requires.taken_in_bounds c.requires.at_in_bounds c.requires.self_value
          e (omega arith) (omega arith) (omega arith) (omega (arith, c.run_limit.ensures.2)) c.advanced-next.ensures.1 c.copy_clear-n.ensures),
      rw c.advanced-next.ensures.0,
    )
