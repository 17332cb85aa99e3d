use Prim.Native.Nat.{◌-◌}
use lib.ListN.{length, length-set}
use native.Mathlib.Omega.{arith}
use Rattle.classic_parts.proofs.FastPath.{pair-facts, onward-pair}
use Rattle.classic_parts.proofs.state.PartProgress.take_pair.Goals as goal

pub bounds-out-at : goal.bounds-out-at
bounds-out-at c =
    omega (arith, (pair-facts c.byte_at-b.result c.args.self.taken c.args.self.total (length c.args.out.now - c.args.at) c.is_mark.ensures c.both-fits.ensures c.both.ensures c.if-both.true).2)

pub bounds-out-at-then-both : goal.bounds-out-at-then-both
bounds-out-at-then-both c =
    simp length-set (omega (arith, (pair-facts c.byte_at-b.result c.args.self.taken c.args.self.total (length c.args.out.now - c.args.at) c.is_mark.ensures c.both-fits.ensures c.both.ensures c.if-both.true).2))

pub advanced-requires : goal.advanced-requires
advanced-requires c =
    omega (arith, (pair-facts c.byte_at-b.result c.args.self.taken c.args.self.total (length c.args.out.now - c.args.at) c.is_mark.ensures c.both-fits.ensures c.both.ensures c.if-both.true).1)

pub returns-then-both : goal.returns-then-both
returns-then-both c =
    let h = pair-facts c.byte_at-b.result c.args.self.taken c.args.self.total (length c.args.out.now - c.args.at) c.is_mark.ensures c.both-fits.ensures c.both.ensures c.if-both.true in (
      rw (c.advanced.ensures.0, c.add_byte-sum.ensures, c.code_for.ensures)
          (onward-pair c.args.payload.now c.args.self c.args.out.now c.args.taken c.args.at c.requires.taken_in_bounds c.requires.at_in_bounds c.requires.self_value
          c.byte_at-b.result c.byte_at-b.ensures h.0 h.1 h.2),
      rw c.advanced.ensures.0,
    )
