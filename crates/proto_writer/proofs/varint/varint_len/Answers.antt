use Prim.Native.Nat.{◌-◌}
use mathlib.Core.Path.{ap}
use native.Mathlib.Omega.{arith}
use lib.ListN.{length}
use Rattle.proto_writer.specs.Varint.{varint_bytes}
use Rattle.proto_writer.proofs.Varints.{digits-short, digits_long, top-next, digits-count}
use Rattle.proto_writer.proofs.varint.varint_len.Goals as goal

pub loop-rest-init : goal.loop-rest-init
unfolding varint_bytes
loop-rest-init c = record { left = 9; small = omega arith; same = omega arith; few = omega (arith, digits-count 9 c.args.value) }

pub overflow_add-n : goal.overflow_add-n
overflow_add-n c =
    omega (arith, c.loop-rest.invariant.same, c.loop-rest.invariant.few)

pub loop-rest-preserved : goal.loop-rest-preserved
loop-rest-preserved c =
    record {
      left = c.loop-rest.invariant.left - 1;
      small = top-next c.loop-rest.invariant.left c.loop-rest.rest c.loop-rest.invariant.small c.loop-rest-test.true;
      same = omega (arith, c.loop-rest.invariant.same, ap length (digits_long c.loop-rest.invariant.left c.loop-rest.rest c.loop-rest.invariant.small c.loop-rest-test.true));
      few = c.loop-rest.invariant.few;
    }

pub returns : goal.returns
returns c =
    omega (arith, c.loop-rest.invariant.same, c.loop-rest.invariant.few, ap length (digits-short c.loop-rest.invariant.left c.loop-rest.rest c.loop-rest-test.false))
