use Prim.Native.Nat.{◌+◌, ◌-◌, ◌%◌}
use mathlib.Core.Path.{◌≡◌, refl, ap, sym, ◌∙◌}
use native.Mathlib.Omega.{arith}
use native.Mathlib.Numerals.{add-one}
use lib.ListN.{length, length-set}
use lib.Seq.{sets}
use Rattle.proto_writer.specs.Varint.{varint_bytes}
use Rattle.proto_writer.proofs.Varints.{digits-short, digits_long, top-next, digits-count}
use Rattle.proto_writer.proofs.varint.put_varint.Goals as goal

pub loop-rest-init : goal.loop-rest-init
unfolding varint_bytes
loop-rest-init c = record { left = 9; small = omega arith; word = omega arith; target = refl; place = refl; long = refl }

pub bounds-out-i : goal.bounds-out-i
bounds-out-i c =
    omega (arith, c.loop-rest.invariant.place, c.loop-rest.invariant.long, digits-count c.loop-rest.invariant.left c.loop-rest.rest, c.requires)

pub loop-rest-preserved : goal.loop-rest-preserved
loop-rest-preserved c =
    let e = digits_long c.loop-rest.invariant.left c.loop-rest.rest c.loop-rest.invariant.small c.loop-rest-test.true in
    let b : c.narrow.result ≡ c.loop-rest.rest % 128 + 128 = omega (arith, c.narrow.ensures) in
    record {
      left = c.loop-rest.invariant.left - 1;
      small = top-next c.loop-rest.invariant.left c.loop-rest.rest c.loop-rest.invariant.small c.loop-rest-test.true;
      word = omega (arith, c.loop-rest.invariant.word);
      target = rw (b, add-one) (c.loop-rest.invariant.target ∙ ap (sets c.loop-rest.out c.loop-rest.i) e);
      place = omega (arith, c.loop-rest.invariant.place, ap length e);
      long = simp length-set c.loop-rest.invariant.long;
    }

pub bounds-out-i-2 : goal.bounds-out-i-2
bounds-out-i-2 c =
    omega (arith, c.loop-rest.invariant.place, c.loop-rest.invariant.long, digits-count c.loop-rest.invariant.left c.loop-rest.rest, c.requires)

pub shape_of-out : goal.shape_of-out
shape_of-out c = simp length-set c.loop-rest.invariant.long

pub returns : goal.returns
returns c =
    let e = digits-short c.loop-rest.invariant.left c.loop-rest.rest c.loop-rest-test.false in
    record {
      place = omega (arith, c.loop-rest.invariant.place, ap length e);
      stored = rw c.narrow-2.ensures (sym (c.loop-rest.invariant.target ∙ ap (sets c.loop-rest.out c.loop-rest.i) e));
    }
