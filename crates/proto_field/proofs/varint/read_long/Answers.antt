use Prim.Native.Nat.{ℕ, ◌+◌, ◌-◌, ◌*◌, ◌^◌, ◌<◌}
use mathlib.Core.Path.{refl, sym, ap, ◌∙◌}
use native.Mathlib.Omega.{arith}
use borrow.Author.Rules.{rules}
use Rattle.proto_field.specs.Varint.{varint_at}
use Rattle.proto_field.proofs.Varints.{grown, grown-none, digits, room-more, room_next, last_fits, at-end, turn-over, turn_last, turn-short, turn-grown}
use Rattle.proto_field.proofs.varint.read_long.Goals.{After-wide64-byte, Else-byte-gt-LAST_BYTE, Else-left-eq0}
use Rattle.proto_field.proofs.varint.read_long.Goals as goal

pub loop-i-init : goal.loop-i-init
unfolding varint_at
loop-i-init c = record { room = refl; below = omega arith; same = sym (grown-none _) }

-- the byte in hand is below 256
byte : (c : After-wide64-byte) → c.wide64-byte.result < 256
byte c = c.wide64-byte.ensures.1

-- value and one more digit fit, at any byte but the tenth
digit-fits : (c : Else-left-eq0) (d : ℕ) → d < 128 → c.loop-i.value + c.loop-i.weight * d < 2 ^ 63
digit-fits c d h =
    omega (arith, digits c.loop-i.invariant.below h, room-more c.loop-i.weight c.loop-i.left c.loop-i.invariant.room c.if-left-eq0.false)

last : (c : Else-byte-gt-LAST_BYTE) →
    c.loop-i.value + c.loop-i.weight * c.wide64-byte.result < 2 ^ 64
last c =
    last_fits c.loop-i.value c.loop-i.weight c.loop-i.left _ c.loop-i.invariant.room c.loop-i.invariant.below c.if-left-eq0.true c.if-byte-gt-LAST_BYTE.false

pub returns-then-byte-gt-LAST_BYTE : goal.returns-then-byte-gt-LAST_BYTE
returns-then-byte-gt-LAST_BYTE c =
    sym (c.loop-i.invariant.same ∙ ap (grown c.loop-i.value c.loop-i.weight) (turn-over c.loop-i.left c.loop-i.i _ (search rules) c.if-left-eq0.true (rw c.wide64-byte.ensures.0 at c.if-byte-gt-LAST_BYTE.true)))

pub overflow_mul-whole : goal.overflow_mul-whole
overflow_mul-whole c = omega (arith, last c)

pub overflow_add-whole : goal.overflow_add-whole
overflow_add-whole c = omega (arith, last c)

pub returns-then-left-eq0 : goal.returns-then-left-eq0
returns-then-left-eq0 c =
    rw c.wide64-byte.ensures.0
    (sym (c.loop-i.invariant.same ∙ ap (grown c.loop-i.value c.loop-i.weight) (turn_last c.loop-i.left c.loop-i.i _ (search rules) c.if-left-eq0.true (rw c.wide64-byte.ensures.0 at c.if-byte-gt-LAST_BYTE.false))))

pub overflow_mul-whole-then-byte-lt-BASE : goal.overflow_mul-whole-then-byte-lt-BASE
overflow_mul-whole-then-byte-lt-BASE c = omega (arith, digit-fits (goal.at.overflow_mul-whole-then-byte-lt-BASE c).Else-left-eq0 _ c.if-byte-lt-BASE.true)

pub overflow_add-whole-then-byte-lt-BASE : goal.overflow_add-whole-then-byte-lt-BASE
overflow_add-whole-then-byte-lt-BASE c = omega (arith, digit-fits (goal.at.overflow_add-whole-then-byte-lt-BASE c).Else-left-eq0 _ c.if-byte-lt-BASE.true)

pub returns-then-byte-lt-BASE : goal.returns-then-byte-lt-BASE
returns-then-byte-lt-BASE c =
    rw c.wide64-byte.ensures.0
    (sym (c.loop-i.invariant.same ∙ ap (grown c.loop-i.value c.loop-i.weight) (turn-short c.loop-i.left c.loop-i.i _ (search rules) c.if-left-eq0.false (rw c.wide64-byte.ensures.0 at c.if-byte-lt-BASE.true))))

pub overflow_mul-value : goal.overflow_mul-value
overflow_mul-value c = omega (arith, digit-fits (goal.at.overflow_mul-value c).Else-left-eq0 (c.wide64-byte.result - 128) (omega (arith, byte (goal.at.overflow_mul-value c).After-wide64-byte)))

pub overflow_add-value : goal.overflow_add-value
overflow_add-value c = omega (arith, digit-fits (goal.at.overflow_add-value c).Else-left-eq0 (c.wide64-byte.result - 128) (omega (arith, byte (goal.at.overflow_add-value c).After-wide64-byte)))

pub overflow_mul-weight : goal.overflow_mul-weight
overflow_mul-weight c =
    omega (arith, room-more c.loop-i.weight c.loop-i.left c.loop-i.invariant.room c.if-left-eq0.false)

pub loop-i-preserved : goal.loop-i-preserved
loop-i-preserved c =
    record {
      room = room_next c.loop-i.weight c.loop-i.left c.loop-i.invariant.room c.if-left-eq0.false;
      below = digits c.loop-i.invariant.below (omega (arith, byte (goal.at.loop-i-preserved c).After-wide64-byte));
      same =
          rw c.wide64-byte.ensures.0
          (c.loop-i.invariant.same ∙ turn-grown c.loop-i.value c.loop-i.weight c.loop-i.left c.loop-i.i _ (search rules) c.if-left-eq0.false (rw c.wide64-byte.ensures.0 at c.if-byte-lt-BASE.false));
    }

pub returns : goal.returns
returns c =
    sym (c.loop-i.invariant.same ∙ ap (grown c.loop-i.value c.loop-i.weight) (at-end c.loop-i.left c.loop-i.i _ c.loop-i-test.false))
