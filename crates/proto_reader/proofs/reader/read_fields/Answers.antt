use Prim.Native.Nat.{ℕ}
use mathlib.Core.Path.{◌≡◌, ap, sym, ◌∙◌}
use mathlib.Core.List.{List}
use native.Mathlib.Omega.{arith}
use lib.ListN.{length}
use Rattle.std.proofs.lemmas.Result.{err_from_is_err_and}
use Rattle.wire.specs.Told.{given, refused, and_then}
use Rattle.proto_reader.specs.Walk.{walk, placed, field_at, fields_from}
use Rattle.proto_reader.proofs.Walks.{walk_end, walk-stop, walks_next}
use Rattle.proto_reader.proofs.Steps.{field-by, field-forward, read-fits}
use Rattle.proto_reader.proofs.reader.read_fields.Goals.{In_ok-add, In-loop-at}
use Rattle.proto_reader.proofs.reader.read_fields.Goals as goal

pub loop-at-init : goal.loop-at-init
unfolding fields_from
loop-at-init c =
    record { fuel = length c.args.message.now; enough = omega arith; same = ap (walk (field_at c.args.schema) (length c.args.message.now) c.args.message.now c.args.from) (sym c.nothing-so_far.ensures) }

-- where a field is refused, all of them are
halted : (c : In-loop-at) (n : ℕ × List ℕ) →
    field_at c.args.schema c.args.message.now c.loop-at.at c.loop-at.so_far ≡ refused n → fields_from c.args.schema c.args.message.now c.args.from ≡ refused n
halted c n e =
    c.loop-at.invariant.same ∙ walk-stop (field_at c.args.schema) _ c.loop-at.at c.loop-at.so_far c.loop-at-test.true c.loop-at.invariant.fuel c.loop-at.invariant.enough n e

pub returns-in_err-read : goal.returns-in_err-read
returns-in_err-read c =
    let p = err_from_is_err_and c.from_residual.result c.from_residual.ensures.1 in
    rw (p.1, p.2)
    (sym (halted (goal.at.returns-in_err-read c).In-loop-at _ (field-by c.args.schema _ c.loop-at.at c.loop-at.so_far (sym c.in_err-read.ensures))))

pub add-requires : goal.add-requires
add-requires c = read-fits c.args.schema _ c.loop-at.at c.loop-at.so_far.field c.loop-at.so_far.count _ (sym c.in_ok-read.ensures)

pub returns-in_err-add : goal.returns-in_err-add
returns-in_err-add c =
    let p = err_from_is_err_and c.from_residual-in_err-add.result c.from_residual-in_err-add.ensures.1 in
    rw (p.1, p.2)
    (sym (halted (goal.at.returns-in_err-add c).In-loop-at _ (field-by c.args.schema _ c.loop-at.at c.loop-at.so_far (sym c.in_ok-read.ensures) ∙ ap (λ r. and_then r (placed c.in_ok-read.read.next)) (sym c.in_err-add.ensures))))

-- what the turn's field leaves
went : (c : In_ok-add) → field_at c.args.schema c.args.message.now c.loop-at.at c.loop-at.so_far ≡ given (c.add.new.gathered, c.in_ok-read.read.next)
went c =
    field-by c.args.schema _ c.loop-at.at c.loop-at.so_far (sym c.in_ok-read.ensures) ∙ ap (λ r. and_then r (placed c.in_ok-read.read.next)) (sym c.in_ok-add.ensures)

pub loop-at-smaller : goal.loop-at-smaller
loop-at-smaller c =
    omega (arith, c.loop-at-test.true, field-forward c.args.schema _ c.loop-at.at c.loop-at.so_far _ (went (goal.at.loop-at-smaller c).In_ok-add))

pub loop-at-preserved : goal.loop-at-preserved
loop-at-preserved c =
    walks_next (field_at c.args.schema) (field-forward c.args.schema) _ c.loop-at.invariant c.loop-at-test.true (went (goal.at.loop-at-preserved c).In_ok-add)

pub returns : goal.returns
returns c =
    sym (c.loop-at.invariant.same ∙ walk_end (field_at c.args.schema) c.loop-at.invariant.fuel _ c.loop-at.at c.loop-at.so_far c.loop-at-test.false)
