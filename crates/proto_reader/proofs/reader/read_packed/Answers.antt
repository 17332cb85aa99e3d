use mathlib.Core.Path.{refl, sym, ◌∙◌}
use native.Mathlib.Omega.{arith}
use lib.ListN.{length}
use Rattle.std.proofs.lemmas.Result.{err_from_is_err_and}
use Rattle.proto_reader.specs.Walk.{entry_at, packed_from}
use Rattle.proto_reader.proofs.Walks.{walk_end, walk-stop, walks_next}
use Rattle.proto_reader.proofs.Steps.{entry-forward}
use Rattle.proto_reader.proofs.reader.read_packed.Goals as goal

pub loop-at-init : goal.loop-at-init
unfolding packed_from
loop-at-init c = record { fuel = length c.args.message.now; enough = omega arith; same = refl }

pub returns-in_err-at : goal.returns-in_err-at
returns-in_err-at c =
    let p = err_from_is_err_and c.from_residual.result c.from_residual.ensures.1 in
    rw (p.1, p.2)
    (sym (c.loop-at.invariant.same ∙ walk-stop entry_at _ c.loop-at.at c.loop-at.gathered c.loop-at-test.true c.loop-at.invariant.fuel c.loop-at.invariant.enough _ (sym c.in_err-at.ensures)))

pub loop-at-smaller : goal.loop-at-smaller
loop-at-smaller c = omega (arith, entry-forward _ c.loop-at.at c.loop-at.gathered _ (sym c.in_ok-at.ensures))

pub loop-at-preserved : goal.loop-at-preserved
loop-at-preserved c = walks_next entry_at entry-forward _ c.loop-at.invariant c.loop-at-test.true (sym c.in_ok-at.ensures)

pub returns : goal.returns
returns c =
    sym (c.loop-at.invariant.same ∙ walk_end entry_at c.loop-at.invariant.fuel _ c.loop-at.at c.loop-at.gathered c.loop-at-test.false)
