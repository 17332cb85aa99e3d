use Prim.Native.Nat.{◌-◌}
use mathlib.Core.Path.{sym, ◌∙◌}
use lib.ListN.{length}
use borrow.Author.Rules.{rules}
use Rattle.wire.proofs.Runs.{clear_none, clear-block}
use Rattle.utf8.proofs.Places.{place-start, place-whole, clear_whole}
use Rattle.utf8.proofs.check.bad_place.Goals as goal

pub loop-at-init : goal.loop-at-init
loop-at-init c = clear_none

pub place_from-requires : goal.place_from-requires
place_from-requires c =
    place-start c.args.string.now c.loop-at.at (λ i. (c.shared_slice_known-1.given i).fits) c.loop-at.invariant

pub loop-at-preserved : goal.loop-at-preserved
loop-at-preserved c =
    clear-block c.loop-at.invariant _ (search rules) (search rules) (sym c.any_above.ensures ∙ c.if-any_above.false)

pub place_from-requires-then-any_above-2 : goal.place_from-requires-then-any_above-2
place_from-requires-then-any_above-2 c =
    place-start c.args.string.now c.loop-at.at (λ i. (c.shared_slice_known-1.given i).fits) c.loop-at.invariant

pub returns : goal.returns
returns c =
    let s = c.args.string.now in
    let k = clear_whole s c.loop-at.at (length s - 16) (search rules) c.loop-at.invariant (sym c.any_above-2.ensures ∙ c.if-any_above-2.false) in
    place-whole s (length s) (λ i. (c.shared_slice_known-1.given i).fits) (search rules) k
