use Rattle.utf8.proofs.Places.{place-start, place-whole}
use Rattle.utf8.proofs.check.short_place.Goals as goal

pub returns-then-string-run : goal.returns-then-string-run
returns-then-string-run c =
    place-whole c.args.string.now c.clear_run-run.result (λ i. (c.type_inv.string i).fits) c.if-string-run.true c.clear_run-run.ensures

pub place_from-requires : goal.place_from-requires
place_from-requires c =
    place-start c.args.string.now c.clear_run-run.result (λ i. (c.type_inv.string i).fits) c.clear_run-run.ensures
