-- The walk reads whole records up to its place and never goes back.
use Rattle.std.proofs.Common.{sym, ap, ◌∙◌, arith}
use Rattle.std.specs.Prelude.{Ok, Err}
use Rattle.outbox.specs.Format.{format_of}
use Rattle.outbox.specs.Reader.{told}
use Rattle.outbox.proofs.Place.{read-within, read-at-end}
use Rattle.outbox.proofs.Walk.{going-begins, read-decides, read_goes}
use Rattle.cli_listing.specs.Listing.{listed, listed_of}
use Rattle.cli_listing.proofs.list_part.Goals as goal

pub loop-found-init : goal.loop-found-init
loop-found-init c = going-begins (format_of c.args.part.now) c.args.part.now

pub loop-found-smaller : goal.loop-found-smaller
loop-found-smaller c =
    let ends = read-within _ _ c.loop-found.place _ (sym c.read.ensures ∙ ap told (c.in-Ok-Some.is ∙ ap Ok c.in-Ok-Some.field-0-is)) in
    omega (arith, ends.0, ends.1)

pub loop-found-preserved : goal.loop-found-preserved
loop-found-preserved c = read_goes _ _ c.loop-found.invariant _ (sym c.read.ensures ∙ ap told (c.in-Ok-Some.is ∙ ap Ok c.in-Ok-Some.field-0-is))

pub returns-in-Ok-None : goal.returns-in-Ok-None
unfolding listed_of
returns-in-Ok-None c =
    let e = sym c.read.ensures ∙ ap told (c.in-Ok-None.is ∙ ap Ok c.in-Ok-None.field-0-is) in
    c.list_end.ensures
    ∙ rw (read-decides _ _ c.loop-found.invariant _ e) (ap (listed _) (read-at-end _ _ c.loop-found.place e))

pub returns-in-Err-BadPlace : goal.returns-in-Err-BadPlace
unfolding listed_of
returns-in-Err-BadPlace c = rw (read-decides _ _ c.loop-found.invariant _ (sym c.read.ensures ∙ ap told (c.in-Err-BadPlace.is ∙ ap Err c.in-Err-BadPlace.field-0-is)))

pub returns-in-Err-Broken : goal.returns-in-Err-Broken
unfolding listed_of
returns-in-Err-Broken c =
    c.list_refusal.ensures
    ∙ rw (c.in-Err-Broken.broken-is, read-decides _ _ c.loop-found.invariant _ (sym c.read.ensures ∙ ap told (c.in-Err-Broken.is ∙ ap Err c.in-Err-Broken.field-0-is)))
