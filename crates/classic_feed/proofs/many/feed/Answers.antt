use mathlib.Core.Path.{refl, sym, ◌∙◌}
use Rattle.classic_extractor.proofs.States.{ready-fits}
use Rattle.classic_feed.proofs.many.feed.Goals as goal

pub run-requires : goal.run-requires
run-requires c = ready-fits (sym c.is_ready.ensures ∙ c.if-is_ready.true)

pub returns-then-is_ready : goal.returns-then-is_ready
returns-then-is_ready c =
    rw (sym c.is_ready.ensures ∙ c.if-is_ready.true) c.run.ensures

pub returns-else-is_ready : goal.returns-else-is_ready
returns-else-is_ready c = (rw (sym c.is_ready.ensures ∙ c.if-is_ready.false), refl)
