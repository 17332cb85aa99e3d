use mathlib.Core.Path.{sym, ◌∙◌}
use borrow.Author.Tests.{eq-eqb, ne_eqb}
use Rattle.c_classic.specs.Calls.{none_used, extractor_feed_of}
use Rattle.c_classic.proofs.calls.pito_extractor_feed.Goals as goal

pub returns-then-answer-ne-FEED_ANSWER : goal.returns-then-answer-ne-FEED_ANSWER
unfolding extractor_feed_of none_used
returns-then-answer-ne-FEED_ANSWER c = rw (ne_eqb _ _ c.if-answer-ne-FEED_ANSWER.true)

pub returns-then-not-is_extractor : goal.returns-then-not-is_extractor
unfolding extractor_feed_of
returns-then-not-is_extractor c =
    rw (eq-eqb _ _ c.if-answer-ne-FEED_ANSWER.false, ← c.is_extractor.ensures, c.if-not-is_extractor.true, c.unfit_feed.ensures.0, c.unfit_feed.ensures.1)

pub extractor_of-there-requires : goal.extractor_of-there-requires
extractor_of-there-requires c = sym c.is_extractor.ensures ∙ c.if-not-is_extractor.false

pub returns-then-not-is_ready : goal.returns-then-not-is_ready
unfolding extractor_feed_of none_used
returns-then-not-is_ready c =
    rw (c.unfit_feed-then-not-is_ready.ensures.0, c.unfit_feed-then-not-is_ready.ensures.1, eq-eqb _ _ c.if-answer-ne-FEED_ANSWER.false, ← c.is_extractor.ensures, c.if-not-is_extractor.false, ← c.extractor_of-there.ensures, ← c.is_ready.ensures, c.if-not-is_ready.true)

pub feed_fitting-requires : goal.feed_fitting-requires
feed_fitting-requires c =
    (sym c.is_extractor.ensures ∙ c.if-not-is_extractor.false, c.if-answer-ne-FEED_ANSWER.false)

pub returns : goal.returns
unfolding extractor_feed_of
returns c =
    rw (eq-eqb _ _ c.if-answer-ne-FEED_ANSWER.false, ← c.is_extractor.ensures, c.if-not-is_extractor.false) c.feed_fitting.ensures
