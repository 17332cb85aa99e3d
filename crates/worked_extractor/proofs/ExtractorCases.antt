-- The extractor's table holds: computed over the whole table, then turned into the rule at each row.
use mathlib.Core.Path.{◌≡◌, refl}
use mathlib.Core.List.{map}
use Rattle.wire.specs.Limit.{limit_fits}
use Rattle.classic_frame.specs.Mark.{kind_of}
use Rattle.classic_frame.specs.Frame.{sum_of, checked}
use Rattle.classic_extractor.specs.Action.{code_of}
use Rattle.classic_extractor.specs.State.{lawful, ready}
use Rattle.classic_extractor.specs.Step.{store_of, end_of, advance_of}
use Rattle.classic_feed.specs.Feed.{feed_from}
use Rattle.worked_extractor.specs.ExtractorCases.{steps_of, feeds_of, answer_to, ExtractorCase, cases, ExtractorCases}
use Rattle.worked_extractor.proofs.Rows.{agree}

holds : map (λ (c : ExtractorCase). answer_to c.question) cases ≡ map (λ (c : ExtractorCase). c.expected) cases
unfolding answer_to cases steps_of feeds_of limit_fits kind_of sum_of code_of lawful ready store_of checked end_of advance_of feed_from
holds = refl

pub extractor-cases : ExtractorCases
extractor-cases a = agree (λ (c : ExtractorCase). answer_to c.question) (λ (c : ExtractorCase). c.expected) a holds
