use mathlib.Core.Path.{sym, ◌∙◌}
use Rattle.outbox.proofs.Number.{number-pair, number-pairs}
use Rattle.outbox.proofs.judging.length_in.Goals as goal

pub returns-in-One : goal.returns-in-One
returns-in-One c = c.pair.ensures.0 ∙ sym (rw c.in-One.is (number-pair c.args.rest.now))

pub returns-in-Two : goal.returns-in-Two
returns-in-Two c =
    rw (c.pair-high.ensures.0, c.pair-low.ensures.0, c.in-Two.is) (sym (number-pairs c.args.rest.now))
