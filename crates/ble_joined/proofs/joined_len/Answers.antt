use mathlib.Core.Path.{sym, ◌∙◌}
use Rattle.ble_joined.specs.Joined.{joined_length}
use Rattle.ble_joined.proofs.Guards.{countable-facts}
use Rattle.ble_joined.proofs.joined_len.Goals as goal

pub count_bytes-requires : goal.count_bytes-requires
count_bytes-requires c =
    countable-facts c.args.room c.args.total (sym c.countable.ensures ∙ c.if-countable.true)

pub returns-then-countable : goal.returns-then-countable
unfolding joined_length
returns-then-countable c = rw (← c.countable.ensures, c.if-countable.true) c.count_bytes.ensures

pub returns : goal.returns
unfolding joined_length
returns c = rw (← c.countable.ensures, c.if-countable.false)
