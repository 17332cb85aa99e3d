use mathlib.Core.Path.{sym, ◌∙◌}
use Rattle.wire.proofs.Tests.{and_right}
use Rattle.ble_joined.specs.Joined.{is_exact}
use Rattle.ble_joined.proofs.Guards.{countable-facts}
use Rattle.ble_joined.proofs.is_exact.Goals as goal

pub count_bytes-requires : goal.count_bytes-requires
count_bytes-requires c =
    let e = sym c.both.ensures ∙ c.if-both.true in
    countable-facts c.args.how.room c.args.total (sym c.countable.ensures ∙ and_right c.both-low.result _ e)

pub returns-then-both : goal.returns-then-both
unfolding is_exact
returns-then-both c =
    rw (
      ← c.both-low.ensures,
      ← c.countable.ensures,
      ← c.both.ensures,
      c.if-both.true,
      c.count_bytes.ensures,
    )

pub returns : goal.returns
unfolding is_exact
returns c =
    rw (← c.both-low.ensures, ← c.countable.ensures, ← c.both.ensures, c.if-both.false)
