-- Five tests in the table's order; each way out has those before it put in.
use Rattle.reply.specs.Put.{judged_of}
use Rattle.reply.proofs.judge.Goals as goal

pub returns-then-not-room_fits : goal.returns-then-not-room_fits
unfolding judged_of
returns-then-not-room_fits c = rw (← c.room_fits.ensures, c.if-not-room_fits.true-raw)

pub returns-then-not-limit_fits : goal.returns-then-not-limit_fits
unfolding judged_of
returns-then-not-limit_fits c =
    rw (← c.room_fits.ensures, c.if-not-room_fits.false-raw, ← c.limit_fits.ensures, c.if-not-limit_fits.true-raw)

pub returns-then-not-in_range : goal.returns-then-not-in_range
unfolding judged_of
returns-then-not-in_range c =
    rw (
      ← c.room_fits.ensures,
      c.if-not-room_fits.false-raw,
      ← c.limit_fits.ensures,
      c.if-not-limit_fits.false-raw,
      ← c.in_range.ensures,
      c.if-not-in_range.true-raw,
    )

pub returns-then-bad_carried : goal.returns-then-bad_carried
unfolding judged_of
returns-then-bad_carried c =
    rw (
      ← c.room_fits.ensures,
      c.if-not-room_fits.false-raw,
      ← c.limit_fits.ensures,
      c.if-not-limit_fits.false-raw,
      ← c.in_range.ensures,
      c.if-not-in_range.false-raw,
      ← c.bad_carried.ensures,
      c.if-bad_carried.true,
    )

pub returns : goal.returns
unfolding judged_of
returns c =
    rw (
      ← c.room_fits.ensures,
      c.if-not-room_fits.false-raw,
      ← c.limit_fits.ensures,
      c.if-not-limit_fits.false-raw,
      ← c.in_range.ensures,
      c.if-not-in_range.false-raw,
      ← c.bad_carried.ensures,
      c.if-bad_carried.false,
    )
