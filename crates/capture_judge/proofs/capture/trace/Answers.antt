use Rattle.capture_judge.specs.Capture.{traced_of}
use Rattle.capture_judge.proofs.capture.trace.Goals as goal

pub returns-then-not-room_fits : goal.returns-then-not-room_fits
unfolding traced_of
returns-then-not-room_fits c = rw (← c.room_fits.ensures, c.if-not-room_fits.true-raw)

pub returns-then-not-limit_fits : goal.returns-then-not-limit_fits
unfolding traced_of
returns-then-not-limit_fits c =
    rw (← c.room_fits.ensures, c.if-not-room_fits.false-raw, ← c.limit_fits.ensures, c.if-not-limit_fits.true-raw)

pub returns : goal.returns
unfolding traced_of
returns c =
    rw (← c.room_fits.ensures, c.if-not-room_fits.false-raw, ← c.limit_fits.ensures, c.if-not-limit_fits.false-raw) c.walk.ensures
