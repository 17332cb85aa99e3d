use borrow.Author.Tests.{not-true, not-false}
use Rattle.capture_next.specs.NextPacket.{next_of}
use Rattle.capture_next.proofs.next_packet.Goals as goal

pub returns-then-not-room_fits : goal.returns-then-not-room_fits
unfolding next_of
returns-then-not-room_fits c =
    rw (← c.room_fits.ensures, not-true c.room_fits.result c.if-not-room_fits.true-raw) c.next_by.ensures

pub returns-in-Idle : goal.returns-in-Idle
unfolding next_of
returns-in-Idle c =
    rw (
      ← c.room_fits.ensures,
      not-false c.room_fits.result c.if-not-room_fits.false-raw,
      c.in-Idle.is,
      ← c.size_for.ensures,
    )
    c.next_by-in-Idle.ensures

pub returns-in-Open : goal.returns-in-Open
unfolding next_of
returns-in-Open c =
    rw (
      ← c.room_fits.ensures,
      not-false c.room_fits.result c.if-not-room_fits.false-raw,
      c.in-Open.is,
      ← c.size_for-in-Open.ensures,
    )
    c.next_by-in-Open.ensures
