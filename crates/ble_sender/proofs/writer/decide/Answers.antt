-- Each way out is the table of `decided` at the tests that led there.
use native.Mathlib.Omega.{arith}
use mathlib.Core.Path.{sym, ◌∙◌}
use borrow.Author.Tests.{not-true, not-false, lt-ltb, le-ltb}
use Rattle.wire.proofs.Limits.{limit-range}
use Rattle.ble_sender.specs.Writer.{decided}
use Rattle.ble_sender.proofs.Guard.{room-low, range-facts, found-writes}
use Rattle.ble_sender.proofs.writer.decide.Goals as goal

pub returns-then-not-room_fits : goal.returns-then-not-room_fits
unfolding decided
returns-then-not-room_fits c = (rw (← c.room_fits.ensures, c.if-not-room_fits.true-raw), tt)

pub returns-then-not-limit_fits : goal.returns-then-not-limit_fits
unfolding decided
returns-then-not-limit_fits c = (
  rw (← c.room_fits.ensures, c.if-not-room_fits.false-raw, ← c.limit_fits.ensures, c.if-not-limit_fits.true-raw),
  tt,
)

pub returns-then-not-arguments_fit : goal.returns-then-not-arguments_fit
unfolding decided
returns-then-not-arguments_fit c = (
  rw (
    ← c.room_fits.ensures,
    c.if-not-room_fits.false-raw,
    ← c.limit_fits.ensures,
    c.if-not-limit_fits.false-raw,
    ← c.arguments_fit.ensures,
    not-true c.arguments_fit.result c.if-not-arguments_fit.true-raw,
  ),
  tt,
)

pub piece_at-requires : goal.piece_at-requires
piece_at-requires c =
    room-low _ (sym c.room_fits.ensures ∙ not-false c.room_fits.result c.if-not-room_fits.false-raw)

pub returns-then-space-room : goal.returns-then-space-room
unfolding decided
returns-then-space-room c = (
  rw (
    ← c.room_fits.ensures,
    c.if-not-room_fits.false-raw,
    ← c.limit_fits.ensures,
    c.if-not-limit_fits.false-raw,
    ← c.arguments_fit.ensures,
    not-false c.arguments_fit.result c.if-not-arguments_fit.false-raw,
    ← c.piece_at.ensures,
    c.in-Some.is,
    lt-ltb _ _ c.if-space-room.true,
  ),
  tt,
)

pub returns-in_default : goal.returns-in_default
unfolding decided
returns-in_default c = (
  rw (
    ← c.room_fits.ensures,
    c.if-not-room_fits.false-raw,
    ← c.limit_fits.ensures,
    c.if-not-limit_fits.false-raw,
    ← c.arguments_fit.ensures,
    not-false c.arguments_fit.result c.if-not-arguments_fit.false-raw,
    ← c.piece_at.ensures,
    c.in_default.is,
  ),
  tt,
)

pub returns : goal.returns
unfolding decided
returns c =
    let most = limit-range _ (sym c.limit_fits.ensures ∙ not-false c.limit_fits.result c.if-not-limit_fits.false-raw) in (
      rw (
        ← c.room_fits.ensures,
        c.if-not-room_fits.false-raw,
        ← c.limit_fits.ensures,
        c.if-not-limit_fits.false-raw,
        ← c.arguments_fit.ensures,
        not-false c.arguments_fit.result c.if-not-arguments_fit.false-raw,
        ← c.piece_at.ensures,
        c.in-Some.is,
        le-ltb _ _ c.if-space-room.false,
      ),
      found-writes c.args.limit c.args.how c.args.length c.args.space (omega (arith, most))
          (room-low _ (sym c.room_fits.ensures ∙ not-false c.room_fits.result c.if-not-room_fits.false-raw))
          (range-facts c.args.limit _ _ (sym c.arguments_fit.ensures ∙ not-false c.arguments_fit.result c.if-not-arguments_fit.false-raw))
          c.if-space-room.false c.args.place _ (sym c.piece_at.ensures ∙ rw c.in-Some.is),
    )
