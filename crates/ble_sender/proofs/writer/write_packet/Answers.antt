use mathlib.Core.Path.{◌≡◌}
use native.Mathlib.Omega.{arith}
use Rattle.std.specs.Prelude.{Err}
use Rattle.ble_sender.proofs.Guard.{written-done}
use Rattle.ble_sender.proofs.writer.write_packet.Goals as goal

pub write_piece-requires : goal.write_piece-requires
write_piece-requires c =
    rw c.in_ok-piece.was at c.decide.ensures.1

pub returns-in_err-piece : goal.returns-in_err-piece
returns-in_err-piece c =
    let passed : c.from_residual.result ≡ Err c.in_err-piece.field-0.0 = grind arith in
    rw (written-done c.args.limit c.args.how c.args.message.now c.args.place c.args.out.now, ← c.decide.ensures.0, c.in_err-piece.was, passed)

pub returns : goal.returns
returns c =
    rw (written-done c.args.limit c.args.how c.args.message.now c.args.place c.args.out.now, ← c.decide.ensures.0, c.in_ok-piece.was, c.write_piece.ensures.0, c.write_piece.ensures.1)
