use mathlib.Core.Path.{sym, ap}
use Prim.Native.Nat.{ℕ}
use lib.Dec.{leb}
use lib.ListN.{length}
use mathlib.Core.List.{[], ◌∷◌, ◌++◌}
use native.Mathlib.Omega.{arith}
use borrow.Author.Tests.{le-leb}
use Rattle.classic_frame.specs.Frame.{framed}
use Rattle.classic_writer.proofs.Escaping.{frame-length, frame-most}
use Rattle.classic_writer.proofs.writer.has_room.Goals as goal

pub returns-then-payload-room : goal.returns-then-payload-room
returns-then-payload-room c =
    sym (le-leb (length (framed c.args.sequence (c.args.payload.now ++ (c.args.sum.high ∷ c.args.sum.low ∷ [])))) c.args.room (omega (arith, frame-most c.args.sequence c.args.payload.now c.args.sum.high c.args.sum.low)))

pub returns : goal.returns
returns c =
    ap (λ (n : ℕ). leb n c.args.room) (omega (arith, frame-length c.args.sequence c.args.payload.now c.args.sum.high c.args.sum.low, c.width-2.ensures, c.width.ensures, c.escaped_size.ensures))
