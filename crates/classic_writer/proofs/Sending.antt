-- Laws of a frame that the writer has to take.
use Prim.Native.Nat.{ℕ}
use mathlib.Core.Path.{◌≡◌}
use mathlib.Core.Bool.{false}
use native.Mathlib.Omega.{arith}
use lib.ListN.{length}
use borrow.Author.Tests.{ne_eqb, le-ltb}
use Rattle.wire.proofs.Limits.{range-limit}
use Rattle.wire.proofs.Stores.{first-bytes}
use Rattle.classic_frame.specs.Mark.{kind_of, is_mark}
use Rattle.classic_frame.specs.Frame.{frame_of}
use Rattle.classic_writer.specs.Sending.{FrameToSend, Sendable, sent, NoMark, SendableWhen}

pub no-mark : (b : ℕ) → NoMark b → is_mark b ≡ false
unfolding kind_of
no-mark b h = rw (ne_eqb b 0xF0 h.0, ne_eqb b 0xF1 h.1, ne_eqb b 0xF2 h.2)

pub sendable-when : SendableWhen
sendable-when limit m some most byte plain fits room =
    record { range = range-limit limit some most; unmarked = no-mark m.sequence plain; fits = fits; room = room }

-- what the writer writes is the frame
pub sent-frame : (limit : ℕ) (m : FrameToSend) → Sendable limit m → sent limit m ≡ frame_of m.sequence m.payload
sent-frame limit m w =
    let f = frame_of m.sequence m.payload in
    rw (
      w.range,
      w.unmarked,
      le-ltb limit (length m.payload) (omega (arith, w.fits)),
      le-ltb (length m.out) (length f) w.room,
      first-bytes m.out f w.room,
    )
