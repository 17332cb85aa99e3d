use Prim.Native.Nat.{◌≤◌, ◌<◌}
use lib.ListN.{length}
use Rattle.classic_frame.specs.Frame.{frame_of}
use mathlib.Core.Path.{sym, ◌∙◌}
use borrow.Author.Tests.{lt-ltb, le-ltb, leb-true, leb-false}
use native.Mathlib.Omega.{arith}
use Rattle.wire.proofs.Limits.{limit-range}
use Rattle.classic_writer.proofs.writer.write_within.Goals as goal

pub returns-then-limit-payload : goal.returns-then-limit-payload
returns-then-limit-payload c = rw (c.requires.0, c.requires.1, lt-ltb _ _ c.if-limit-payload.true)

pub has_room-requires : goal.has_room-requires
has_room-requires c =
    omega (arith, (limit-range c.args.limit c.requires.0).1, c.if-limit-payload.false)

pub put_frame-requires : goal.put_frame-requires
put_frame-requires c = leb-true _ _ (sym c.has_room.ensures ∙ c.if-not-has_room.false)

pub returns : goal.returns
returns c =
    let fits : length (frame_of c.args.sequence c.args.payload.now) ≤ length c.args.out.now = rw (← c.checksum-total.ensures.0) (leb-true _ _ (sym c.has_room.ensures ∙ c.if-not-has_room.false)) in
    rw (
      c.requires.0,
      c.requires.1,
      le-ltb _ _ c.if-limit-payload.false,
      le-ltb _ _ fits,
      c.put_frame.ensures.0,
      c.put_frame.ensures.1,
      c.checksum-total.ensures.0,
    )

pub returns-then-not-has_room : goal.returns-then-not-has_room
returns-then-not-has_room c =
    let short : length c.args.out.now < length (frame_of c.args.sequence c.args.payload.now) = rw (← c.checksum-total.ensures.0) (leb-false _ _ (sym c.has_room.ensures ∙ c.if-not-has_room.true)) in
    rw (
      c.requires.0,
      c.requires.1,
      le-ltb _ _ c.if-limit-payload.false,
      lt-ltb _ _ short,
    )
