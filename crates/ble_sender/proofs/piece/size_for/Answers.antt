use Prim.Native.Nat.{◌≤◌, ◌<◌}
use mathlib.Core.Path.{sym}
use borrow.Author.Tests.{le-leb, lt-leb}
use Rattle.ble_packet.specs.Header.{least_header}
use Rattle.ble_sender.proofs.Largest.{size-closed, size_none}
use Rattle.ble_sender.proofs.piece.size_for.Goals as goal

pub returns-then-room-least : goal.returns-then-room-least
returns-then-room-least c =
    let less : c.args.room < least_header c.args.first = rw (← c.least_header-least.ensures.0) c.if-room-least.true in
    sym (size_none c.args.room c.args.first c.args.rest less)

pub returns-then-plain-le-ONE_BYTE_LENGTH : goal.returns-then-plain-le-ONE_BYTE_LENGTH
returns-then-plain-le-ONE_BYTE_LENGTH c =
    let e = c.least_header-least.ensures.0 in
    let enough : least_header c.args.first ≤ c.args.room = rw (← e) c.if-room-least.false in
    rw (c.smaller.ensures.0, size-closed c.args.room c.args.first enough c.args.rest, ← e, le-leb _ _ c.if-plain-le-ONE_BYTE_LENGTH.true)

pub returns : goal.returns
returns c =
    let e = c.least_header-least.ensures.0 in
    let enough : least_header c.args.first ≤ c.args.room = rw (← e) c.if-room-least.false in
    rw (c.smaller-2.ensures.0, size-closed c.args.room c.args.first enough c.args.rest, ← e, lt-leb _ _ c.if-plain-le-ONE_BYTE_LENGTH.false)
