-- The information is counted first; past the test of room its head, its bytes and the scalar stand one behind the other.
use Prim.Native.Nat.{◌-◌, ◌≤◌}
use mathlib.Core.Bool.{false}
use mathlib.Core.List.{[], ◌∷◌}
use mathlib.Core.Path.{◌≡◌, sym, ◌∙◌}
use native.Mathlib.Omega.{arith}
use lib.ListN.{length}
use Rattle.wire.specs.Bytes.{bit}
use Rattle.proto_writer.specs.Writer.{scalar, nested, head_bytes, message_bytes}
use Rattle.std.specs.Prelude.{Some}
use Rattle.proto_writer.specs.Message.{less_room}
use Rattle.proto_writer.proofs.Runs.{put-field, put_then}
use Rattle.proto_writer.proofs.Messages.{wrote-short, wrote, room-short}
use Rattle.proto_schema.specs.Schema.{firmware_information_field, restart_required_field}
use Rattle.msg_apply_writer.specs.Information.{bad_firmware, firmware_fields}
use Rattle.msg_apply_writer.specs.Apply.{apply_fields}
use Rattle.proto_writer.proofs.Rooms.{room-rest, nested_is, put_last}
use Rattle.msg_apply_writer.proofs.Texts.{apply-length}
use borrow.Author.Rules.{rules}
use Rattle.msg_apply_writer.proofs.apply.fill_apply.Goals.{In-Some, Start}
use Rattle.msg_apply_writer.proofs.apply.fill_apply.Goals as goal

-- the information is one that is written
fine : (c : Start) → bad_firmware c.args.texts.now c.args.apply.firmware_information ≡ false
fine c = c.requires

-- what it leaves of the output, and the number of its bytes
left_over : (c : In-Some) →
    less_room (length (message_bytes (firmware_fields c.args.texts.now c.args.apply.firmware_information))) (Some (length c.args.out.now)) ≡ Some c.in-Some.rest
left_over c = sym c.firmware_room.ensures ∙ c.in-Some.is

spent : (c : In-Some) →
    (c.in-Some.rest ≡ length c.args.out.now - length (message_bytes (firmware_fields c.args.texts.now c.args.apply.firmware_information))) × (length (message_bytes (firmware_fields c.args.texts.now c.args.apply.firmware_information)) ≤ length c.args.out.now)
spent c =
    room-rest (length c.args.out.now) (length (message_bytes (firmware_fields c.args.texts.now c.args.apply.firmware_information))) c.in-Some.rest (left_over c)

counted : (c : In-Some) →
    length c.args.out.now - c.in-Some.rest ≡ length (message_bytes (firmware_fields c.args.texts.now c.args.apply.firmware_information))
counted c = omega (arith, spent c)

pub firmware_room-requires : goal.firmware_room-requires
firmware_room-requires c = fine (goal.at.firmware_room-requires c).Start

pub overflow_sub-len : goal.overflow_sub-len
overflow_sub-len c = omega (arith, spent c)

pub returns-then-rest-around : goal.returns-then-rest-around
returns-then-rest-around c =
    let e = spent (goal.at.returns-then-rest-around c).In-Some in
    wrote-short _ (apply_fields c.args.texts.now c.args.apply) c.args.out.now (fine (goal.at.returns-then-rest-around c).Start) (omega (arith, c.if-rest-around.true, apply-length c.args.texts.now c.args.apply, rw (counted (goal.at.returns-then-rest-around c).In-Some) at c.head_len.ensures.0, rw c.bit64-restart.ensures.0 at c.scalar_len.ensures.0, e))

pub put_head-start-requires : goal.put_head-start-requires
put_head-start-requires c =
    let e = spent (goal.at.put_head-start-requires c).In-Some in
    (search rules, omega (arith, c.if-rest-around.false, c.head_len.ensures.0, e))

pub put_firmware-next-requires : goal.put_firmware-next-requires
put_firmware-next-requires c =
    let e = spent (goal.at.put_firmware-next-requires c).In-Some in
    (fine (goal.at.put_firmware-next-requires c).Start, omega (arith, c.if-rest-around.false, c.head_len.ensures.0, c.put_head-start.ensures.place, c.put_head-start.auto.out, e))

pub put_scalar-requires : goal.put_scalar-requires
put_scalar-requires c =
    let e = spent (goal.at.put_scalar-requires c).In-Some in
    (search rules, omega (arith, c.if-rest-around.false, c.head_len.ensures.0, c.scalar_len.ensures.0, c.put_head-start.ensures.place, c.put_head-start.auto.out, c.put_firmware-next.ensures.place, c.put_firmware-next.auto.out, e))

pub returns-in_default : goal.returns-in_default
returns-in_default c =
    wrote-short _ (apply_fields c.args.texts.now c.args.apply) c.args.out.now (fine (goal.at.returns-in_default c).Start) (omega (arith, apply-length c.args.texts.now c.args.apply, room-short (length c.args.out.now) (length (message_bytes (firmware_fields c.args.texts.now c.args.apply.firmware_information))) (sym c.firmware_room.ensures ∙ c.in_default.is)))

pub returns : goal.returns
returns c =
    let e = spent (goal.at.returns c).In-Some in
    let l = message_bytes (firmware_fields c.args.texts.now c.args.apply.firmware_information) in
    let b = bit c.args.apply.restart_required in
    wrote _ (apply_fields c.args.texts.now c.args.apply) c.args.out.now (fine (goal.at.returns c).Start)
    (omega (arith, c.if-rest-around.false, apply-length c.args.texts.now c.args.apply, rw (counted (goal.at.returns c).In-Some) at c.head_len.ensures.0, rw c.bit64-restart.ensures.0 at c.scalar_len.ensures.0, e))
    (put-field (nested firmware_information_field l) (scalar restart_required_field b ∷ [])
    (put_then (head_bytes firmware_information_field (length l)) l (nested_is firmware_information_field l) (rw (counted (goal.at.returns c).In-Some) at c.put_head-start.ensures) c.put_firmware-next.ensures)
    (put_last (scalar restart_required_field b) (rw c.bit64-restart.ensures.0 at c.put_scalar.ensures)))
