-- The reply to a finished control transaction for C.
use Rattle.std.specs.Prelude.{ℕ, List}
use Rattle.wire.specs.Told.{WrittenOf}
use Rattle.proto_reader.specs.Refusal.{number_more}
use Rattle.msg_device.specs.declared.features.DeviceFeatures.{DeviceFeatures}
use Rattle.reply.specs.declared.Link.{Link}
use Rattle.reply_parts.specs.declared.body.Members.{Members}
use Rattle.reply.specs.Reply.{box_of, Replied, replied_of}
use Rattle.c_rows.specs.Called.{Called, answers}
use Rattle.c_reply.specs.Convert.{transports_for, reply_row}

abbrev pub reply_call : List ℕ → List ℕ → WrittenOf (ℕ × List ℕ) Replied → Called
reply_call out answer w = answers 3 answer out (number_more w.told) w.out (reply_row w.told)

unfoldable pub reply_write_of : List ℕ → List ℕ → List ℕ → List ℕ → List ℕ → DeviceFeatures → Members → Link → List ℕ → List ℕ → Called
reply_write_of message serial_number name device_type transports features members link out answer =
    reply_call out answer (replied_of (box_of serial_number name (transports_for transports) device_type features members) link message out)
