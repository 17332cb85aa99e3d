-- The reply: what its writer is given by numbers, and the row that tells what it answers.
use Rattle.std.specs.Prelude.{ℕ, Bool, cond, false, List, ◌∷◌, map, ℤ, pos, length, replicate, ltb}
use Rattle.wire.specs.Told.{ToldMore, given, refused}
use Rattle.proto_field.specs.Signed.{signed_of}
use Rattle.proto_reader.specs.Gathered.{most_transports}
use Rattle.msg_device.specs.declared.features.DeviceFeatures.{DeviceFeatures}
use Rattle.reply.specs.declared.Link.{Link}
use Rattle.reply_parts.specs.declared.body.Members.{Members}
use Rattle.reply.specs.Reply.{Replied, silent, sent}
use Rattle.c_rows.specs.Row.{byte_or, out_of_range}
use Rattle.c_message_rows.specs.Convert.{all_signed, fault_of}

-- a number above 255 counts as one that is out of range
unfoldable pub link_of : ℕ → ℕ → ℕ → ℕ → Link
link_of room limit id sequence = record { room = room; limit = limit; id = byte_or out_of_range id; sequence = byte_or out_of_range sequence }

abbrev pub features_of : ℕ → ℕ → DeviceFeatures
features_of features attributes = record { features = features; device_attributes = attributes }

abbrev pub members_of : ℕ → ℕ → Members
members_of information features = record { information = information; features = features }

-- at most eight signed numbers
unfoldable pub few_signed : List ℕ → Bool
few_signed row = cond (ltb most_transports (length row)) false (all_signed row)

-- what no parameter of the library holds stands for nine transports, which is out of range where they are carried
abbrev pub transports_for : List ℕ → List ℤ
transports_for row = cond (few_signed row) (map signed_of row) (replicate 9 (pos 0))

-- how many bytes were written, 0 where there is no reply, and the field and the place that go with a refusal
abbrev pub reply_row : ToldMore Replied → List ℕ
reply_row (given silent) = replicate 3 0
reply_row (given (sent n)) = n ∷ replicate 2 0
reply_row (refused why) = 0 ∷ fault_of why
