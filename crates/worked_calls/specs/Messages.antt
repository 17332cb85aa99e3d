-- Control messages, called from C: what is left, and one table whose rows all hold.
use Rattle.std.specs.Prelude.{◌≡◌, List, [], ◌∷◌, ◌++◌, map, replicate}
use Rattle.c_messages.specs.Calls.{envelope_read_of, envelope_write_of, response_read_of, response_write_of, features_read_of, features_write_of, information_read_of, information_write_of}
use Rattle.c_message_rows.specs.Convert.{payload_for}
use Rattle.c_rows.specs.Called.{Called, called}

unfoldable pub messages_rows : List (Called × Called)
messages_rows =
    -- pito_envelope_read: pins envelope_read_of, payload_row, known_fields, other_fields, envelope_row, payload_of, bad_tag, ..
    (envelope_read_of (0x4D ∷ []) (replicate 6 9), called 33 [] [] (replicate 6 0))
    ∷ (envelope_read_of (0x4A ∷ 0x00 ∷ 0x08 ∷ 0x05 ∷ []) (replicate 6 9), called 0 [] [] (5 ∷ 1 ∷ (replicate 4 0)))
    ∷ (envelope_read_of (0x5A ∷ 0x00 ∷ []) (replicate 6 9), called 0 [] [] (0 ∷ 2 ∷ 0 ∷ 11 ∷ 2 ∷ 0 ∷ []))
    ∷ (envelope_read_of (0x2D ∷ (replicate 4 0x00)) (replicate 6 9), called 0 [] [] (replicate 6 0))
    ∷ (
      envelope_read_of (0x12 ∷ 0x04 ∷ (replicate 4 0x00 ++ (0x08 ∷ 0x00 ∷ 0xF9 ∷ 0xFF ∷ 0xFF ∷ 0xFF ∷ 0x0F ∷ 0x5F ∷ 0x0B ∷ 0xAC ∷ 0x62 ∷ 0x42 ∷ 0xB5 ∷ 0x23 ∷ 0x7F ∷ []))) (replicate 6 9),
      called 0 [] [] (0 ∷ 2 ∷ 0 ∷ 2 ∷ 2 ∷ 4 ∷ []),
    )
    -- pito_envelope_write: pins payload_for, response_payload_of, bad_payload, envelope_write_of, writes_message, writer_call, is_signed, ..
    ∷ (envelope_write_of 0 (payload_for 0 2 0 9) [] [] (9 ∷ []), called 15 [] [] (0 ∷ []))
    ∷ (envelope_write_of 0 (payload_for 0 1 0 1) [] [] (9 ∷ []), called 15 [] [] (0 ∷ []))
    ∷ (envelope_write_of 0 (payload_for 0 3 0 19000) [] [] (9 ∷ []), called 15 [] [] (0 ∷ []))
    ∷ (envelope_write_of 0 (payload_for 0 0 0 0) (0x00 ∷ []) [] (9 ∷ 9 ∷ []), called 1 [] [] (9 ∷ 9 ∷ []))
    ∷ (envelope_write_of 0 (payload_for 0 2 0 3) [] (0xEE ∷ 0xEE ∷ []) (9 ∷ []), called 0 [] (0x1A ∷ 0x00 ∷ []) (2 ∷ []))
    ∷ (envelope_write_of 0 (payload_for 0 1 4294967297 0) [] (0xEE ∷ []) (9 ∷ []), called 15 [] (0xEE ∷ []) (0 ∷ []))
    ∷ (envelope_write_of 18446744071562067967 (payload_for 18446744071562067967 0 0 0) [] [] (9 ∷ []), called 15 [] [] (0 ∷ []))
    ∷ (
      envelope_write_of 0 (payload_for 0 1 255 19000) [] (replicate 9 0xEE) (9 ∷ []),
      called 0 [] (0x4A ∷ 0x07 ∷ 0x08 ∷ 0xFF ∷ 0x01 ∷ 0xC2 ∷ 0xA3 ∷ 0x09 ∷ 0x00 ∷ []) (9 ∷ []),
    )
    -- pito_response_read: pins response_read_of, skipped_at, response_row, is_member, other_fields, response_from
    ∷ (response_read_of (0x48 ∷ []) (replicate 4 9), called 30 [] [] (replicate 4 0))
    ∷ (response_read_of (0x1A ∷ 0x02 ∷ 0x00 ∷ 0x00 ∷ 0x78 ∷ 0x00 ∷ []) (replicate 4 9), called 0 [] [] (0 ∷ 3 ∷ 2 ∷ 2 ∷ []))
    ∷ (
      response_read_of (0x08 ∷ 0x00 ∷ 0x1A ∷ 0x03 ∷ 0x00 ∷ 0x00 ∷ 0x00 ∷ 0x15 ∷ 0x00 ∷ 0x00 ∷ 0x00 ∷ []) (replicate 4 9),
      called 30 [] [] (replicate 4 0),
    )
    -- pito_response_write: pins response_write_of, response_payload_of
    ∷ (response_write_of 0 0 [] [] (9 ∷ []), called 0 [] [] (0 ∷ []))
    ∷ (response_write_of 0 0 [] (0xEE ∷ []) [], called 1 [] (0xEE ∷ []) [])
    ∷ (response_write_of 0 8 [] (0xEE ∷ 0xEE ∷ []) (9 ∷ []), called 0 [] (0x42 ∷ 0x00 ∷ []) (2 ∷ []))
    ∷ (response_write_of 4294967296 0 [] [] (9 ∷ []), called 15 [] [] (0 ∷ []))
    -- pito_features_read: pins features_read_of, features_row, other_fields, head_of, fits_role, bad_tag, varint_from
    ∷ (features_read_of (0x09 ∷ []) (9 ∷ 9 ∷ []), called 33 [] [] (0 ∷ 0 ∷ []))
    ∷ (features_read_of (0x16 ∷ []) (9 ∷ 9 ∷ []), called 32 [] [] (0 ∷ 0 ∷ []))
    ∷ (features_read_of (0x3A ∷ 0x00 ∷ 0x3A ∷ []) (9 ∷ 9 ∷ []), called 30 [] [] (0 ∷ 0 ∷ []))
    ∷ (features_read_of (0x08 ∷ 0x90 ∷ 0x00 ∷ 0x35 ∷ (replicate 4 0x00)) (9 ∷ 9 ∷ []), called 0 [] [] (16 ∷ 0 ∷ []))
    ∷ (features_read_of (0x10 ∷ (replicate 9 0xFF ++ (0x00 ∷ []))) (9 ∷ 9 ∷ []), called 0 [] [] (0 ∷ 9223372036854775807 ∷ []))
    -- pito_features_write: pins features_write_of
    ∷ (features_write_of 0 0 [] (9 ∷ 9 ∷ []), called 1 [] [] (9 ∷ 9 ∷ []))
    ∷ (features_write_of 1 0 (0xEE ∷ 0xEE ∷ []) (9 ∷ []), called 0 [] (0x08 ∷ 0x01 ∷ []) (2 ∷ []))
    -- pito_information_read: pins parts_row, information_row, information_read_of, with_transport, fits_role, known_fields, is_repeated, ..
    ∷ (information_read_of (0x19 ∷ []) (replicate 17 9), called 33 [] [] (replicate 17 0))
    ∷ (information_read_of (0x1D ∷ []) (replicate 17 9), called 33 [] [] (replicate 17 0))
    ∷ (information_read_of (0x0A ∷ 0x01 ∷ 0xEF ∷ []) (replicate 17 9), called 36 [] [] (replicate 15 0 ++ (1 ∷ 0 ∷ [])))
    ∷ (information_read_of (0x7D ∷ (replicate 4 0x00)) (replicate 17 9), called 0 [] [] (replicate 17 0))
    ∷ (information_read_of (0xE2 ∷ 0x00 ∷ 0x04 ∷ (replicate 4 0x00 ++ (0xFA ∷ 0x00 ∷ []))) (replicate 17 9), called 30 [] [] (replicate 17 0))
    ∷ (
      information_read_of (0x0A ∷ 0x05 ∷ 0x00 ∷ 0x00 ∷ 0xEF ∷ 0xBF ∷ 0xBF ∷ 0x38 ∷ 0x00 ∷ []) (replicate 17 9),
      called 0 [] [] (2 ∷ 5 ∷ (replicate 15 0)),
    )
    ∷ (
      information_read_of (0x1A ∷ 0x08 ∷ (replicate 7 0x00 ++ (0x04 ∷ 0x4A ∷ 0x03 ∷ 0xEC ∷ 0xF3 ∷ 0xBF ∷ 0x18 ∷ 0x42 ∷ []))) (replicate 17 9),
      called 34 [] [] (replicate 17 0),
    )
    ∷ (
      information_read_of (0x1A ∷ 0x09 ∷ 0x1C ∷ 0x81 ∷ 0x00 ∷ 0x14 ∷ 0x5E ∷ 0x5E ∷ 0x1C ∷ 0x5E ∷ 0x5E ∷ 0x12 ∷ 0x03 ∷ 0xEF ∷ 0xBF ∷ 0xBF ∷ 0x31 ∷ 0x6F ∷ 0x7E ∷ 0xD8 ∷ 0x56 ∷ 0xA0 ∷ 0x43 ∷ 0x5E ∷ 0xD1 ∷ 0x1A ∷ 0xFF ∷ []) (replicate 17 9),
      called 30 [] [] (replicate 17 0),
    )
    ∷ (
      information_read_of (0x1A ∷ 0x11 ∷ 0x00 ∷ 0x00 ∷ 0x03 ∷ 0x00 ∷ (replicate 9 0xFF ++ (0x01 ∷ 0x04 ∷ 0x1C ∷ 0x1C ∷ 0x12 ∷ 0x01 ∷ 0x7F ∷ 0x22 ∷ 0x08 ∷ 0xF1 ∷ 0xBF ∷ 0xBF ∷ 0xBF ∷ 0xF1 ∷ 0xBF ∷ 0xBF ∷ 0xBF ∷ []))) (replicate 17 9),
      called 0 [] [] (0 ∷ 0 ∷ 21 ∷ 1 ∷ 24 ∷ 8 ∷ 8 ∷ 0 ∷ 0 ∷ 3 ∷ 0 ∷ 18446744073709551615 ∷ 4 ∷ 28 ∷ 28 ∷ 0 ∷ 0 ∷ []),
    )
    -- pito_information_write: pins information_write_of, information_fields, all_signed, answers, text_call
    ∷ (information_write_of [] [] [] [] (0xEE ∷ []) [], called 1 [] (0xEE ∷ []) [])
    ∷ (information_write_of [] [] [] (0 ∷ 2147483648 ∷ []) (0xEE ∷ []) (9 ∷ 9 ∷ 9 ∷ []), called 15 [] (0xEE ∷ []) (0 ∷ 0 ∷ 0 ∷ []))
    ∷ (
      information_write_of (0xED ∷ 0x9F ∷ 0xBF ∷ []) (0xF1 ∷ 0xBF ∷ 0xBF ∷ 0xBF ∷ []) (0xC2 ∷ 0x80 ∷ []) (128 ∷ []) (replicate 19 0xEE) (9 ∷ 9 ∷ 9 ∷ []),
      called 0 [] (0x0A ∷ 0x03 ∷ 0xED ∷ 0x9F ∷ 0xBF ∷ 0x12 ∷ 0x04 ∷ 0xF1 ∷ 0xBF ∷ 0xBF ∷ 0xBF ∷ 0x1A ∷ 0x02 ∷ 0x80 ∷ 0x01 ∷ 0x22 ∷ 0x02 ∷ 0xC2 ∷ 0x80 ∷ []) (19 ∷ 0 ∷ 0 ∷ []),
    )
    ∷ []

-- each call leaves what its row says
unfoldable pub MessageCalls : Type 0
MessageCalls = map (λ c. c.0) messages_rows ≡ map (λ c. c.1) messages_rows
