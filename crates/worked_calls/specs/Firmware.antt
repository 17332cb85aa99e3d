-- Firmware messages and single fields, called from C: what is left, and one table whose rows all hold.
use Rattle.std.specs.Prelude.{◌≡◌, List, [], ◌∷◌, ◌++◌, map, replicate}
use Rattle.c_firmware.specs.Calls.{segment_read_of, segment_write_of, apply_read_of, apply_write_of, field_read_of}
use Rattle.c_rows.specs.Called.{Called, called}
use Rattle.wire.specs.Told.{given, refused}
use Rattle.proto_field.specs.Fields.{found_at, end}

unfoldable pub firmware_rows : List (Called × Called)
firmware_rows =
    -- pito_segment_read: pins segment_read_of, varint_from, segment_row, other_fields, more_bytes, last_byte, varint_at, ..
    (segment_read_of (0x0D ∷ []) (replicate 8 9), called 33 [] [] (replicate 8 0))
    ∷ (segment_read_of (0x52 ∷ 0x00 ∷ 0x42 ∷ []) (replicate 8 9), called 30 [] [] (replicate 8 0))
    ∷ (segment_read_of (0x4D ∷ (replicate 4 0x00)) (replicate 8 9), called 50 [] [] (replicate 6 0 ++ (4 ∷ 0 ∷ [])))
    ∷ (segment_read_of (replicate 9 0xFF ++ (0x02 ∷ [])) (replicate 8 9), called 31 [] [] (replicate 8 0))
    ∷ (
      segment_read_of (0x0A ∷ 0x01 ∷ 0x41 ∷ 0x18 ∷ 0xAC ∷ 0x02 ∷ 0x22 ∷ 0x40 ∷ (replicate 64 0x41)) (replicate 8 9),
      called 0 [] [] (2 ∷ 1 ∷ 0 ∷ 300 ∷ 8 ∷ 64 ∷ 0 ∷ 0 ∷ []),
    )
    -- pito_segment_write: pins segment_stored, segment_write_of, segment_fields
    ∷ (segment_write_of [] 0 0 [] (0xEE ∷ []) (replicate 4 9), called 1 [] (0xEE ∷ []) (replicate 4 9))
    ∷ (segment_write_of [] 0 4294967296 [] [] (9 ∷ 9 ∷ 9 ∷ []), called 15 [] [] (0 ∷ 0 ∷ 0 ∷ []))
    ∷ (segment_write_of [] 4294967296 0 [] (0xEE ∷ []) (9 ∷ 9 ∷ 9 ∷ []), called 15 [] (0xEE ∷ []) (0 ∷ 0 ∷ 0 ∷ []))
    ∷ (
      segment_write_of (0x41 ∷ []) 0 300 (replicate 64 0x41) (replicate 73 0xEE) (9 ∷ 9 ∷ 9 ∷ []),
      called 0 [] (0x0A ∷ 0x01 ∷ 0x41 ∷ 0x18 ∷ 0xAC ∷ 0x02 ∷ 0x22 ∷ 0x40 ∷ (replicate 64 0x41 ++ (0xEE ∷ []))) (72 ∷ 0 ∷ 0 ∷ []),
    )
    -- pito_apply_read: pins apply_row, apply_read_of, head_row, known_fields, other_fields, component_row, part_row, ..
    ∷ (apply_read_of (0x0A ∷ 0x08 ∷ 0x12 ∷ 0x01 ∷ 0x00 ∷ 0x1D ∷ (replicate 4 0x00)) (replicate 59 9), called 33 [] [] (replicate 59 0))
    ∷ (
      apply_read_of (0x0A ∷ 0x13 ∷ 0x1A ∷ 0x11 ∷ 0x18 ∷ (replicate 4 0x80 ++ (0x00 ∷ 0x51 ∷ (replicate 5 0x00 ++ (0x8B ∷ 0xDB ∷ 0xD7 ∷ 0x00 ∷ 0x04 ∷ []))))) (replicate 59 9),
      called 32 [] [] (replicate 59 0),
    )
    ∷ (
      apply_read_of (0x0A ∷ 0x13 ∷ 0x1A ∷ 0x0E ∷ 0x22 ∷ 0x01 ∷ 0x00 ∷ 0x18 ∷ (replicate 4 0x80 ++ (0xF8 ∷ (replicate 4 0xFF ++ (0x00 ∷ 0x12 ∷ 0x01 ∷ 0x00 ∷ []))))) (replicate 59 9),
      called 0 [] [] (0 ∷ 0 ∷ 20 ∷ 1 ∷ (replicate 4 0 ++ (1 ∷ 0 ∷ 0 ∷ 0 ∷ 2147483648 ∷ 6 ∷ 1 ∷ (replicate 44 0)))),
    )
    ∷ (
      apply_read_of (0x3A ∷ 0x03 ∷ 0x00 ∷ 0x00 ∷ 0xBF ∷ 0x0A ∷ 0x16 ∷ 0x1A ∷ 0x0C ∷ 0x12 ∷ 0x02 ∷ 0xC3 ∷ 0xA9 ∷ 0x18 ∷ 0x14 ∷ 0x08 ∷ (replicate 4 0x80 ++ (0x08 ∷ 0x2A ∷ 0x03 ∷ 0xC3 ∷ 0xA9 ∷ 0x00 ∷ 0x12 ∷ 0x01 ∷ 0x7F ∷ []))) (replicate 59 9),
      called 0 [] [] (0 ∷ 0 ∷ 28 ∷ 1 ∷ 0 ∷ 0 ∷ 23 ∷ 3 ∷ 1 ∷ 2147483648 ∷ 11 ∷ 2 ∷ 20 ∷ (replicate 46 0)),
    )
    ∷ (
      apply_read_of (0x0A ∷ 0x20 ∷ 0x2A ∷ 0x01 ∷ 0xC3 ∷ (replicate 15 0x00 ++ (0x01 ∷ 0x22 ∷ 0x06 ∷ 0xE2 ∷ 0x82 ∷ 0xAC ∷ 0xE0 ∷ 0xA0 ∷ 0x80 ∷ 0x22 ∷ 0x03 ∷ 0x80 ∷ 0xA0 ∷ 0x80 ∷ 0x2D ∷ 0x91 ∷ 0x23 ∷ 0x4C ∷ 0x22 ∷ []))) (replicate 59 9),
      called 36 [] [] (replicate 57 0 ++ (5 ∷ 0 ∷ [])),
    )
    -- a version after eight components
    ∷ (
      apply_read_of (0x0A ∷ 0x12 ∷ 0x1A ∷ 0x00 ∷ 0x1A ∷ 0x00 ∷ 0x1A ∷ 0x00 ∷ 0x1A ∷ 0x00 ∷ 0x1A ∷ 0x00 ∷ 0x1A ∷ 0x00 ∷ 0x1A ∷ 0x00 ∷ 0x1A ∷ 0x00 ∷ 0x08 ∷ 0x05 ∷ []) (replicate 59 9),
      called 0 [] [] (0 ∷ 5 ∷ (replicate 6 0 ++ (8 ∷ (replicate 50 0)))),
    )
    -- pito_apply_write: pins apply_write_of, bad_row, apply_at, apply_stored, bad_firmware, component_at, any_wide, ..
    ∷ (apply_write_of [] [] (0xEE ∷ []) (9 ∷ 9 ∷ 9 ∷ []), called 1 [] (0xEE ∷ []) (9 ∷ 9 ∷ 9 ∷ []))
    ∷ (apply_write_of (replicate 7 0 ++ (1 ∷ (replicate 49 0))) [] [] (9 ∷ 9 ∷ 9 ∷ []), called 15 [] [] (0 ∷ 0 ∷ 0 ∷ []))
    ∷ (apply_write_of (0 ∷ 0 ∷ 0 ∷ 1 ∷ (replicate 53 0)) [] [] (9 ∷ 9 ∷ 9 ∷ []), called 15 [] [] (0 ∷ 0 ∷ 0 ∷ []))
    ∷ (apply_write_of (2 ∷ (replicate 56 0)) [] [] (9 ∷ 9 ∷ 9 ∷ []), called 15 [] [] (0 ∷ 0 ∷ 0 ∷ []))
    ∷ (apply_write_of (replicate 5 0 ++ (1 ∷ (replicate 51 0))) [] [] (9 ∷ 9 ∷ 9 ∷ []), called 15 [] [] (0 ∷ 0 ∷ 0 ∷ []))
    ∷ (apply_write_of (replicate 57 0) (0x00 ∷ []) [] (replicate 4 9), called 1 [] [] (replicate 4 9))
    ∷ (apply_write_of (replicate 8 0 ++ (1 ∷ 4294967296 ∷ (replicate 47 0))) [] [] (9 ∷ 9 ∷ 9 ∷ []), called 15 [] [] (0 ∷ 0 ∷ 0 ∷ []))
    ∷ (
      apply_write_of (replicate 8 0 ++ (3 ∷ (replicate 15 0 ++ (4294967296 ∷ (replicate 32 0))))) [] (0xEE ∷ []) (9 ∷ 9 ∷ 9 ∷ []),
      called 15 [] (0xEE ∷ []) (0 ∷ 0 ∷ 0 ∷ []),
    )
    ∷ (apply_write_of (0 ∷ 18446744073709551615 ∷ (replicate 55 0)) [] [] (9 ∷ 9 ∷ 9 ∷ []), called 15 [] [] (0 ∷ 0 ∷ 0 ∷ []))
    ∷ (apply_write_of (replicate 58 0) [] (replicate 4 0xEE) (9 ∷ 9 ∷ 9 ∷ []), called 1 [] (replicate 4 0xEE) (9 ∷ 9 ∷ 9 ∷ []))
    ∷ (
      apply_write_of (replicate 5 0 ++ (1 ∷ 0 ∷ 1 ∷ (replicate 49 0))) (0xBF ∷ []) (replicate 4 0xEE) (9 ∷ 9 ∷ 9 ∷ []),
      called 36 [] (replicate 4 0xEE) (0 ∷ 4 ∷ 0 ∷ []),
    )
    ∷ (
      apply_write_of (0 ∷ 0 ∷ 0 ∷ 3 ∷ 1 ∷ 1 ∷ 0 ∷ 0 ∷ 8 ∷ (replicate 11 0 ++ (1 ∷ 37 ∷ 1 ∷ 2 ∷ 16 ∷ 2 ∷ 0 ∷ 38 ∷ 1 ∷ 0 ∷ 61 ∷ 3 ∷ 0 ∷ 1 ∷ 1 ∷ 2 ∷ 94 ∷ 3 ∷ 0 ∷ 64 ∷ 0 ∷ 1 ∷ 4294967295 ∷ 1 ∷ 2 ∷ 114 ∷ 2 ∷ 0 ∷ 58 ∷ 0 ∷ 1 ∷ 83 ∷ 0 ∷ 2 ∷ 113 ∷ 3 ∷ 0 ∷ []))) (0xEC ∷ 0xBF ∷ 0xBF ∷ []) (0xEE ∷ 0xEE ∷ 0xEE ∷ []) (9 ∷ 9 ∷ 9 ∷ []),
      called 36 [] (0xEE ∷ 0xEE ∷ 0xEE ∷ []) (0 ∷ 4 ∷ 0 ∷ []),
    )
    ∷ (
      apply_write_of (1 ∷ (replicate 7 0 ++ (2 ∷ 0 ∷ 0 ∷ 0 ∷ 127 ∷ (replicate 5 0 ++ (128 ∷ (replicate 38 0)))))) [] (replicate 13 0xEE) (9 ∷ 9 ∷ 9 ∷ []),
      called 0 [] (0x0A ∷ 0x09 ∷ 0x1A ∷ 0x02 ∷ 0x18 ∷ 0x7F ∷ 0x1A ∷ 0x03 ∷ 0x18 ∷ 0x80 ∷ 0x01 ∷ 0x10 ∷ 0x01 ∷ []) (13 ∷ 0 ∷ 0 ∷ []),
    )
    ∷ (
      apply_write_of (0 ∷ 2147483648 ∷ 0 ∷ 0 ∷ 0 ∷ 1 ∷ 0 ∷ 1 ∷ (replicate 49 0)) (0x00 ∷ []) (replicate 14 0xEE) (9 ∷ 9 ∷ 9 ∷ []),
      called 0 [] (0x0A ∷ 0x0C ∷ 0x08 ∷ (replicate 4 0x80 ++ (0x08 ∷ 0x22 ∷ 0x01 ∷ 0x00 ∷ 0x2A ∷ 0x01 ∷ 0x00 ∷ []))) (14 ∷ 0 ∷ 0 ∷ []),
    )
    ∷ (
      apply_write_of (replicate 8 0 ++ (8 ∷ (replicate 13 0 ++ (3 ∷ 0 ∷ 2147483648 ∷ 0 ∷ 0 ∷ 120 ∷ 2 ∷ 0 ∷ 72 ∷ 2 ∷ 0 ∷ 46 ∷ 0 ∷ 0 ∷ 7 ∷ 1 ∷ 1 ∷ 48 ∷ 2 ∷ 0 ∷ 119 ∷ 2 ∷ 0 ∷ 59 ∷ 2 ∷ 0 ∷ 57 ∷ 0 ∷ 1 ∷ 109 ∷ 0 ∷ 0 ∷ 19 ∷ 2 ∷ 0 ∷ [])))) (0xEE ∷ 0x42 ∷ []) (replicate 19 0xEE) (9 ∷ 9 ∷ 9 ∷ []),
      called 15 [] (replicate 19 0xEE) (0 ∷ 0 ∷ 0 ∷ []),
    )
    ∷ (
      apply_write_of (0 ∷ 54 ∷ 0 ∷ 1 ∷ 0 ∷ 1 ∷ 0 ∷ 0 ∷ 1 ∷ 89 ∷ 0 ∷ 0 ∷ 1 ∷ 0 ∷ 1 ∷ (replicate 42 0)) (0x42 ∷ []) (replicate 29 0xEE) (9 ∷ 9 ∷ 9 ∷ []),
      called 0 [] (0x0A ∷ 0x11 ∷ 0x08 ∷ 0x36 ∷ 0x12 ∷ 0x01 ∷ 0x42 ∷ 0x1A ∷ 0x07 ∷ 0x08 ∷ 0x59 ∷ 0x18 ∷ 0x01 ∷ 0x22 ∷ 0x01 ∷ 0x42 ∷ 0x22 ∷ 0x01 ∷ 0x42 ∷ (replicate 10 0xEE)) (19 ∷ 0 ∷ 0 ∷ []),
    )
    ∷ (
      apply_write_of (1 ∷ (replicate 7 0 ++ (3 ∷ (replicate 8 0 ++ (4 ∷ 0 ∷ 0 ∷ 1 ∷ 127 ∷ 14 ∷ 2 ∷ 128 ∷ 3 ∷ 3 ∷ (replicate 24 0 ++ (2147483648 ∷ 8 ∷ 1 ∷ 127 ∷ 7 ∷ 1 ∷ []))))))) (0xE2 ∷ 0x82 ∷ 0xAC ∷ 0xF4 ∷ 0x8F ∷ 0xE0 ∷ 0xBF ∷ 0x00 ∷ 0x7F ∷ 0xF3 ∷ 0x80 ∷ 0x80 ∷ 0x80 ∷ 0xEC ∷ 0xBF ∷ 0xBF ∷ []) (replicate 45 0xEE) (9 ∷ 9 ∷ 9 ∷ []),
      called 36 [] (replicate 45 0xEE) (0 ∷ 2 ∷ 3 ∷ []),
    )
    ∷ (
      apply_write_of (replicate 7 0 ++ (10 ∷ (replicate 49 0))) (0xBF ∷ 0x80 ∷ 0xE2 ∷ 0x82 ∷ 0xAC ∷ 0xE0 ∷ 0xA0 ∷ 0x80 ∷ 0xE2 ∷ 0x82 ∷ 0xAC ∷ []) (replicate 90 0xEE) (9 ∷ 9 ∷ 9 ∷ []),
      called 36 [] (replicate 90 0xEE) (0 ∷ 5 ∷ 0 ∷ []),
    )
    -- pito_field_read: pins value_at, field_read_of, found_at, standing_row, field_row, value_row, bad_tag, fixed_kind, ..
    ∷ (field_read_of (0x00 ∷ []) 1 (replicate 7 9), called 0 [] [] (replicate 7 0))
    ∷ (field_read_of (0x00 ∷ []) 0 (replicate 7 9), called 32 [] [] (replicate 7 0))
    ∷ (field_read_of (0x32 ∷ 0x00 ∷ []) 0 (replicate 7 9), called 0 [] [] (1 ∷ 6 ∷ 2 ∷ 0 ∷ 2 ∷ 0 ∷ 2 ∷ []))
    ∷ (field_read_of (0x48 ∷ 0x7F ∷ []) 0 (replicate 7 9), called 0 [] [] (1 ∷ 9 ∷ 0 ∷ 127 ∷ 0 ∷ 0 ∷ 2 ∷ []))
    ∷ (field_read_of (0x55 ∷ (replicate 4 0x00)) 0 (replicate 7 9), called 0 [] [] (1 ∷ 10 ∷ 5 ∷ 0 ∷ 1 ∷ 4 ∷ 5 ∷ []))
    ∷ (field_read_of (0x00 ∷ 0x81 ∷ 0x80 ∷ 0x80 ∷ 0x80 ∷ 0x10 ∷ []) 1 (replicate 7 9), called 32 [] [] (replicate 7 0))
    ∷ (field_read_of (0xE1 ∷ 0x12 ∷ (replicate 8 0x00)) 0 (replicate 7 9), called 0 [] [] (1 ∷ 300 ∷ 1 ∷ 0 ∷ 2 ∷ 8 ∷ 10 ∷ []))
    ∷ []

-- each call leaves what its row says; for a program a message's end stands behind its last byte, and not before
unfoldable pub FirmwareCalls : Type 0
FirmwareCalls =
    (map (λ c. c.0) firmware_rows ≡ map (λ c. c.1) firmware_rows) × (found_at [] 0 ≡ given end) × (found_at (0x08 ∷ []) 0 ≡ refused 30)
