-- Why a capture is not lawful, called from C: what is left, and one table whose rows all hold.
use Rattle.std.specs.Prelude.{◌≡◌, List, [], ◌∷◌, ◌++◌, map, replicate}
use Rattle.c_judge.specs.Calls.{capture_why_of}
use Rattle.c_rows.specs.Called.{Called, called}

unfoldable pub whys_rows : List (Called × Called)
whys_rows =
    -- pito_capture_why: pins why_row, slot_row, came_row, expected_row, expect_in, packet_numbers, packet_in, ..
    (capture_why_of (0x01 ∷ []) 20 1 (replicate 30 9), called 1 [] [] (replicate 30 9))
    ∷ (capture_why_of (0x01 ∷ 0x00 ∷ []) 20 1 (replicate 31 9), called 41 [] [] (0 ∷ 1 ∷ replicate 29 0))
    ∷ (capture_why_of (0x01 ∷ []) 20 1 (replicate 31 9), called 0 [] [] (1 ∷ replicate 30 0))
    ∷ (capture_why_of (0x01 ∷ 0x00 ∷ 0x14 ∷ 0x01 ∷ 0x20 ∷ 0x00 ∷ 0x00 ∷ 0x14 ∷ 0x0E ∷ (replicate 14 0x07 ++ (0x00 ∷ 0x14 ∷ 0x24 ∷ 0x50 ∷ 0x00 ∷ 0x00 ∷ 0x15 ∷ 0x0E ∷ (replicate 14 0x07 ++ (0x00 ∷ 0x14 ∷ 0x67 ∷ 0x80 ∷ 0x00 ∷ 0x00 ∷ 0x16 ∷ 0x0E ∷ (replicate 14 0x07)))))) 20 22 (replicate 31 9), called 0 [] [] (2 ∷ 0 ∷ 1 ∷ 1 ∷ 6 ∷ 3 ∷ 1 ∷ 4 ∷ 7 ∷ 6 ∷ 1 ∷ 7 ∷ 8 ∷ 9 ∷ replicate 17 0))
    ∷ (capture_why_of (0x01 ∷ 0x00 ∷ 0x14 ∷ 0x01 ∷ 0x20 ∷ 0x00 ∷ 0x00 ∷ 0x14 ∷ 0x0E ∷ (replicate 14 0x07 ++ (0x00 ∷ 0x14 ∷ 0x24 ∷ 0x50 ∷ 0x00 ∷ 0x00 ∷ 0x15 ∷ 0x0E ∷ (replicate 14 0x07 ++ (0x00 ∷ 0x14 ∷ 0x67 ∷ 0x80 ∷ 0x00 ∷ 0x00 ∷ 0x16 ∷ 0x0E ∷ (replicate 14 0x07 ++ (0x00 ∷ 0x0A ∷ 0x6A ∷ 0xBA ∷ 0x07 ∷ (replicate 7 0x07 ++ (0x00 ∷ 0x06 ∷ 0x61 ∷ 0x0E ∷ 0x00 ∷ 0x02 ∷ 0x01 ∷ 0x00 ∷ []))))))))) 20 22 (replicate 31 9), called 0 [] [] (3 ∷ 67 ∷ 1 ∷ 1 ∷ 6 ∷ 3 ∷ 1 ∷ 4 ∷ 7 ∷ 6 ∷ 1 ∷ 7 ∷ 8 ∷ 9 ∷ 0 ∷ 10 ∷ 6 ∷ 10 ∷ 11 ∷ 2 ∷ 1 ∷ 0 ∷ 0 ∷ 7 ∷ 3 ∷ 7 ∷ 9 ∷ 2 ∷ 8 ∷ 0 ∷ 1 ∷ []))
    ∷ (capture_why_of (0x01 ∷ 0x00 ∷ 0x13 ∷ 0x23 ∷ 0xF0 ∷ 0x00 ∷ 0x00 ∷ 0x14 ∷ 0x0D ∷ (replicate 13 0x07)) 20 20 (replicate 31 9), called 0 [] [] (3 ∷ 1 ∷ 0 ∷ 0 ∷ 0 ∷ 0 ∷ 0 ∷ 0 ∷ 0 ∷ 0 ∷ 0 ∷ 0 ∷ 0 ∷ 0 ∷ 0 ∷ 19 ∷ 2 ∷ 3 ∷ 15 ∷ 0 ∷ 0 ∷ 0 ∷ 20 ∷ 13 ∷ 2 ∷ 0 ∷ 0 ∷ 0 ∷ 14 ∷ 0 ∷ 0 ∷ []))
    ∷ (capture_why_of (0x01 ∷ 0x00 ∷ 0x05 ∷ 0x05 ∷ 0x14 ∷ 0x02 ∷ 0x07 ∷ 0x07 ∷ []) 20 20 (replicate 31 9), called 0 [] [] (3 ∷ 1 ∷ 0 ∷ 0 ∷ 0 ∷ 0 ∷ 0 ∷ 0 ∷ 0 ∷ 0 ∷ 0 ∷ 0 ∷ 0 ∷ 0 ∷ 0 ∷ 5 ∷ 0 ∷ 5 ∷ 1 ∷ 1 ∷ 0 ∷ 0 ∷ 0 ∷ 2 ∷ 1 ∷ 0 ∷ 0 ∷ 0 ∷ 0 ∷ 0 ∷ 0 ∷ []))
    ∷ (capture_why_of (0x01 ∷ 0x00 ∷ 0x03 ∷ 0x17 ∷ 0x2D ∷ 0x07 ∷ []) 20 20 (replicate 31 9), called 0 [] [] (3 ∷ 1 ∷ 0 ∷ 0 ∷ 0 ∷ 0 ∷ 0 ∷ 0 ∷ 0 ∷ 0 ∷ 0 ∷ 0 ∷ 0 ∷ 0 ∷ 3 ∷ 3 ∷ 1 ∷ 7 ∷ 2 ∷ 3 ∷ 0 ∷ 1 ∷ 0 ∷ 0 ∷ 0 ∷ 0 ∷ 0 ∷ 0 ∷ 0 ∷ 0 ∷ 0 ∷ []))
    ∷ (capture_why_of (0x01 ∷ 0x00 ∷ 0x01 ∷ 0x61 ∷ []) 20 20 (replicate 31 9), called 0 [] [] (3 ∷ 1 ∷ 0 ∷ 0 ∷ 0 ∷ 0 ∷ 0 ∷ 0 ∷ 0 ∷ 0 ∷ 0 ∷ 0 ∷ 0 ∷ 0 ∷ 2 ∷ 1 ∷ 6 ∷ 1 ∷ 0 ∷ 0 ∷ 0 ∷ 0 ∷ 0 ∷ 0 ∷ 1 ∷ 0 ∷ 0 ∷ 0 ∷ 0 ∷ 0 ∷ 0 ∷ []))
    ∷ (capture_why_of (0x01 ∷ 0x01 ∷ 0x05 ∷ 0x61 ∷ 0x00 ∷ 0x00 ∷ 0x01 ∷ 0x2C ∷ 0xFF ∷ (replicate 255 0x07)) 263 300 (replicate 31 9), called 0 [] [] (3 ∷ 1 ∷ 0 ∷ 0 ∷ 0 ∷ 0 ∷ 0 ∷ 0 ∷ 0 ∷ 0 ∷ 0 ∷ 0 ∷ 0 ∷ 0 ∷ 0 ∷ 261 ∷ 6 ∷ 1 ∷ 0 ∷ 0 ∷ 0 ∷ 0 ∷ 300 ∷ 255 ∷ 2 ∷ 0 ∷ 0 ∷ 0 ∷ 256 ∷ 1 ∷ 0 ∷ []))
    ∷ (capture_why_of (0x01 ∷ 0x00 ∷ 0x07 ∷ 0x6F ∷ 0x00 ∷ 0x00 ∷ 0x00 ∷ 0x01 ∷ 0x02 ∷ 0x07 ∷ []) 20 20 (replicate 31 9), called 0 [] [] (3 ∷ 1 ∷ 0 ∷ 0 ∷ 0 ∷ 0 ∷ 0 ∷ 0 ∷ 0 ∷ 0 ∷ 0 ∷ 0 ∷ 0 ∷ 0 ∷ 5 ∷ 7 ∷ 6 ∷ 15 ∷ 0 ∷ 0 ∷ 0 ∷ 0 ∷ 0 ∷ 0 ∷ 1 ∷ 0 ∷ 0 ∷ 0 ∷ 0 ∷ 0 ∷ 0 ∷ []))
    ∷ (capture_why_of (0x01 ∷ 0x00 ∷ 0x0A ∷ 0x01 ∷ 0x00 ∷ 0x00 ∷ 0x00 ∷ 0x05 ∷ 0x04 ∷ (replicate 4 0x07)) 20 20 (replicate 31 9), called 0 [] [] (3 ∷ 1 ∷ 0 ∷ 0 ∷ 0 ∷ 0 ∷ 0 ∷ 0 ∷ 0 ∷ 0 ∷ 0 ∷ 0 ∷ 0 ∷ 0 ∷ 0 ∷ 10 ∷ 0 ∷ 1 ∷ 0 ∷ 0 ∷ 0 ∷ 0 ∷ 5 ∷ 4 ∷ 2 ∷ 0 ∷ 0 ∷ 0 ∷ 5 ∷ 0 ∷ 1 ∷ []))
    ∷ (capture_why_of (0x01 ∷ 0x00 ∷ 0x14 ∷ 0x01 ∷ 0x20 ∷ 0x00 ∷ 0x00 ∷ 0x14 ∷ 0x0E ∷ (replicate 14 0x07 ++ (0x00 ∷ 0x14 ∷ 0x24 ∷ 0x50 ∷ 0x00 ∷ 0x00 ∷ 0x15 ∷ 0x0E ∷ (replicate 14 0x07 ++ (0x00 ∷ 0x14 ∷ 0x67 ∷ 0x80 ∷ 0x00 ∷ 0x00 ∷ 0x16 ∷ 0x0E ∷ (replicate 14 0x07 ++ (0x00 ∷ 0x09 ∷ 0x2A ∷ 0xBA ∷ 0x06 ∷ (replicate 6 0x07)))))))) 20 22 (replicate 31 9), called 0 [] [] (3 ∷ 67 ∷ 1 ∷ 1 ∷ 6 ∷ 3 ∷ 1 ∷ 4 ∷ 7 ∷ 6 ∷ 1 ∷ 7 ∷ 8 ∷ 9 ∷ 0 ∷ 9 ∷ 2 ∷ 10 ∷ 11 ∷ 2 ∷ 1 ∷ 0 ∷ 0 ∷ 6 ∷ 3 ∷ 4 ∷ 6 ∷ 2 ∷ 7 ∷ 0 ∷ 1 ∷ []))
    -- a first packet where one is open; one that is refused there; other refusals, and an empty message with the extender
    ∷ (capture_why_of (0x01 ∷ 0x00 ∷ 0x14 ∷ 0x01 ∷ 0x20 ∷ 0x00 ∷ 0x00 ∷ 0x14 ∷ 0x0E ∷ (replicate 14 0x07 ++ (0x00 ∷ 0x07 ∷ 0x02 ∷ 0x30 ∷ 0x00 ∷ 0x00 ∷ 0x14 ∷ 0x01 ∷ 0x07 ∷ []))) 20 20 (replicate 31 9), called 0 [] [] (3 ∷ 23 ∷ 1 ∷ 1 ∷ 6 ∷ 3 ∷ 0 ∷ 0 ∷ 0 ∷ 0 ∷ 0 ∷ 0 ∷ 0 ∷ 0 ∷ 0 ∷ 7 ∷ 0 ∷ 2 ∷ 3 ∷ 0 ∷ 0 ∷ 0 ∷ 20 ∷ 1 ∷ 3 ∷ 1 ∷ 3 ∷ 2 ∷ 6 ∷ 0 ∷ 1 ∷ []))
    ∷ (capture_why_of (0x01 ∷ 0x00 ∷ 0x14 ∷ 0x01 ∷ 0x20 ∷ 0x00 ∷ 0x00 ∷ 0x14 ∷ 0x0E ∷ (replicate 14 0x07 ++ (0x00 ∷ 0x07 ∷ 0x02 ∷ 0x30 ∷ 0x00 ∷ 0x00 ∷ 0x15 ∷ 0x01 ∷ 0x07 ∷ []))) 20 20 (replicate 31 9), called 0 [] [] (3 ∷ 23 ∷ 1 ∷ 1 ∷ 6 ∷ 3 ∷ 0 ∷ 0 ∷ 0 ∷ 0 ∷ 0 ∷ 0 ∷ 0 ∷ 0 ∷ 6 ∷ 7 ∷ 0 ∷ 2 ∷ 3 ∷ 0 ∷ 0 ∷ 0 ∷ 0 ∷ 0 ∷ 3 ∷ 1 ∷ 3 ∷ 2 ∷ 6 ∷ 0 ∷ 1 ∷ []))
    ∷ (capture_why_of (0x01 ∷ 0x00 ∷ 0x06 ∷ 0x61 ∷ 0x7E ∷ 0x00 ∷ 0x02 ∷ 0x01 ∷ 0x03 ∷ []) 20 20 (replicate 31 9), called 0 [] [] (3 ∷ 1 ∷ 0 ∷ 0 ∷ 0 ∷ 0 ∷ 0 ∷ 0 ∷ 0 ∷ 0 ∷ 0 ∷ 0 ∷ 0 ∷ 0 ∷ 12 ∷ 6 ∷ 6 ∷ 1 ∷ 7 ∷ 3 ∷ 1 ∷ 0 ∷ 0 ∷ 0 ∷ 1 ∷ 0 ∷ 0 ∷ 0 ∷ 0 ∷ 0 ∷ 0 ∷ []))
    ∷ (capture_why_of (0x01 ∷ 0x00 ∷ 0x07 ∷ 0x61 ∷ 0x00 ∷ 0x01 ∷ 0x00 ∷ 0x01 ∷ 0x01 ∷ 0x07 ∷ []) 20 20 (replicate 31 9), called 0 [] [] (3 ∷ 1 ∷ 0 ∷ 0 ∷ 0 ∷ 0 ∷ 0 ∷ 0 ∷ 0 ∷ 0 ∷ 0 ∷ 0 ∷ 0 ∷ 0 ∷ 4 ∷ 7 ∷ 6 ∷ 1 ∷ 0 ∷ 0 ∷ 0 ∷ 0 ∷ 0 ∷ 0 ∷ 1 ∷ 0 ∷ 0 ∷ 0 ∷ 0 ∷ 0 ∷ 0 ∷ []))
    ∷ (capture_why_of (0x01 ∷ 0x00 ∷ 0x03 ∷ 0x61 ∷ 0x14 ∷ 0x00 ∷ []) 20 20 (replicate 31 9), called 0 [] [] (3 ∷ 1 ∷ 0 ∷ 0 ∷ 0 ∷ 0 ∷ 0 ∷ 0 ∷ 0 ∷ 0 ∷ 0 ∷ 0 ∷ 0 ∷ 0 ∷ 7 ∷ 3 ∷ 6 ∷ 1 ∷ 1 ∷ 1 ∷ 0 ∷ 0 ∷ 0 ∷ 0 ∷ 1 ∷ 0 ∷ 0 ∷ 0 ∷ 0 ∷ 0 ∷ 0 ∷ []))
    ∷ (capture_why_of (0x01 ∷ 0x00 ∷ 0x08 ∷ 0x61 ∷ 0x00 ∷ 0x00 ∷ 0x00 ∷ 0x01 ∷ 0x02 ∷ 0x07 ∷ 0x07 ∷ []) 20 20 (replicate 31 9), called 0 [] [] (3 ∷ 1 ∷ 0 ∷ 0 ∷ 0 ∷ 0 ∷ 0 ∷ 0 ∷ 0 ∷ 0 ∷ 0 ∷ 0 ∷ 0 ∷ 0 ∷ 8 ∷ 8 ∷ 6 ∷ 1 ∷ 0 ∷ 0 ∷ 0 ∷ 0 ∷ 0 ∷ 0 ∷ 1 ∷ 0 ∷ 0 ∷ 0 ∷ 0 ∷ 0 ∷ 0 ∷ []))
    ∷ (capture_why_of (0x01 ∷ 0x00 ∷ 0x07 ∷ 0x61 ∷ 0x01 ∷ 0x00 ∷ 0x00 ∷ 0x00 ∷ 0x00 ∷ 0x00 ∷ []) 20 20 (replicate 31 9), called 0 [] [] (3 ∷ 1 ∷ 0 ∷ 0 ∷ 0 ∷ 0 ∷ 0 ∷ 0 ∷ 0 ∷ 0 ∷ 0 ∷ 0 ∷ 0 ∷ 0 ∷ 0 ∷ 7 ∷ 6 ∷ 1 ∷ 0 ∷ 0 ∷ 0 ∷ 1 ∷ 0 ∷ 0 ∷ 2 ∷ 0 ∷ 0 ∷ 0 ∷ 0 ∷ 0 ∷ 1 ∷ []))
    ∷ []

-- each call leaves what its row says
unfoldable pub WhyCalls : Type 0
WhyCalls = map (λ c. c.0) whys_rows ≡ map (λ c. c.1) whys_rows
