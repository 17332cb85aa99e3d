-- The outbox, called from C: what is left, and one table whose rows all hold.
use Rattle.std.specs.Prelude.{◌≡◌, List, [], ◌∷◌, ◌++◌, map, replicate}
use Rattle.c_outbox.specs.Calls.{outbox_new_of, outbox_append_of, outbox_record_of, outbox_whole_of}
use Rattle.c_outbox_move.specs.Calls.{outbox_move_of}
use Rattle.outbox.specs.Format.{version_one, version_two}
use Rattle.c_rows.specs.Called.{Called, called}

unfoldable pub outbox_rows : List (Called × Called)
outbox_rows =
    -- pito_outbox_new: pins outbox_new_of, new_of, used_in
    (outbox_new_of [] (9 ∷ []), called 14 [] [] (0 ∷ []))
    ∷ (outbox_new_of (0x00 ∷ []) [], called 1 [] (0x00 ∷ []) [])
    -- pito_outbox_append: pins bytes_of, outbox_append_of, answers, cut_in, used_in, version_one
    ∷ (outbox_append_of [] 1 0 [] (9 ∷ 9 ∷ []), called 1 [] [] (9 ∷ 9 ∷ []))
    ∷ (outbox_append_of (0xEE ∷ []) 0 0 [] [], called 1 [] (0xEE ∷ []) [])
    ∷ (outbox_append_of (0x01 ∷ (replicate 4 0x00)) 5 0 [] (9 ∷ 9 ∷ []), called 14 [] (0x01 ∷ (replicate 4 0x00)) (0 ∷ 0 ∷ []))
    ∷ (
      outbox_append_of (0x01 ∷ 0x10 ∷ 0x01 ∷ (replicate 4 0x00)) 4 0 [] (9 ∷ 9 ∷ []),
      called 41 [] (0x01 ∷ 0x10 ∷ 0x01 ∷ (replicate 4 0x00)) (0 ∷ 1 ∷ []),
    )
    ∷ (
      outbox_append_of (replicate 260 0x01) 1 0 (replicate 254 0x07) (9 ∷ 9 ∷ []),
      called 0 [] (0x01 ∷ 0x00 ∷ 0xFF ∷ 0x00 ∷ (replicate 254 0x07 ++ (0x01 ∷ 0x01 ∷ []))) (258 ∷ 0 ∷ []),
    )
    ∷ (
      outbox_append_of (replicate 269 0x01) 1 2 (replicate 255 0x07) (9 ∷ 9 ∷ []),
      called 0 [] (0x01 ∷ 0x01 ∷ 0x00 ∷ 0x02 ∷ (replicate 255 0x07 ++ (replicate 10 0x01))) (259 ∷ 0 ∷ []),
    )
    -- pito_outbox_record: pins record_row, outbox_record_of, cut_place, version_one, number_in, other_version
    ∷ (outbox_record_of (0x01 ∷ []) 0 (replicate 6 9), called 15 [] [] (replicate 6 0))
    ∷ (outbox_record_of (0x01 ∷ []) 1 (replicate 6 9), called 0 [] [] (replicate 6 0))
    ∷ (outbox_record_of (0x00 ∷ []) 0 (replicate 6 9), called 40 [] [] (replicate 6 0))
    ∷ (outbox_record_of (0x01 ∷ 0x00 ∷ []) 1 (replicate 6 9), called 41 [] [] (replicate 5 0 ++ (1 ∷ [])))
    ∷ (outbox_record_of (0x01 ∷ 0x10 ∷ 0x02 ∷ []) 1 (replicate 6 9), called 42 [] [] (replicate 6 0))
    ∷ (outbox_record_of (0x01 ∷ 0x00 ∷ 0x02 ∷ 0x00 ∷ 0x00 ∷ []) 1 (replicate 6 9), called 0 [] [] (1 ∷ 0 ∷ 4 ∷ 1 ∷ 5 ∷ 0 ∷ []))
    -- pito_outbox_whole: pins outbox_whole_of, cut_in, whole_row, record_at
    ∷ (outbox_whole_of (0x01 ∷ 0x00 ∷ 0xA9 ∷ 0x01 ∷ []) (9 ∷ []), called 41 [] [] (1 ∷ []))
    -- pito_outbox_to_01, pito_outbox_to_02: pins outbox_move_of, moved_row, records_in, over_from, bytes_of
    ∷ (outbox_move_of version_one (0x02 ∷ []) [] (9 ∷ 9 ∷ []), called 14 [] [] (0 ∷ 0 ∷ []))
    ∷ (outbox_move_of version_one (0x01 ∷ 0x00 ∷ []) [] (9 ∷ 9 ∷ []), called 41 [] [] (0 ∷ 1 ∷ []))
    ∷ (outbox_move_of version_two (0x00 ∷ []) [] (9 ∷ 9 ∷ 9 ∷ []), called 1 [] [] (9 ∷ 9 ∷ 9 ∷ []))
    ∷ (
      outbox_move_of version_two (0x01 ∷ 0x00 ∷ 0x01 ∷ 0x00 ∷ 0x00 ∷ 0x03 ∷ 0x00 ∷ 0x00 ∷ 0x00 ∷ []) (replicate 13 0x00) (9 ∷ 9 ∷ []),
      called 0 [] (0x02 ∷ 0x00 ∷ 0x00 ∷ 0x00 ∷ 0x01 ∷ (replicate 4 0x00 ++ (0x03 ∷ 0x00 ∷ 0x00 ∷ 0x00 ∷ []))) (13 ∷ 0 ∷ []),
    )
    ∷ []

-- each call leaves what its row says
unfoldable pub OutboxCalls : Type 0
OutboxCalls = map (λ c. c.0) outbox_rows ≡ map (λ c. c.1) outbox_rows
