-- The extractor and the frame writers, called from C: what is left, and one table whose rows all hold.
use Rattle.std.specs.Prelude.{◌≡◌, List, [], ◌∷◌, ◌++◌, map, replicate}
use Rattle.c_classic.specs.Calls.{extractor_open_of, extractor_step_of, extractor_feed_of, next_sequence_of, frame_write_of}
use Rattle.c_classic_parts.specs.Calls.{frame_begin_of, frame_part_of}
use Rattle.c_rows.specs.Called.{Called, called}

unfoldable pub classic_rows : List (Called × Called)
classic_rows =
    -- pito_extractor_open: pins extractor_open_of, opened
    (extractor_open_of 0 (9 ∷ 9 ∷ 9 ∷ []), called 1 (9 ∷ 9 ∷ 9 ∷ []) [] [])
    ∷ (extractor_open_of 1 (replicate 4 9), called 0 (1 ∷ 0 ∷ 0 ∷ 0 ∷ []) [] [])
    ∷ (extractor_open_of 0 (replicate 4 9), called 17 (replicate 4 9) [] [])
    ∷ (extractor_open_of 65536 (replicate 4 9), called 17 (replicate 4 9) [] [])
    ∷ (extractor_open_of 0 (replicate 5 9), called 1 (replicate 5 9) [] [])
    -- pito_extractor_step: pins extractor_step_of, phase_of, step_row, reply_of, is_extractor, stepped, phase_number, ..
    ∷ (extractor_step_of (1 ∷ 0 ∷ 0 ∷ 0 ∷ []) (0x00 ∷ 0x00 ∷ 0x00 ∷ []) 0x00 [], called 1 (1 ∷ 0 ∷ 0 ∷ 0 ∷ []) (0x00 ∷ 0x00 ∷ 0x00 ∷ []) [])
    ∷ (extractor_step_of (2 ∷ []) (replicate 4 0x00) 0x00 (9 ∷ 9 ∷ 9 ∷ []), called 1 (2 ∷ []) (replicate 4 0x00) (9 ∷ 9 ∷ 9 ∷ []))
    ∷ (
      extractor_step_of (1 ∷ 1 ∷ 0 ∷ 0 ∷ []) (0x00 ∷ 0x00 ∷ 0x00 ∷ []) 0x00 (9 ∷ 9 ∷ 9 ∷ []),
      called 22 (1 ∷ 0 ∷ 0 ∷ 0 ∷ []) (0x00 ∷ 0x00 ∷ 0x00 ∷ []) (0 ∷ 0 ∷ 0 ∷ []),
    )
    ∷ (
      extractor_step_of (1 ∷ 0 ∷ 0 ∷ 0 ∷ []) (0x00 ∷ 0x00 ∷ 0x00 ∷ []) 0x00 (9 ∷ 9 ∷ 9 ∷ []),
      called 0 (1 ∷ 0 ∷ 0 ∷ 0 ∷ []) (0x00 ∷ 0x00 ∷ 0x00 ∷ []) (0 ∷ 0 ∷ 0 ∷ []),
    )
    ∷ (
      extractor_step_of (1 ∷ 1 ∷ 1 ∷ 0 ∷ []) (0x00 ∷ 0x00 ∷ 0x00 ∷ []) 0x00 (9 ∷ 9 ∷ 9 ∷ []),
      called 1 (1 ∷ 1 ∷ 1 ∷ 0 ∷ []) (0x00 ∷ 0x00 ∷ 0x00 ∷ []) (9 ∷ 9 ∷ 9 ∷ []),
    )
    ∷ (
      extractor_step_of (2 ∷ 2 ∷ 1 ∷ 0 ∷ []) (replicate 4 0x00) 0x00 (9 ∷ 9 ∷ 9 ∷ []),
      called 1 (2 ∷ 2 ∷ 1 ∷ 0 ∷ []) (replicate 4 0x00) (9 ∷ 9 ∷ 9 ∷ []),
    )
    ∷ (
      extractor_step_of (1 ∷ (replicate 4 0)) (0x00 ∷ 0x00 ∷ 0x00 ∷ []) 0x00 (9 ∷ 9 ∷ 9 ∷ []),
      called 1 (1 ∷ (replicate 4 0)) (0x00 ∷ 0x00 ∷ 0x00 ∷ []) (9 ∷ 9 ∷ 9 ∷ []),
    )
    ∷ (
      extractor_step_of (2 ∷ 4 ∷ 0 ∷ 0 ∷ []) (replicate 4 0x00) 0xF2 (9 ∷ 9 ∷ 9 ∷ []),
      called 0 (2 ∷ 5 ∷ 0 ∷ 0 ∷ []) (replicate 4 0x00) (1 ∷ 0 ∷ 0 ∷ []),
    )
    ∷ (
      extractor_step_of (2 ∷ 0 ∷ 0 ∷ 0 ∷ []) (replicate 4 0x00) 0x00 (replicate 4 9),
      called 1 (2 ∷ 0 ∷ 0 ∷ 0 ∷ []) (replicate 4 0x00) (replicate 4 9),
    )
    ∷ (
      extractor_step_of (2 ∷ 4 ∷ 255 ∷ 0 ∷ []) (replicate 4 0x00) 0x41 (9 ∷ 9 ∷ 9 ∷ []),
      called 0 (2 ∷ 4 ∷ 255 ∷ 1 ∷ []) (0x41 ∷ 0x00 ∷ 0x00 ∷ 0x00 ∷ []) (1 ∷ 0 ∷ 0 ∷ []),
    )
    ∷ (
      extractor_step_of (2 ∷ 4 ∷ 5 ∷ 3 ∷ []) (0xF1 ∷ 0x00 ∷ 0xF3 ∷ 0x00 ∷ []) 0xF1 (9 ∷ 9 ∷ 9 ∷ []),
      called 0 (2 ∷ 0 ∷ 0 ∷ 0 ∷ []) (0xF1 ∷ 0x00 ∷ 0xF3 ∷ 0x00 ∷ []) (2 ∷ 5 ∷ 1 ∷ []),
    )
    -- pito_extractor_feed: pins extractor_feed_of, phase_of, reply_of, is_extractor, feed_row, reply, none_used, ..
    ∷ (extractor_feed_of (replicate 4 0) [] [] [], called 1 (replicate 4 0) [] [])
    ∷ (extractor_feed_of (replicate 4 0) [] [] (replicate 4 9), called 1 (replicate 4 0) [] (replicate 4 0))
    ∷ (extractor_feed_of (replicate 4 0) [] [] (replicate 5 9), called 1 (replicate 4 0) [] (replicate 5 9))
    ∷ (
      extractor_feed_of (1 ∷ 3 ∷ 0 ∷ 0 ∷ []) (0x00 ∷ 0x00 ∷ 0x00 ∷ []) [] (replicate 4 9),
      called 0 (1 ∷ 3 ∷ 0 ∷ 0 ∷ []) (0x00 ∷ 0x00 ∷ 0x00 ∷ []) (replicate 4 0),
    )
    ∷ (
      extractor_feed_of (1 ∷ 5 ∷ 256 ∷ 0 ∷ []) (0x00 ∷ 0x00 ∷ 0x00 ∷ []) [] (replicate 4 9),
      called 1 (1 ∷ 5 ∷ 256 ∷ 0 ∷ []) (0x00 ∷ 0x00 ∷ 0x00 ∷ []) (replicate 4 0),
    )
    ∷ (extractor_feed_of (2 ∷ 6 ∷ 0 ∷ 0 ∷ []) (replicate 4 0x00) [] (replicate 4 9), called 1 (2 ∷ 6 ∷ 0 ∷ 0 ∷ []) (replicate 4 0x00) (replicate 4 0))
    ∷ (
      extractor_feed_of (1 ∷ 4 ∷ 7 ∷ 2 ∷ []) (0x00 ∷ 0x02 ∷ 0x00 ∷ []) (0xF1 ∷ []) (replicate 4 9),
      called 0 (1 ∷ 0 ∷ 0 ∷ 0 ∷ []) (0x00 ∷ 0x02 ∷ 0x00 ∷ []) (2 ∷ 1 ∷ 7 ∷ 0 ∷ []),
    )
    ∷ (extractor_feed_of (4 ∷ 2 ∷ 0 ∷ 0 ∷ []) (replicate 6 0x00) [] (replicate 4 9), called 0 (4 ∷ 2 ∷ 0 ∷ 0 ∷ []) (replicate 6 0x00) (replicate 4 0))
    ∷ (
      extractor_feed_of (2 ∷ 5 ∷ 0 ∷ 2 ∷ []) (replicate 4 0x00) (0x00 ∷ 0xF0 ∷ []) (replicate 4 9),
      called 20 (2 ∷ 1 ∷ 0 ∷ 0 ∷ []) (0x00 ∷ 0x00 ∷ 0xF2 ∷ 0x00 ∷ []) (0 ∷ 2 ∷ 0 ∷ 0 ∷ []),
    )
    ∷ (
      extractor_feed_of (1 ∷ 4 ∷ 0 ∷ 0 ∷ []) (0x00 ∷ 0x00 ∷ 0x00 ∷ []) (replicate 4 0x00) (replicate 4 9),
      called 24 (1 ∷ 0 ∷ 0 ∷ 0 ∷ []) (0x00 ∷ 0x00 ∷ 0x00 ∷ []) (0 ∷ 4 ∷ 0 ∷ 0 ∷ []),
    )
    -- pito_next_sequence: pins next_sequence_of, next_sequence
    ∷ (next_sequence_of 0x00 [], called 1 [] [] [])
    ∷ (next_sequence_of 0xEE (9 ∷ []), called 0 [] [] (239 ∷ []))
    ∷ (next_sequence_of 0x00 (9 ∷ 9 ∷ []), called 1 [] [] (9 ∷ 9 ∷ []))
    -- pito_frame_write: pins frame_write_of, byte_or, writer_call
    ∷ (frame_write_of 1 256 [] (0xEE ∷ []) (9 ∷ []), called 15 [] (0xEE ∷ []) (0 ∷ []))
    ∷ (frame_write_of 0 0x00 [] (0xEE ∷ []) (9 ∷ 9 ∷ []), called 1 [] (0xEE ∷ []) (9 ∷ 9 ∷ []))
    ∷ (frame_write_of 1 0x00 [] (replicate 7 0xEE) (9 ∷ []), called 0 [] (0xF0 ∷ 0x02 ∷ 0x00 ∷ 0x00 ∷ 0x00 ∷ 0x02 ∷ 0xF1 ∷ []) (7 ∷ []))
    -- pito_frame_begin: pins frame_begin_of, begun, begin_of, beginning, stage_number
    ∷ (frame_begin_of 0 0x00 0 (9 ∷ []), called 1 (9 ∷ []) [] [])
    ∷ (frame_begin_of 2 0x00 1 (replicate 7 9), called 0 (2 ∷ 0 ∷ 1 ∷ 0 ∷ 2 ∷ 0 ∷ 0 ∷ []) [] [])
    ∷ (frame_begin_of 0 0x00 0 (replicate 7 9), called 17 (replicate 7 9) [] [])
    ∷ (frame_begin_of 0 0x00 0 (replicate 8 9), called 1 (replicate 8 9) [] [])
    -- pito_frame_part: pins stage_of, is_state, frame_part_of, pending_of, state_row, state_of, reply, ..
    ∷ (frame_part_of (1 ∷ []) [] [] (9 ∷ 9 ∷ 9 ∷ []), called 1 (1 ∷ []) [] (9 ∷ 9 ∷ 9 ∷ []))
    ∷ (frame_part_of (1 ∷ (replicate 6 0)) [] [] [], called 1 (1 ∷ (replicate 6 0)) [] [])
    ∷ (frame_part_of (replicate 7 0) [] [] (9 ∷ 9 ∷ 9 ∷ []), called 1 (replicate 7 0) [] (9 ∷ 9 ∷ 9 ∷ []))
    ∷ (frame_part_of (1 ∷ (replicate 4 0 ++ (8 ∷ 0 ∷ []))) [] [] (9 ∷ 9 ∷ 9 ∷ []), called 1 (1 ∷ (replicate 4 0 ++ (8 ∷ 0 ∷ []))) [] (9 ∷ 9 ∷ 9 ∷ []))
    ∷ (frame_part_of (1 ∷ (replicate 6 0)) [] [] (9 ∷ 9 ∷ 9 ∷ []), called 14 (1 ∷ (replicate 6 0)) [] (0 ∷ 0 ∷ 0 ∷ []))
    ∷ (frame_part_of (1 ∷ 256 ∷ (replicate 5 0)) [] [] (9 ∷ 9 ∷ 9 ∷ []), called 1 (1 ∷ 256 ∷ (replicate 5 0)) [] (9 ∷ 9 ∷ 9 ∷ []))
    ∷ (frame_part_of (1 ∷ (replicate 6 0)) [] [] (replicate 4 9), called 1 (1 ∷ (replicate 6 0)) [] (replicate 4 9))
    ∷ (frame_part_of (1 ∷ (replicate 7 0)) [] [] (9 ∷ 9 ∷ 9 ∷ []), called 1 (1 ∷ (replicate 7 0)) [] (9 ∷ 9 ∷ 9 ∷ []))
    ∷ (
      frame_part_of (1 ∷ (replicate 5 0 ++ (4 ∷ []))) [] (0xEE ∷ []) (9 ∷ 9 ∷ 9 ∷ []),
      called 1 (1 ∷ (replicate 5 0 ++ (4 ∷ []))) (0xEE ∷ []) (9 ∷ 9 ∷ 9 ∷ []),
    )
    ∷ (
      frame_part_of (1 ∷ (replicate 4 0 ++ (7 ∷ 0 ∷ []))) [] (0xEE ∷ []) (9 ∷ 9 ∷ 9 ∷ []),
      called 0 (1 ∷ (replicate 4 0 ++ (7 ∷ 0 ∷ []))) (0xEE ∷ []) (0 ∷ 0 ∷ 1 ∷ []),
    )
    ∷ (
      frame_part_of (1 ∷ (replicate 4 0 ++ (1 ∷ 0 ∷ []))) [] (0xEE ∷ []) (9 ∷ 9 ∷ 9 ∷ []),
      called 0 (1 ∷ (replicate 4 0 ++ (2 ∷ 0 ∷ []))) (0x02 ∷ []) (0 ∷ 1 ∷ 0 ∷ []),
    )
    ∷ (
      frame_part_of (1 ∷ (replicate 4 0 ++ (5 ∷ 0 ∷ []))) [] (0xEE ∷ []) (9 ∷ 9 ∷ 9 ∷ []),
      called 0 (1 ∷ (replicate 4 0 ++ (6 ∷ 0 ∷ []))) (0x00 ∷ []) (0 ∷ 1 ∷ 0 ∷ []),
    )
    ∷ (frame_part_of (1 ∷ (replicate 5 0 ++ (2 ∷ []))) [] (0xEE ∷ []) (9 ∷ 9 ∷ 9 ∷ []), called 0 (1 ∷ (replicate 6 0)) (0x03 ∷ []) (0 ∷ 1 ∷ 0 ∷ []))
    ∷ (
      frame_part_of (1 ∷ (replicate 4 0 ++ (6 ∷ 0 ∷ []))) [] (0xEE ∷ []) (9 ∷ 9 ∷ 9 ∷ []),
      called 0 (1 ∷ (replicate 4 0 ++ (7 ∷ 0 ∷ []))) (0xF1 ∷ []) (0 ∷ 1 ∷ 1 ∷ []),
    )
    ∷ (
      frame_part_of (1 ∷ (replicate 6 0)) [] (0xEE ∷ []) (9 ∷ 9 ∷ 9 ∷ []),
      called 0 (1 ∷ (replicate 4 0 ++ (1 ∷ 0 ∷ []))) (0xF0 ∷ []) (0 ∷ 1 ∷ 0 ∷ []),
    )
    ∷ (frame_part_of (1 ∷ (replicate 5 0 ++ (3 ∷ []))) [] (0xEE ∷ []) (9 ∷ 9 ∷ 9 ∷ []), called 0 (1 ∷ (replicate 6 0)) (0x00 ∷ []) (0 ∷ 1 ∷ 0 ∷ []))
    ∷ (frame_part_of (1 ∷ 0 ∷ 0 ∷ 0 ∷ 65536 ∷ 0 ∷ 0 ∷ []) [] [] (9 ∷ 9 ∷ 9 ∷ []), called 1 (1 ∷ 0 ∷ 0 ∷ 0 ∷ 65536 ∷ 0 ∷ 0 ∷ []) [] (9 ∷ 9 ∷ 9 ∷ []))
    ∷ (
      frame_part_of (1 ∷ (replicate 4 0 ++ (2 ∷ 0 ∷ []))) [] (0xEE ∷ []) (9 ∷ 9 ∷ 9 ∷ []),
      called 0 (1 ∷ (replicate 4 0 ++ (3 ∷ 0 ∷ []))) (0x00 ∷ []) (0 ∷ 1 ∷ 0 ∷ []),
    )
    ∷ (
      frame_part_of (1 ∷ 0 ∷ 1 ∷ 0 ∷ 0 ∷ 4 ∷ 0 ∷ []) (0xF0 ∷ []) (0xEE ∷ []) (9 ∷ 9 ∷ 9 ∷ []),
      called 0 (1 ∷ 0 ∷ 1 ∷ 1 ∷ 240 ∷ 4 ∷ 1 ∷ []) (0xF2 ∷ []) (1 ∷ 1 ∷ 0 ∷ []),
    )
    ∷ (
      frame_part_of (4 ∷ 0 ∷ 4 ∷ 0 ∷ 0 ∷ 4 ∷ 1 ∷ []) (0x00 ∷ []) (0xEE ∷ 0xEE ∷ []) (9 ∷ 9 ∷ 9 ∷ []),
      called 0 (4 ∷ 0 ∷ 4 ∷ 1 ∷ 0 ∷ 4 ∷ 0 ∷ []) (0x02 ∷ 0x00 ∷ []) (1 ∷ 2 ∷ 0 ∷ []),
    )
    ∷ (
      frame_part_of (1 ∷ 0 ∷ 1 ∷ 0 ∷ 0 ∷ 3 ∷ 0 ∷ []) (0xF1 ∷ []) (0xEE ∷ 0xEE ∷ []) (9 ∷ 9 ∷ 9 ∷ []),
      called 0 (1 ∷ 0 ∷ 1 ∷ 1 ∷ 241 ∷ 4 ∷ 2 ∷ []) (0x00 ∷ 0xF2 ∷ []) (1 ∷ 2 ∷ 0 ∷ []),
    )
    ∷ (
      frame_part_of (4 ∷ 255 ∷ 2 ∷ 1 ∷ 65535 ∷ 4 ∷ 0 ∷ []) (0x02 ∷ []) (0xEE ∷ []) (9 ∷ 9 ∷ 9 ∷ []),
      called 0 (4 ∷ 255 ∷ 2 ∷ 2 ∷ 1 ∷ 4 ∷ 0 ∷ []) (0x02 ∷ []) (1 ∷ 1 ∷ 0 ∷ []),
    )
    ∷ (
      frame_part_of (3 ∷ 0 ∷ 3 ∷ 2 ∷ 268 ∷ 4 ∷ 0 ∷ []) (0xF3 ∷ []) (0xEE ∷ 0xEE ∷ 0xEE ∷ []) (9 ∷ 9 ∷ 9 ∷ []),
      called 0 (3 ∷ 0 ∷ 3 ∷ 3 ∷ 511 ∷ 6 ∷ 0 ∷ []) (0xF3 ∷ 0x01 ∷ 0xFF ∷ []) (1 ∷ 3 ∷ 0 ∷ []),
    )
    ∷ (
      frame_part_of (5 ∷ 0 ∷ 2 ∷ 2 ∷ 256 ∷ 4 ∷ 0 ∷ []) [] (replicate 4 0xEE) (9 ∷ 9 ∷ 9 ∷ []),
      called 0 (5 ∷ 0 ∷ 2 ∷ 2 ∷ 256 ∷ 7 ∷ 0 ∷ []) (0x01 ∷ 0x00 ∷ 0xF1 ∷ 0xEE ∷ []) (0 ∷ 3 ∷ 1 ∷ []),
    )
    ∷ (
      frame_part_of (2 ∷ 0 ∷ 2 ∷ 0 ∷ 0 ∷ 2 ∷ 0 ∷ []) (0x41 ∷ 0x42 ∷ []) (replicate 5 0xEE) (9 ∷ 9 ∷ 9 ∷ []),
      called 0 (2 ∷ 0 ∷ 2 ∷ 2 ∷ 131 ∷ 5 ∷ 0 ∷ []) (0x00 ∷ 0x00 ∷ 0x41 ∷ 0x42 ∷ 0x00 ∷ []) (2 ∷ 5 ∷ 0 ∷ []),
    )
    ∷ (
      frame_part_of (1 ∷ 0 ∷ 1 ∷ (replicate 4 0)) (0xF2 ∷ []) (replicate 5 0xEE) (9 ∷ 9 ∷ 9 ∷ []),
      called 0 (1 ∷ 0 ∷ 1 ∷ 1 ∷ 242 ∷ 4 ∷ 3 ∷ []) (0xF0 ∷ 0x02 ∷ 0x00 ∷ 0x00 ∷ 0xF2 ∷ []) (1 ∷ 5 ∷ 0 ∷ []),
    )
    ∷ []

-- each call leaves what its row says
unfoldable pub ClassicCalls : Type 0
ClassicCalls = map (λ c. c.0) classic_rows ≡ map (λ c. c.1) classic_rows
