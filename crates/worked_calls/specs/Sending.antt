-- A receiver opened, packets and ACKs written, called from C: what is left, and one table whose rows all hold.
use Rattle.std.specs.Prelude.{◌≡◌, List, [], ◌∷◌, ◌++◌, map, replicate, Ok, Err, Some, None}
use Rattle.c_receiving.specs.Calls.{receiver_open_of}
use Rattle.c_sending.specs.Calls.{packet_write_of, ack_write_of}
use Rattle.c_sending.specs.Convert.{sending_of}
use Rattle.c_rows.specs.Called.{Called, called}
use Rattle.wire.specs.Told.{given, refused}
use Rattle.ble_sender.specs.declared.writer.Refusal.TheVariants.{Room, Limit, Argument, Output}
use Rattle.ble_sender.specs.Writer.{more, last, told}

unfoldable pub sending_rows : List (Called × Called)
sending_rows =
    -- pito_receiver_open: pins receiver_open_of, opened, state_row
    (receiver_open_of 0 [], called 1 [] [] [])
    ∷ (receiver_open_of 1 (9 ∷ []), called 0 (1 ∷ []) [] [])
    ∷ (receiver_open_of 0 (9 ∷ []), called 17 (9 ∷ []) [] [])
    ∷ (receiver_open_of 65536 (9 ∷ []), called 17 (9 ∷ []) [] [])
    ∷ (receiver_open_of 0 (9 ∷ 9 ∷ []), called 1 (9 ∷ 9 ∷ []) [] [])
    -- pito_packet_write: pins packet_row, sending_of, lines, packet_write_of, packet_call, arguments_fit, pair_bytes, ..
    ∷ (packet_write_of 0 (sending_of 0 0 0 0 0) [] 0 (0xEE ∷ []) [], called 1 [] (0xEE ∷ []) [])
    ∷ (packet_write_of 1 (sending_of 21 0 0 16 0) [] 0 [] (9 ∷ 9 ∷ []), called 15 [] [] (0 ∷ 0 ∷ []))
    ∷ (packet_write_of 1 (sending_of 22 0 16 0 0) [] 0 [] (9 ∷ 9 ∷ []), called 15 [] [] (0 ∷ 0 ∷ []))
    ∷ (
      packet_write_of 1 (sending_of 21 0 0 0 0) [] 0 (replicate 20 0xEE) (9 ∷ 9 ∷ []),
      record { number = 14; state = []; lent = replicate 20 0xEE; answer = 0 ∷ 0 ∷ [] },
    )
    ∷ (
      packet_write_of 15 (sending_of 20 0 0 0 0) (replicate 11 0x00 ++ (0x0C ∷ 0x0D ∷ 0x0E ∷ 0x0F ∷ [])) 0 (replicate 20 0xEE) (9 ∷ 9 ∷ []),
      called 0 [] (replicate 4 0x00 ++ (0x0F ∷ 0x0E ∷ (replicate 11 0x00 ++ (0x0C ∷ 0x0D ∷ 0x0E ∷ [])))) (20 ∷ 14 ∷ []),
    )
    ∷ (
      packet_write_of 700 (sending_of 20 0 0 0 0) (replicate 8 0x00 ++ (0x09 ∷ 0x0A ∷ 0x0B ∷ 0x0C ∷ 0x0D ∷ 0x0E ∷ 0x0F ∷ [])) 4 (replicate 20 0xEE) (9 ∷ 9 ∷ []),
      called 15 [] (replicate 20 0xEE) (0 ∷ 0 ∷ []),
    )
    ∷ (
      packet_write_of 401 (sending_of 20 0 15 0 0) (replicate 400 0x41) 388 (replicate 20 0xEE) (9 ∷ 9 ∷ []),
      called 0 [] (0x0F ∷ 0x78 ∷ 0x0C ∷ (replicate 12 0x41 ++ (replicate 5 0xEE))) (15 ∷ 400 ∷ []),
    )
    ∷ (
      packet_write_of 257 (sending_of 258 6 0 5 1) (replicate 257 0x41) 252 (replicate 259 0xEE) (9 ∷ 9 ∷ []),
      called 0 [] (0x60 ∷ 0x6A ∷ 0x05 ∷ (replicate 5 0x41 ++ (replicate 251 0xEE))) (8 ∷ 257 ∷ []),
    )
    ∷ (
      packet_write_of 255 (sending_of 261 0 15 1 0) (replicate 255 0x41) 0 (replicate 262 0xEE) (9 ∷ 9 ∷ []),
      called 0 [] (0x0F ∷ 0x10 ∷ 0x00 ∷ 0x00 ∷ 0xFF ∷ 0xFF ∷ (replicate 255 0x41 ++ (0xEE ∷ []))) (261 ∷ 255 ∷ []),
    )
    -- pito_ack_write: pins ack_write_of, ack_of, stream_with, writer_call, in_range
    ∷ (ack_write_of 0 0 0 2 [] (9 ∷ []), called 15 [] [] (0 ∷ []))
    ∷ (ack_write_of 0 0 16 0 [] (9 ∷ []), called 15 [] [] (0 ∷ []))
    ∷ (ack_write_of 0 16 0 0 [] (9 ∷ []), called 15 [] [] (0 ∷ []))
    ∷ (ack_write_of 5 0 0 0 [] (9 ∷ []), called 15 [] [] (0 ∷ []))
    ∷ (ack_write_of 0 0 0 0 (0xEE ∷ []) [], called 1 [] (0xEE ∷ []) [])
    ∷ (ack_write_of 2 0 0 0 (replicate 7 0xEE) (9 ∷ []), called 0 [] (0x20 ∷ 0x0C ∷ 0x00 ∷ 0x02 ∷ 0x01 ∷ 0x03 ∷ 0xEE ∷ []) (6 ∷ []))
    ∷ (ack_write_of 0 15 3 1 (replicate 6 0xEE) (9 ∷ []), called 0 [] (0x0F ∷ 0x3E ∷ 0x00 ∷ 0x02 ∷ 0x01 ∷ 0x00 ∷ []) (6 ∷ []))
    ∷ []

-- each call leaves what its row says; the writer's answers, which the program check_links takes apart, tell this
unfoldable pub SendingCalls : Type 0
SendingCalls =
    (map (λ c. c.0) sending_rows ≡ map (λ c. c.1) sending_rows)
    × (map told (Ok (record { length = 1; next = Some 2 }) ∷ Ok (record { length = 1; next = None }) ∷ Err Room ∷ Err Limit ∷ Err Argument ∷ Err Output ∷ [])
    ≡ given (more 1 2) ∷ given (last 1) ∷ refused 13 ∷ refused 17 ∷ refused 15 ∷ refused 14 ∷ [])
