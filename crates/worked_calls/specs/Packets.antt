-- One packet read, at the front of some bytes and at a place of a capture, called from C: what is left, and one table whose rows all hold.
use Rattle.std.specs.Prelude.{ℕ, ◌≡◌, List, [], ◌∷◌, map, replicate}
use Rattle.c_packets.specs.Calls.{packet_read_of, capture_packet_of}
use Rattle.c_rows.specs.Called.{Called, called}

-- two packets, of two bytes and of one
abbrev two_packets : List ℕ
two_packets = 0x01 ∷ 0x00 ∷ 0x02 ∷ 0xFF ∷ 0xFF ∷ 0x00 ∷ 0x01 ∷ 0x63 ∷ []

unfoldable pub packets_rows : List (Called × Called)
packets_rows =
    -- pito_packet_read: pins head_row, packet_row, front_row, packet_read_of, said_by, said_length, end_of, front_of
    (packet_read_of (0x61 ∷ 0x0E ∷ 0x00 ∷ 0x02 ∷ 0x01 ∷ 0x00 ∷ []) 1 (replicate 9 9), called 1 [] [] (replicate 9 9))
    ∷ (packet_read_of (0x61 ∷ 0x0E ∷ 0x00 ∷ 0x02 ∷ 0x01 ∷ 0x00 ∷ []) 1 (replicate 11 9), called 1 [] [] (replicate 11 9))
    -- a first packet and what follows it, at its total
    ∷ (
      packet_read_of (0x6F ∷ 0x52 ∷ 0x00 ∷ 0x01 ∷ 0x02 ∷ 0x02 ∷ 0x07 ∷ 0x07 ∷ 0x61 ∷ 0x00 ∷ []) 258 (replicate 10 9),
      called 0 [] [] (8 ∷ 6 ∷ 15 ∷ 5 ∷ 0 ∷ 1 ∷ 0 ∷ 258 ∷ 6 ∷ 2 ∷ []),
    )
    ∷ (
      packet_read_of (0x6F ∷ 0x52 ∷ 0x00 ∷ 0x01 ∷ 0x02 ∷ 0x02 ∷ 0x07 ∷ 0x07 ∷ 0x61 ∷ 0x00 ∷ []) 257 (replicate 10 9),
      called 6 [] [] (replicate 10 0),
    )
    -- its length in two bytes, and a limit that is no link's
    ∷ (
      packet_read_of (0x21 ∷ 0xF1 ∷ 0x00 ∷ 0x01 ∷ 0x00 ∷ 0x01 ∷ 0x00 ∷ replicate 256 0x07) 4294967296 (replicate 10 9),
      called 0 [] [] (263 ∷ 2 ∷ 1 ∷ 15 ∷ 0 ∷ 0 ∷ 1 ∷ 256 ∷ 7 ∷ 256 ∷ []),
    )
    -- a continuation that asks for an ACK, and a last packet with a length in two bytes that does not
    ∷ (
      packet_read_of (0x03 ∷ 0x16 ∷ 0x05 ∷ replicate 6 0x07) 0 (replicate 10 9),
      called 0 [] [] (8 ∷ 0 ∷ 3 ∷ 1 ∷ 1 ∷ 1 ∷ 0 ∷ 0 ∷ 3 ∷ 5 ∷ []),
    )
    ∷ (
      packet_read_of (0x62 ∷ 0x29 ∷ 0x00 ∷ 0x02 ∷ 0x07 ∷ 0x07 ∷ []) 0 (replicate 10 9),
      called 0 [] [] (6 ∷ 6 ∷ 2 ∷ 2 ∷ 2 ∷ 0 ∷ 1 ∷ 0 ∷ 4 ∷ 2 ∷ []),
    )
    -- an ACK with a byte behind it, and a NACK
    ∷ (
      packet_read_of (0x61 ∷ 0x4E ∷ 0x00 ∷ 0x02 ∷ 0x01 ∷ 0x00 ∷ 0x07 ∷ []) 0 (replicate 10 9),
      called 0 [] [] (6 ∷ 6 ∷ 1 ∷ 4 ∷ 3 ∷ 1 ∷ 0 ∷ 0 ∷ 0 ∷ 0 ∷ []),
    )
    ∷ (
      packet_read_of (0x21 ∷ 0x3C ∷ 0x00 ∷ 0x02 ∷ 0x01 ∷ 0x03 ∷ []) 0 (replicate 10 9),
      called 0 [] [] (6 ∷ 2 ∷ 1 ∷ 3 ∷ 3 ∷ 0 ∷ 0 ∷ 0 ∷ 0 ∷ 0 ∷ []),
    )
    -- no bytes; a header that is cut, and a payload; an ACK that is cut
    ∷ (packet_read_of [] 1 (replicate 10 9), called 2 [] [] (replicate 10 0))
    ∷ (packet_read_of (0x61 ∷ 0x00 ∷ 0x00 ∷ 0x00 ∷ 0x02 ∷ []) 64 (replicate 10 9), called 2 [] [] (replicate 10 0))
    ∷ (packet_read_of (0x61 ∷ 0x00 ∷ 0x00 ∷ 0x00 ∷ 0x02 ∷ 0x02 ∷ 0x07 ∷ []) 64 (replicate 10 9), called 5 [] [] (replicate 10 0))
    ∷ (packet_read_of (0x61 ∷ 0x0E ∷ 0x00 ∷ 0x02 ∷ 0x01 ∷ []) 64 (replicate 10 9), called 12 [] [] (replicate 10 0))
    -- pito_capture_packet: pins found_at, bad_place, packet_at, captured_row, capture_packet_of
    ∷ (capture_packet_of two_packets 1 (replicate 4 9), called 1 [] [] (replicate 4 9))
    ∷ (capture_packet_of two_packets 1 (replicate 6 9), called 1 [] [] (replicate 6 9))
    ∷ (capture_packet_of two_packets 1 (replicate 5 9), called 0 [] [] (1 ∷ 3 ∷ 2 ∷ 5 ∷ 0 ∷ []))
    ∷ (capture_packet_of two_packets 5 (replicate 5 9), called 0 [] [] (1 ∷ 7 ∷ 1 ∷ 8 ∷ 0 ∷ []))
    ∷ (capture_packet_of two_packets 8 (replicate 5 9), called 0 [] [] (replicate 5 0))
    ∷ (capture_packet_of two_packets 9 (replicate 5 9), called 15 [] [] (replicate 5 0))
    ∷ (capture_packet_of two_packets 0 (replicate 5 9), called 15 [] [] (replicate 5 0))
    -- any place is taken, be it that of a packet or not, and every length but 0
    ∷ (capture_packet_of two_packets 3 (replicate 5 9), called 41 [] [] (0 ∷ 0 ∷ 0 ∷ 0 ∷ 3 ∷ []))
    -- a length of 0, a packet that is cut, another version, no bytes
    ∷ (capture_packet_of (0x01 ∷ 0x00 ∷ 0x01 ∷ 0x61 ∷ 0x00 ∷ 0x00 ∷ []) 4 (replicate 5 9), called 42 [] [] (0 ∷ 0 ∷ 0 ∷ 0 ∷ 4 ∷ []))
    ∷ (capture_packet_of (0x01 ∷ 0x00 ∷ 0x01 ∷ 0x61 ∷ 0x00 ∷ []) 4 (replicate 5 9), called 41 [] [] (0 ∷ 0 ∷ 0 ∷ 0 ∷ 4 ∷ []))
    ∷ (capture_packet_of (0x01 ∷ []) 1 (replicate 5 9), called 0 [] [] (replicate 5 0))
    ∷ (capture_packet_of (0x02 ∷ 0x00 ∷ 0x01 ∷ 0x61 ∷ []) 0 (replicate 5 9), called 40 [] [] (replicate 5 0))
    ∷ (capture_packet_of [] 1 (replicate 5 9), called 40 [] [] (replicate 5 0))
    ∷ []

-- each call leaves what its row says
unfoldable pub PacketCalls : Type 0
PacketCalls = map (λ c. c.0) packets_rows ≡ map (λ c. c.1) packets_rows
