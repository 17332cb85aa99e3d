-- A packet accepted, called from C: what is left, and one table whose rows all hold.
use Rattle.std.specs.Prelude.{ℕ, ◌≡◌, List, [], ◌∷◌, ◌++◌, map, replicate}
use Rattle.c_receiving.specs.Calls.{receiver_accept_of, AcceptCalled, replied}
use Rattle.ble_slot.specs.declared.Slot.{Slot}
use Rattle.ble_slot.specs.Slot.{idle}

-- flag, id, last sequence, ACK wanted, total, held
abbrev slot : ℕ → ℕ → ℕ → ℕ → ℕ → ℕ → Slot
slot opened id sequence wanted total held =
    record { opened = opened; id = id; sequence = sequence; wanted = wanted; total = total; held = held }

unfoldable pub receiving_rows : List (AcceptCalled × AcceptCalled)
receiving_rows =
    -- pito_receiver_accept: pins receiver_accept_of, accepted_row, head_row, rows_fit, replied, accepted, lines, ..
    (receiver_accept_of (1 ∷ []) (replicate 12 idle) [] [] 0 [] (replicate 8 9), replied 1 (replicate 12 idle) [] (replicate 8 9) [])
    ∷ (
      receiver_accept_of (1 ∷ []) (replicate 12 idle) (replicate 13 0x00) [] 0 [] (replicate 8 9),
      replied 1 (replicate 12 idle) (replicate 13 0x00) (replicate 8 9) [],
    )
    ∷ (
      receiver_accept_of (1 ∷ []) (replicate 12 idle) (replicate 12 0x00) [] 0 (0xEE ∷ []) (replicate 9 9),
      record { number = 1; slots = replicate 12 idle; lent = replicate 12 0x00; answer = replicate 9 9; out = 0xEE ∷ [] },
    )
    ∷ (receiver_accept_of (2 ∷ []) (replicate 12 idle) (replicate 24 0x00) [] 0 [] [], replied 1 (replicate 12 idle) (replicate 24 0x00) [] [])
    ∷ (
      receiver_accept_of (1 ∷ []) (replicate 12 idle) (replicate 12 0x00) (replicate 4 0x00 ++ (0x01 ∷ 0x00 ∷ [])) 0 (replicate 6 0xEE) (replicate 8 9),
      replied 7 (replicate 12 idle) (replicate 12 0x00) (replicate 8 0) (replicate 6 0xEE),
    )
    ∷ (
      receiver_accept_of (2 ∷ []) (replicate 12 idle) (replicate 24 0x00) (0x00 ∷ 0xFE ∷ 0x00 ∷ 0x02 ∷ 0x01 ∷ 0x00 ∷ []) 0 (replicate 6 0xEE) (replicate 8 9),
      replied 0 (replicate 12 idle) (replicate 24 0x00) (2 ∷ 0 ∷ 0 ∷ 15 ∷ (replicate 4 0)) (replicate 6 0xEE),
    )
    ∷ (
      receiver_accept_of (4 ∷ 0 ∷ []) (replicate 12 idle) (replicate 48 0x00) [] 0 [] (replicate 8 9),
      replied 1 (replicate 12 idle) (replicate 48 0x00) (replicate 8 9) [],
    )
    ∷ (
      receiver_accept_of (4 ∷ []) (replicate 6 idle ++ ((slot 1 1 0 0 2 1) ∷ (slot 1 1 0 0 2 1) ∷ (replicate 4 idle))) (replicate 48 0x00) [] 0 (0xEE ∷ []) (replicate 8 9),
      replied 1 (replicate 6 idle ++ ((slot 1 1 0 0 2 1) ∷ (slot 1 1 0 0 2 1) ∷ (replicate 4 idle))) (replicate 48 0x00) (replicate 8 9) (0xEE ∷ []),
    )
    ∷ (
      receiver_accept_of (4 ∷ []) (replicate 9 idle ++ ((slot 1 15 14 0 3 1) ∷ idle ∷ idle ∷ [])) (replicate 48 0x00) (0x6F ∷ 0xF8 ∷ 0x01 ∷ 0x00 ∷ []) 0 (replicate 6 0xEE) (replicate 8 9),
      replied 11 (replicate 12 idle) (replicate 48 0x00) (replicate 8 0) (replicate 6 0xEE),
    )
    ∷ (
      receiver_accept_of (4 ∷ []) (idle ∷ idle ∷ idle ∷ (slot 1 15 14 0 3 1) ∷ (replicate 8 idle)) (replicate 48 0x00) (0x0F ∷ 0x48 ∷ 0x04 ∷ (replicate 4 0x00)) 0 (replicate 6 0xEE) (replicate 8 9),
      replied 10 (replicate 12 idle) (replicate 48 0x00) (replicate 8 0) (replicate 6 0xEE),
    )
    ∷ (
      receiver_accept_of (5 ∷ []) (replicate 12 idle) (replicate 60 0x00) (0x01 ∷ 0x6C ∷ 0x00 ∷ 0x02 ∷ 0x01 ∷ 0x03 ∷ []) 0 (replicate 6 0xEE) (replicate 8 9),
      replied 0 (replicate 12 idle) (replicate 60 0x00) (3 ∷ 0 ∷ 1 ∷ 6 ∷ (replicate 4 0)) (replicate 6 0xEE),
    )
    ∷ (
      receiver_accept_of (5 ∷ []) (replicate 4 idle ++ ((slot 1 0 0 0 3 1) ∷ (replicate 7 idle))) (replicate 60 0x00) (0x20 ∷ 0x01 ∷ 0x00 ∷ 0x00 ∷ 0x04 ∷ 0x00 ∷ 0x03 ∷ 0x00 ∷ 0x00 ∷ 0x00 ∷ []) 0 (replicate 6 0xEE) (replicate 8 9),
      replied 0 (replicate 4 idle ++ ((slot 1 0 0 0 4 3) ∷ (replicate 7 idle))) (replicate 60 0x00) (0 ∷ 2 ∷ (replicate 4 0 ++ (1 ∷ 4 ∷ []))) (replicate 6 0xEE),
    )
    ∷ (
      receiver_accept_of (8 ∷ []) (replicate 7 idle ++ ((slot 9 0 0 0 7 1) ∷ (replicate 4 idle))) (replicate 96 0x00) [] 0 [] (replicate 8 9),
      replied 1 (replicate 7 idle ++ ((slot 9 0 0 0 7 1) ∷ (replicate 4 idle))) (replicate 96 0x00) (replicate 8 9) [],
    )
    ∷ (
      receiver_accept_of (8 ∷ []) (replicate 5 idle ++ ((slot 1 3 0 1 3 1) ∷ (replicate 6 idle))) (replicate 96 0x00) (0x23 ∷ 0x14 ∷ 0x01 ∷ 0x00 ∷ []) 0 (replicate 6 0xEE) (replicate 8 9),
      replied 0 (replicate 5 idle ++ ((slot 1 3 1 1 3 2) ∷ (replicate 6 idle))) (replicate 96 0x00) (0 ∷ 2 ∷ 3 ∷ (replicate 4 0 ++ (5 ∷ []))) (replicate 6 0xEE),
    )
    ∷ (
      receiver_accept_of (8 ∷ []) ((slot 1 0 0 0 6 1) ∷ (replicate 11 idle)) (replicate 96 0x64) (0x0F ∷ 0x32 ∷ 0x00 ∷ 0x00 ∷ 0x07 ∷ 0x07 ∷ 0x32 ∷ 0x8D ∷ 0x8E ∷ 0xBF ∷ 0xA8 ∷ 0x13 ∷ 0x46 ∷ []) 15 (replicate 7 0xEE) (replicate 8 9),
      replied 0 ((slot 1 0 0 0 6 1) ∷ (replicate 11 idle)) (replicate 8 0x64 ++ (0x32 ∷ 0x8D ∷ 0x8E ∷ 0xBF ∷ 0xA8 ∷ 0x13 ∷ 0x46 ∷ (replicate 81 0x64))) (1 ∷ 0 ∷ 15 ∷ 0 ∷ 7 ∷ 1 ∷ 0 ∷ 1 ∷ []) (0x0F ∷ 0xFE ∷ 0x00 ∷ 0x02 ∷ 0x01 ∷ 0x00 ∷ 0xEE ∷ []),
    )
    ∷ []

-- each call leaves what its row says
unfoldable pub ReceivingCalls : Type 0
ReceivingCalls = map (λ c. c.0) receiving_rows ≡ map (λ c. c.1) receiving_rows
