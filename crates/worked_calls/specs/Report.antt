-- A capture added to a report, called from C: what is left, and one table whose rows all hold.
use Rattle.std.specs.Prelude.{ℕ, ◌≡◌, List, [], ◌∷◌, ◌++◌, map, replicate}
use Rattle.c_report.specs.Calls.{report_add_of, ReportCalled, report_called}
use Rattle.ble_slot.specs.declared.Slot.{Slot}
use Rattle.ble_slot.specs.Slot.{idle}

-- flag, id, last sequence, ACK wanted, total, held
abbrev slot : ℕ → ℕ → ℕ → ℕ → ℕ → ℕ → Slot
slot opened id sequence wanted total held =
    record { opened = opened; id = id; sequence = sequence; wanted = wanted; total = total; held = held }

unfoldable pub report_rows : List (ReportCalled × ReportCalled)
report_rows =
    -- pito_report_add: pins costs_row, report_add_of, costs_at, costs_fit, report_rows_fit, report_row, report_called, ..
    (report_add_of [] 0 [] [] [] (9 ∷ []), report_called 1 [] [] [] (9 ∷ []))
    ∷ (report_add_of (replicate 21 0) 0 [] [] [] [], report_called 1 (replicate 21 0) [] [] [])
    ∷ (report_add_of (replicate 21 0) 1 [] [] [] (9 ∷ []), record { number = 1; report = replicate 21 0; slots = []; lent = []; answer = 9 ∷ [] })
    ∷ (report_add_of (replicate 22 0) 0 [] [] [] (9 ∷ []), report_called 1 (replicate 22 0) [] [] (9 ∷ []))
    ∷ (report_add_of (replicate 21 0) 0 [] [] (0x00 ∷ []) (9 ∷ 9 ∷ []), report_called 1 (replicate 21 0) [] [] (9 ∷ 9 ∷ []))
    ∷ (
      report_add_of (replicate 8 0 ++ (18446744073709551615 ∷ (replicate 12 0))) 2 (replicate 12 idle) (replicate 24 0x77) (0x01 ∷ []) (9 ∷ []),
      report_called 0 (replicate 8 0 ++ (18446744073709551615 ∷ (replicate 12 0))) (replicate 12 idle) (replicate 24 0x77) (0 ∷ []),
    )
    ∷ (
      report_add_of (replicate 7 0 ++ (18446744073709551615 ∷ (replicate 13 0))) 1 (replicate 12 idle) (replicate 12 0x77) (0x01 ∷ 0x00 ∷ 0x07 ∷ (replicate 8 0x00 ++ (0x07 ∷ (replicate 8 0x00 ++ (0x07 ∷ 0x20 ∷ 0x00 ∷ 0x00 ∷ 0x00 ∷ 0x01 ∷ 0x01 ∷ 0x00 ∷ []))))) (9 ∷ []),
      report_called 19 (replicate 7 0 ++ (18446744073709551615 ∷ (replicate 13 0))) (replicate 12 idle) (replicate 4 0x77 ++ (0x00 ∷ (replicate 7 0x77))) (0 ∷ []),
    )
    ∷ (
      report_add_of (replicate 7 0 ++ (18446744073709551614 ∷ (replicate 13 0))) 2 (replicate 12 idle) (replicate 24 0x77) (0x01 ∷ 0x00 ∷ 0x07 ∷ 0x22 ∷ 0x00 ∷ 0x00 ∷ 0x00 ∷ 0x01 ∷ 0x01 ∷ 0x00 ∷ []) (9 ∷ []),
      report_called 0 (replicate 7 0 ++ (18446744073709551615 ∷ 1 ∷ 0 ∷ 0 ∷ 0 ∷ 1 ∷ 7 ∷ (replicate 7 0))) (replicate 12 idle) (replicate 8 0x77 ++ (0x00 ∷ (replicate 15 0x77))) (0 ∷ []),
    )
    ∷ (
      report_add_of (replicate 9 0 ++ (18446744073709551615 ∷ (replicate 8 0 ++ (18446744073709551615 ∷ 0 ∷ 0 ∷ [])))) 1 (replicate 12 idle) (replicate 12 0x77) (0x01 ∷ 0x00 ∷ 0x07 ∷ (replicate 8 0x00 ++ (0x07 ∷ (replicate 8 0x00 ++ (0x06 ∷ (replicate 6 0x00)))))) (9 ∷ []),
      report_called 0 (1 ∷ 1 ∷ (replicate 4 0 ++ (20 ∷ 0 ∷ 0 ∷ 18446744073709551615 ∷ (replicate 8 0 ++ (18446744073709551615 ∷ 0 ∷ 0 ∷ []))))) (replicate 12 idle) (replicate 12 0x77) (0 ∷ []),
    )
    ∷ (
      report_add_of (0 ∷ 0 ∷ 0 ∷ 18446744073709551615 ∷ (replicate 17 0)) 2 (replicate 12 idle) (replicate 24 0x77) (0x01 ∷ 0x00 ∷ 0x07 ∷ (replicate 4 0x00 ++ (0x02 ∷ 0x01 ∷ 0x07 ∷ 0x00 ∷ 0x04 ∷ 0x00 ∷ 0x28 ∷ 0x01 ∷ 0x08 ∷ []))) (9 ∷ []),
      report_called 19 (0 ∷ 0 ∷ 0 ∷ 18446744073709551615 ∷ (replicate 17 0)) (replicate 12 idle) (0x07 ∷ (replicate 23 0x77)) (0 ∷ []),
    )
    ∷ (
      report_add_of (0 ∷ 0 ∷ 18446744073709551615 ∷ (replicate 18 0)) 2 (replicate 12 idle) (replicate 24 0x77) (0x01 ∷ 0x00 ∷ 0x07 ∷ (replicate 4 0x00 ++ (0x02 ∷ 0x01 ∷ 0x07 ∷ 0x00 ∷ 0x07 ∷ (replicate 4 0x00 ++ (0x02 ∷ 0x01 ∷ 0x07 ∷ []))))) (9 ∷ []),
      report_called 19 (0 ∷ 0 ∷ 18446744073709551615 ∷ (replicate 18 0)) ((slot 1 0 0 0 2 1) ∷ (replicate 11 idle)) (0x07 ∷ (replicate 23 0x77)) (0 ∷ []),
    )
    ∷ (
      report_add_of (replicate 12 0 ++ (18446744073709551614 ∷ (replicate 8 0))) 3 (replicate 12 idle) (replicate 36 0x77) (0x01 ∷ 0x00 ∷ 0x07 ∷ 0x20 ∷ 0x00 ∷ 0x00 ∷ 0x00 ∷ 0x01 ∷ 0x01 ∷ 0x00 ∷ []) (9 ∷ []),
      report_called 0 (replicate 7 0 ++ (1 ∷ 1 ∷ 0 ∷ 0 ∷ 0 ∷ 18446744073709551615 ∷ 7 ∷ (replicate 7 0))) (replicate 12 idle) (replicate 12 0x77 ++ (0x00 ∷ (replicate 23 0x77))) (0 ∷ []),
    )
    ∷ (
      report_add_of (replicate 10 0 ++ (18446744073709551615 ∷ (replicate 10 0))) 3 (replicate 12 idle) (replicate 36 0x77) (0x01 ∷ 0x00 ∷ 0x06 ∷ (replicate 7 0x00 ++ (0x07 ∷ (replicate 7 0x00)))) (9 ∷ []),
      report_called 0 (1 ∷ 1 ∷ (replicate 4 0 ++ (13 ∷ 0 ∷ 0 ∷ 0 ∷ 18446744073709551615 ∷ (replicate 10 0)))) (replicate 12 idle) (replicate 36 0x77) (0 ∷ []),
    )
    ∷ (
      report_add_of (0 ∷ 18446744073709551615 ∷ (replicate 19 0)) 3 (replicate 12 idle) (replicate 36 0x77) (0x01 ∷ 0x00 ∷ 0x06 ∷ (replicate 5 0x00 ++ (0x03 ∷ 0x00 ∷ 0x07 ∷ 0x01 ∷ 0xF0 ∷ 0x00 ∷ 0x00 ∷ 0x02 ∷ 0x01 ∷ 0x04 ∷ 0x00 ∷ 0x04 ∷ 0x01 ∷ 0x08 ∷ 0x01 ∷ 0x01 ∷ []))) (9 ∷ []),
      report_called 19 (0 ∷ 18446744073709551615 ∷ (replicate 19 0)) (replicate 12 idle) (0x04 ∷ 0x01 ∷ (replicate 34 0x77)) (0 ∷ []),
    )
    ∷ (
      report_add_of (replicate 6 0 ++ (26 ∷ 32 ∷ 47 ∷ 45 ∷ 16 ∷ 48 ∷ 18 ∷ 43 ∷ 54 ∷ 10 ∷ 22 ∷ 17 ∷ 35 ∷ 41 ∷ 25 ∷ [])) 3 (replicate 12 idle) (replicate 36 0x77) (0x01 ∷ 0x00 ∷ 0x06 ∷ 0x22 ∷ 0xF2 ∷ (replicate 5 0x00 ++ (0x07 ∷ 0x61 ∷ 0x02 ∷ 0x00 ∷ 0x00 ∷ 0x02 ∷ 0x01 ∷ 0x05 ∷ 0x00 ∷ 0x05 ∷ 0x61 ∷ 0x18 ∷ 0x02 ∷ 0x04 ∷ 0x04 ∷ []))) (9 ∷ []),
      report_called 0 (replicate 6 0 ++ (26 ∷ 33 ∷ 48 ∷ 45 ∷ 16 ∷ 48 ∷ 18 ∷ 49 ∷ 55 ∷ 10 ∷ 22 ∷ 18 ∷ 35 ∷ 41 ∷ 37 ∷ [])) (replicate 12 idle) (replicate 24 0x77 ++ (0x05 ∷ (replicate 11 0x77))) (0 ∷ []),
    )
    ∷ (
      report_add_of (replicate 4 0 ++ (18446744073709551615 ∷ (replicate 16 0))) 4 (replicate 12 idle) (replicate 48 0x77) (0x01 ∷ 0x00 ∷ 0x06 ∷ (replicate 7 0x00 ++ (0x06 ∷ 0x62 ∷ 0x02 ∷ (replicate 5 0x00 ++ (0x07 ∷ 0x00 ∷ 0x02 ∷ 0x00 ∷ 0x00 ∷ 0x02 ∷ 0x01 ∷ 0x06 ∷ []))))) (9 ∷ []),
      report_called 19 (replicate 4 0 ++ (18446744073709551615 ∷ (replicate 16 0))) ((slot 1 0 0 1 2 1) ∷ (replicate 11 idle)) (0x06 ∷ (replicate 47 0x77)) (0 ∷ []),
    )
    ∷ []

-- each call leaves what its row says
unfoldable pub ReportCalls : Type 0
ReportCalls = map (λ c. c.0) report_rows ≡ map (λ c. c.1) report_rows
