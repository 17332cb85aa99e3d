-- Captures with every byte written out, and what adding them leaves.
use Rattle.std.specs.Prelude.{ℕ, ◌+◌, ◌≡◌, List, [], ◌∷◌, ◌++◌, map, replicate}
use Rattle.wire.specs.Told.{given, refused}
use Rattle.capture_reader.specs.Capture.{ToldAt}
use Rattle.capture_reader.specs.Captured.{captured}
use Rattle.ble_slot.specs.declared.Slot.{Slot}
use Rattle.ble_slot.specs.Slot.{idle}
use Rattle.capture_report.specs.declared.Costs.{Costs}
use Rattle.capture_report.specs.declared.CostReport.{CostReport}
use Rattle.capture_report.specs.Report.{no_costs, empty_report, CaptureAdded, capture_added, added_of}

-- ---- reports

-- first packets accepted, finished, replaced, dropped, left open, payload bytes, bytes of packets
abbrev pub costs : ℕ → ℕ → ℕ → ℕ → ℕ → ℕ → ℕ → Costs
costs a b c d e f g = record { firsts = a; finished = b; replaced = c; dropped = d; pending = e; payload = f; bytes = g }

abbrev pub report : Costs → Costs → Costs → CostReport
report control ota alexa = record { control = control; ota = ota; alexa = alexa }

-- the most that 64 bits hold
abbrev pub most : ℕ
most = 18446744073709551615

-- ---- packets, at limit 2

-- the first byte of two, on the control stream with id 3
abbrev pub three : List ℕ
three = 0x03 ∷ 0x00 ∷ 0x00 ∷ 0x00 ∷ 0x02 ∷ 0x01 ∷ 0x07 ∷ []

-- the same with id 5
abbrev pub five : List ℕ
five = 0x05 ∷ 0x00 ∷ 0x00 ∷ 0x00 ∷ 0x02 ∷ 0x01 ∷ 0x07 ∷ []

-- its second byte, of a type that may not reach the total: 11
abbrev pub reaches : List ℕ
reaches = 0x03 ∷ 0x14 ∷ 0x01 ∷ 0x01 ∷ []

-- its second byte
abbrev pub second : List ℕ
second = 0x03 ∷ 0x18 ∷ 0x01 ∷ 0x08 ∷ []

-- a byte of OTA, whole
abbrev pub whole : List ℕ
whole = 0x20 ∷ 0x00 ∷ 0x00 ∷ 0x00 ∷ 0x01 ∷ 0x01 ∷ 0x09 ∷ []

-- an ACK of Alexa
abbrev pub ack : List ℕ
ack = 0x60 ∷ 0x0E ∷ 0x00 ∷ 0x02 ∷ 0x01 ∷ 0x00 ∷ []

-- one of each kind: taken, taken in place of another, refused by 11, by 2 and by 3, taken, finished, an ACK
abbrev pub mixed : List (List ℕ)
mixed = three ∷ three ∷ reaches ∷ (0x03 ∷ []) ∷ (0x71 ∷ 0x00 ∷ []) ∷ five ∷ whole ∷ ack ∷ []

-- two ids are open, one of them anew, and the other is finished; a third begins, and its sequence is refused by 10; what is open stays so
-- with a packet of its byte 0 that is refused by 2, and with one of another stream and the same id
abbrev pub two_ids : List (List ℕ)
two_ids =
    three
    ∷ five
    ∷ five
    ∷ second
    ∷ (0x04 ∷ 0x00 ∷ 0x00 ∷ 0x00 ∷ 0x02 ∷ 0x01 ∷ 0x07 ∷ [])
    ∷ (0x04 ∷ 0x28 ∷ 0x01 ∷ 0x08 ∷ [])
    ∷ (0x05 ∷ [])
    ∷ (0x25 ∷ 0x00 ∷ 0x00 ∷ 0x00 ∷ 0x01 ∷ 0x01 ∷ 0x09 ∷ [])
    ∷ []

-- the first byte of two, of Alexa with an id
abbrev alexa : ℕ → List ℕ
alexa id = (0x60 + id) ∷ 0x00 ∷ 0x00 ∷ 0x00 ∷ 0x02 ∷ 0x01 ∷ 0x07 ∷ []

-- a whole message of Alexa, with id 1
abbrev pub alexa_whole : List ℕ
alexa_whole = 0x61 ∷ 0x00 ∷ 0x00 ∷ 0x00 ∷ 0x01 ∷ 0x01 ∷ 0x09 ∷ []

-- five ids of one stream, the last of which finds no slot; a whole message in place of the first of them; a NACK of OTA; a first packet
-- of an unknown stream
abbrev pub five_ids : List (List ℕ)
five_ids =
    alexa 1
    ∷ alexa 2
    ∷ alexa 3
    ∷ alexa 4
    ∷ alexa 5
    ∷ alexa_whole
    ∷ (0x21 ∷ 0x0C ∷ 0x00 ∷ 0x02 ∷ 0x01 ∷ 0x03 ∷ [])
    ∷ (0x11 ∷ 0x00 ∷ 0x00 ∷ 0x00 ∷ 0x02 ∷ 0x01 ∷ 0x07 ∷ [])
    ∷ []

-- a message of three bytes in three packets, over sequence 15 and with an ACK wanted; between them an ACK of its stream and id, a packet of
-- its stream and id that is refused by 5, and an empty message; on Alexa the same id without the last packet
abbrev pub three_pieces : List (List ℕ)
three_pieces =
    (0x27 ∷ 0xF2 ∷ 0x00 ∷ 0x00 ∷ 0x03 ∷ 0x01 ∷ 0x0A ∷ [])
    ∷ (0x27 ∷ 0x0E ∷ 0x00 ∷ 0x02 ∷ 0x01 ∷ 0x00 ∷ [])
    ∷ (0x27 ∷ 0x04 ∷ 0x02 ∷ 0x0B ∷ [])
    ∷ (0x67 ∷ 0x00 ∷ 0x00 ∷ 0x00 ∷ 0x03 ∷ 0x01 ∷ 0x0A ∷ [])
    ∷ (0x27 ∷ 0x04 ∷ 0x01 ∷ 0x0B ∷ [])
    ∷ (0x67 ∷ 0x14 ∷ 0x01 ∷ 0x0B ∷ [])
    ∷ (0x28 ∷ 0x00 ∷ 0x00 ∷ 0x00 ∷ 0x00 ∷ 0x00 ∷ [])
    ∷ (0x27 ∷ 0x18 ∷ 0x01 ∷ 0x0C ∷ [])
    ∷ []

-- ---- what is lent

-- slots that no link has, and bytes of no message
abbrev pub odd : Slot
odd = record { opened = 1; id = 200; sequence = 99; wanted = 7; total = 0; held = 9 }

abbrev pub odd_row : List Slot
odd_row = replicate 12 odd

abbrev pub odd_bytes : List ℕ
odd_bytes = replicate 24 0xEE

-- the first of two bytes is held, with an id
abbrev pub begun : ℕ → Slot
begun id = record { opened = 1; id = id; sequence = 0; wanted = 0; total = 2; held = 1 }

-- ---- the worked captures

pub record ReportRow : Type 0 where
  pub before : CostReport
  pub limit : ℕ
  pub slots : List Slot
  pub bytes : List ℕ
  pub capture : List ℕ
  pub after : CaptureAdded

-- what is left of the odd row and buffer
abbrev leaves : CostReport → ℕ → List ℕ → ToldAt CostReport → List Slot → List ℕ → ReportRow
leaves before limit capture told slots bytes =
    record { before = before; limit = limit; slots = odd_row; bytes = odd_bytes; capture = capture; after = capture_added told slots bytes }

-- numbers that are all the largest
abbrev full : CostReport
full = report (costs most most most most most most most) (costs most most most most most most most) (costs most most most most most most most)

-- they are as they were, though the sums would pass 64 bits
abbrev keeps : ℕ → List Slot → List ℕ → List ℕ → ℕ × ℕ → ReportRow
keeps limit slots bytes capture why =
    record { before = full; limit = limit; slots = slots; bytes = bytes; capture = capture; after = capture_added (refused why) slots bytes }

abbrev pub rows : List ReportRow
rows =
    leaves empty_report 2 (captured mixed)
    (given (report (costs 3 0 1 1 1 0 26) (costs 1 1 0 0 0 1 7) (costs 0 0 0 0 0 0 6)))
    (begun 5 ∷ replicate 11 idle)
    (0x07 ∷ (replicate 7 0xEE ++ (0x09 ∷ replicate 15 0xEE)))
    -- id 5 is open at the second spot; on top of another report
    ∷ leaves (report (costs 1 2 3 4 5 6 7) (costs 11 12 13 14 15 16 17) (costs 21 22 23 24 25 26 27)) 2 (captured two_ids)
    (given (report (costs 5 3 4 5 6 8 44) (costs 12 13 13 14 15 17 24) (costs 21 22 23 24 25 26 27)))
    (idle ∷ begun 5 ∷ replicate 10 idle)
    (0x07 ∷ 0x08 ∷ 0x07 ∷ (replicate 5 0xEE ++ (0x09 ∷ replicate 15 0xEE)))
    ∷ leaves empty_report 2 (captured five_ids) (given (report no_costs (costs 0 0 0 0 0 0 6) (costs 5 1 1 0 3 1 42)))
    (replicate 9 idle ++ (begun 2 ∷ begun 3 ∷ begun 4 ∷ []))
    (replicate 16 0xEE ++ (0x09 ∷ 0xEE ∷ 0x07 ∷ 0xEE ∷ 0x07 ∷ 0xEE ∷ 0x07 ∷ 0xEE ∷ []))
    -- 9 drops nothing
    ∷ leaves empty_report 2 (captured (reaches ∷ [])) (given (report (costs 0 0 0 0 0 0 4) no_costs no_costs)) (replicate 12 idle) odd_bytes
    -- at limit 3
    ∷ record {
      before = empty_report;
      limit = 3;
      slots = odd_row;
      bytes = replicate 36 0xEE;
      capture = captured three_pieces;
      after =
          capture_added (given (report no_costs (costs 2 2 0 0 0 3 31) (costs 1 0 0 0 1 0 11)))
          (replicate 8 idle ++ (record { opened = 1; id = 7; sequence = 1; wanted = 0; total = 3; held = 2 } ∷ replicate 3 idle))
          (replicate 12 0xEE ++ (0x0A ∷ 0x0B ∷ 0x0C ∷ (replicate 9 0xEE ++ (0x0A ∷ 0x0B ∷ replicate 10 0xEE))));
    }
    -- no packets: all is idle, and the buffer as it was
    ∷ leaves empty_report 2 (0x01 ∷ []) (given empty_report) (replicate 12 idle) odd_bytes
    -- the most that there is, and one more: 19 leaves row and buffer as after the last packet
    ∷ leaves (report (costs 0 0 0 0 0 0 18446744073709551608) no_costs no_costs) 2 (captured (three ∷ [])) (given (report (costs 1 0 0 0 1 0 most) no_costs no_costs))
    (begun 3 ∷ replicate 11 idle) (0x07 ∷ replicate 23 0xEE)
    ∷ leaves (report (costs most 0 0 0 0 0 0) no_costs no_costs) 2 (captured (three ∷ whole ∷ [])) (refused (19, 0)) (begun 3 ∷ replicate 11 idle)
    (0x07 ∷ (replicate 7 0xEE ++ (0x09 ∷ replicate 15 0xEE)))
    -- one number of the 21 is enough: Alexa's payload bytes
    ∷ leaves (report no_costs no_costs (costs 0 0 0 0 0 most 0)) 2 (captured (alexa_whole ∷ [])) (refused (19, 0)) (replicate 12 idle)
    (replicate 16 0xEE ++ (0x09 ∷ replicate 7 0xEE))
    -- 17 before 1, 1 before 40, all of them before 19, and all of these leave row and buffer
    ∷ keeps 0 [] [] [] (17, 0)
    ∷ keeps 65536 odd_row odd_bytes (captured mixed) (17, 0)
    ∷ keeps 65535 odd_row odd_bytes [] (1, 0)
    ∷ keeps 1 odd_row odd_bytes [] (1, 0)
    ∷ keeps 2 (replicate 11 odd) odd_bytes [] (1, 0)
    ∷ keeps 2 (replicate 13 odd) odd_bytes (captured mixed) (1, 0)
    ∷ keeps 2 odd_row (replicate 23 0xEE) [] (1, 0)
    ∷ keeps 2 odd_row (replicate 25 0xEE) (captured mixed) (1, 0)
    ∷ keeps 2 odd_row odd_bytes [] (40, 0)
    ∷ keeps 2 odd_row odd_bytes (0x02 ∷ []) (40, 0)
    -- the whole capture is judged before a packet is taken
    ∷ keeps 2 odd_row odd_bytes (captured (three ∷ []) ++ (0x00 ∷ 0x00 ∷ [])) (42, 10)
    ∷ keeps 2 odd_row odd_bytes (captured (three ∷ []) ++ (0x00 ∷ 0x02 ∷ 0x03 ∷ [])) (41, 10)
    ∷ []

-- each row is what adding its capture leaves
abbrev pub RowsAdd : Type 0
RowsAdd =
    map (λ (r : ReportRow). added_of r.before r.limit r.slots r.bytes r.capture) rows ≡ map (λ (r : ReportRow). r.after) rows
