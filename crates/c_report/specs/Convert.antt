-- A report as a row of 21 numbers: seven for each stream, in the order control, OTA, Alexa.
use Rattle.std.specs.Prelude.{ℕ, ◌+◌, List, [], ◌∷◌, ◌++◌, get_or}
use Rattle.wire.specs.Told.{given, refused}
use Rattle.capture_reader.specs.Capture.{ToldAt}
use Rattle.capture_report.specs.declared.Costs.{Costs}
use Rattle.capture_report.specs.declared.CostReport.{CostReport}

abbrev pub costs_row : Costs → List ℕ
costs_row c = c.firsts ∷ c.finished ∷ c.replaced ∷ c.dropped ∷ c.pending ∷ c.payload ∷ c.bytes ∷ []

abbrev pub report_row : CostReport → List ℕ
report_row r = costs_row r.control ++ costs_row r.ota ++ costs_row r.alexa

abbrev pub costs_at : List ℕ → ℕ → Costs
costs_at row at =
    record {
      firsts = get_or row at 0;
      finished = get_or row (at + 1) 0;
      replaced = get_or row (at + 2) 0;
      dropped = get_or row (at + 3) 0;
      pending = get_or row (at + 4) 0;
      payload = get_or row (at + 5) 0;
      bytes = get_or row (at + 6) 0;
    }

unfoldable pub report_at : List ℕ → CostReport
report_at row = record { control = costs_at row 0; ota = costs_at row 7; alexa = costs_at row 14 }

-- the report's row afterwards: a refusal leaves it
abbrev pub report_after : List ℕ → ToldAt CostReport → List ℕ
report_after row (given r) = report_row r
report_after row (refused why) = row

-- the answer row: the refusal's place, or 0
abbrev pub place_row : ToldAt CostReport → List ℕ
place_row (given r) = 0 ∷ []
place_row (refused why) = why.1 ∷ []
