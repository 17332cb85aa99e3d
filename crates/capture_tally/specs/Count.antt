-- The stream that a packet counts on.
use Rattle.std.specs.Prelude.{ℕ, cond, eqb, List, [], ◌∷◌, Option, Some, None}
use Rattle.wire.specs.Stream.{is_stream, stream_of}
use Rattle.wire.specs.declared.stream.Stream.{Stream}
use Rattle.wire.specs.declared.stream.Stream.TheVariants.{Control, Ota, Alexa}
use Rattle.ble_packet.specs.Header.{stream_bits}
use Rattle.capture_report.specs.declared.Costs.{Costs}
use Rattle.capture_report.specs.declared.CostReport.{CostReport}
use Rattle.capture_report.specs.Report.{no_costs}

-- the stream of a packet; none without bytes, or with another stream field
abbrev pub stream_in : List ℕ → Option Stream
stream_in [] = None
stream_in (b ∷ p) = cond (is_stream (stream_bits b)) (Some (stream_of (stream_bits b))) None

-- costs of the stream with a number alone
abbrev pub only : ℕ → Costs → CostReport
only number c =
    record { control = cond (eqb number 0) c no_costs; ota = cond (eqb number 2) c no_costs; alexa = cond (eqb number 6) c no_costs }

-- costs of a stream alone
abbrev pub only_for : Option Stream → Costs → CostReport
only_for None c = record { control = no_costs; ota = no_costs; alexa = no_costs }
only_for (Some Control) c = record { control = c; ota = no_costs; alexa = no_costs }
only_for (Some Ota) c = record { control = no_costs; ota = c; alexa = no_costs }
only_for (Some Alexa) c = record { control = no_costs; ota = no_costs; alexa = c }
