-- A capture added to a report, called from C, by computation.
use mathlib.Core.Path.{refl}
use Rattle.c_report.specs.Calls.{report_add_of}
use Rattle.c_report.specs.Convert.{report_at}
use Rattle.capture_reader.specs.Capture.{front_of, other_version, packets_from, packets_of}
use Rattle.ble_packet.specs.Reader.{content_of, fields_of, lines, read_of}
use Rattle.ble_receiver.specs.Receiver.{accept_of, read_in, ready}
use Rattle.capture_report.specs.Costs.{costs_of}
use Rattle.capture_report.specs.Report.{added_of, costs_fit, costs_plus, link_run, report_of, taken_of}
use Rattle.ble_slot.specs.Slot.{lawful, lawful_slot}
use Rattle.ble_slot_steps.specs.Step.{drop_by, finish, first_step, hold, next_step}
use Rattle.wire.specs.Limit.{limit_fits}
use Rattle.wire.specs.Stream.{is_stream, stream_of}
use Rattle.worked_calls.specs.Report.{ReportCalls, report_rows}

pub report-calls : ReportCalls
unfolding ReportCalls report_rows report_add_of report_at front_of other_version packets_from packets_of content_of fields_of lines read_of accept_of read_in ready costs_of added_of costs_fit costs_plus link_run report_of taken_of lawful lawful_slot drop_by finish first_step hold next_step limit_fits is_stream stream_of
report-calls = refl
