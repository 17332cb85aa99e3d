-- The worked captures, computed.
use mathlib.Core.Path.{refl}
use Rattle.wire.specs.Limit.{limit_fits}
use Rattle.wire.specs.Stream.{is_stream, stream_of}
use Rattle.ble_packet.specs.Reader.{fields_of, content_of, lines, read_of}
use Rattle.capture_reader.specs.Capture.{front_of, packets_from, other_version, packets_of}
use Rattle.ble_slot.specs.Slot.{lawful_slot, lawful}
use Rattle.ble_slot_steps.specs.Step.{finish, hold, drop_by, first_step, next_step}
use Rattle.ble_receiver.specs.Receiver.{ready, read_in, accept_of}
use Rattle.capture_report.specs.Costs.{costs_of}
use Rattle.capture_report.specs.Report.{link_run, report_of, costs_plus, costs_fit, taken_of, added_of}
use Rattle.capture_report_claims.specs.Worked.{RowsAdd}

pub rows-add : RowsAdd
unfolding limit_fits is_stream stream_of fields_of content_of lines read_of front_of packets_from other_version packets_of lawful_slot lawful finish hold drop_by first_step next_step ready read_in accept_of costs_of link_run report_of costs_plus costs_fit taken_of added_of
rows-add = refl
