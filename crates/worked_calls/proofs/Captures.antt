-- A capture judged, called from C, by computation.
use mathlib.Core.Path.{refl}
use Rattle.c_judge.specs.Calls.{capture_judge_of}
use Rattle.capture_reader.specs.Capture.{front_of, other_version, packets_from, packets_of}
use Rattle.capture_judge.specs.Capture.{judged_of, traced_of, verdict_from, walked_of}
use Rattle.capture_judge.specs.Step.{step_of}
use Rattle.ble_packet.specs.Reader.{content_of, fields_of, lines, read_of}
use Rattle.ble_sender.specs.Piece.{size_for}
use Rattle.ble_sender.specs.Writer.{room_fits}
use Rattle.capture_stream.specs.Slot.{first_step, fits_piece, next_fits, next_step}
use Rattle.wire.specs.Limit.{limit_fits}
use Rattle.wire.specs.Stream.{is_stream, stream_of}
use Rattle.worked_calls.specs.Captures.{CaptureCalls, captures_rows}

pub capture-calls : CaptureCalls
unfolding CaptureCalls captures_rows capture_judge_of front_of other_version packets_from packets_of judged_of traced_of verdict_from walked_of step_of content_of fields_of lines read_of size_for room_fits first_step fits_piece next_fits next_step limit_fits is_stream stream_of
capture-calls = refl
