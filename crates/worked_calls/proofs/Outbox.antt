-- The outbox, called from C, by computation.
use mathlib.Core.Path.{refl}
use Rattle.c_outbox_move.specs.Calls.{outbox_move_of}
use Rattle.c_outbox.specs.Calls.{outbox_append_of, outbox_new_of, outbox_record_of, outbox_whole_of}
use Rattle.c_outbox.specs.Convert.{cut_place}
use Rattle.outbox_move.specs.Moves.{move_of, moved_to}
use Rattle.outbox.specs.Format.{bytes_of, format_of, is_one, number_of, record_bytes}
use Rattle.outbox.specs.Reader.{bad_length, bad_place, bad_stream, cut_short, other_version, read_all, read_of, readings, record_at, walk_of}
use Rattle.outbox.specs.Writer.{append_of, bad_record, new_of}
use Rattle.c_rows.specs.Row.{byte_or}
use Rattle.wire.specs.Stream.{is_stream}
use Rattle.worked_calls.specs.Outbox.{OutboxCalls, outbox_rows}

pub outbox-calls : OutboxCalls
unfolding OutboxCalls outbox_rows outbox_move_of outbox_append_of outbox_new_of outbox_record_of outbox_whole_of cut_place move_of moved_to bytes_of format_of is_one number_of record_bytes bad_length bad_place bad_stream cut_short other_version read_all read_of readings record_at walk_of append_of bad_record new_of byte_or is_stream
outbox-calls = refl
