-- The extractor and the frame writers, called from C, by computation.
use mathlib.Core.Path.{refl}
use Rattle.c_classic.specs.Calls.{extractor_feed_of, extractor_open_of, extractor_step_of, frame_write_of, next_sequence_of, none_used}
use Rattle.c_classic.specs.Convert.{extractor_of, is_extractor, phase_of}
use Rattle.c_classic_parts.specs.Calls.{frame_begin_of, frame_part_of}
use Rattle.c_classic_parts.specs.Convert.{is_state, pending_of, stage_of, state_of}
use Rattle.classic_extractor.specs.Action.{code_of}
use Rattle.classic_extractor.specs.State.{open_of, ready}
use Rattle.classic_extractor.specs.Step.{advance_of, end_of, store_of}
use Rattle.classic_feed.specs.Feed.{feed_from}
use Rattle.classic_frame.specs.Frame.{checked, escaped_of, framed, sum_of}
use Rattle.classic_frame.specs.Mark.{kind_of}
use Rattle.classic_parts.specs.Byte.{body_byte, byte_of}
use Rattle.classic_parts.specs.Fill.{fill_of}
use Rattle.c_rows.specs.Row.{byte_or}
use Rattle.wire.specs.Limit.{limit_fits}
use Rattle.classic_extractor.specs.State as extractor_state
use Rattle.classic_parts.specs.State as parts_state
use Rattle.worked_calls.specs.Classic.{ClassicCalls, classic_rows}

pub classic-calls : ClassicCalls
unfolding ClassicCalls classic_rows extractor_feed_of extractor_open_of extractor_step_of frame_write_of next_sequence_of none_used extractor_of is_extractor phase_of frame_begin_of frame_part_of is_state pending_of stage_of state_of code_of extractor_state.lawful open_of ready advance_of end_of store_of feed_from checked escaped_of framed sum_of kind_of body_byte byte_of fill_of parts_state.lawful byte_or limit_fits
classic-calls = refl
