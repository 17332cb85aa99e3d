-- Classic for C: the calls of the extractor and of the frame writer.
use Rattle.std.specs.Prelude.{ℕ, cond, ◌&&◌, List, [], ◌∷◌, length, replicate, eqb}
use Rattle.wire.specs.Told.{Told, given, refused}
use Rattle.classic_frame.specs.Mark.{start_mark}
use Rattle.classic_frame.specs.Frame.{next_sequence}
use Rattle.classic_extractor.specs.declared.state.Extractor.{Extractor}
use Rattle.classic_extractor.specs.State.{open_of}
use Rattle.classic_extractor.specs.Step.{ByteStep, byte_step_of}
use Rattle.classic_feed.specs.Feed.{Feed, feed_of}
use Rattle.classic_writer.specs.Writer.{write_of}
use Rattle.c_rows.specs.Row.{afterwards, byte_or}
use Rattle.c_classic.specs.Convert.{is_extractor, extractor_of, extractor_row, reply_of, step_row, feed_row}
use Rattle.c_rows.specs.Called.{Called, called, if_fit, writer_call}

-- the state row after an opening
abbrev pub opened : List ℕ → Told Extractor → Called
opened state (given x) = called 0 (extractor_row x.limit x.progress) [] []
opened state (refused n) = called n state [] []

unfoldable pub extractor_open_of : ℕ → List ℕ → Called
extractor_open_of limit state = if_fit (eqb (length state) 4) state [] [] (opened state (open_of limit))

-- rows and lent bytes after a step; the limit stays
abbrev pub stepped : List ℕ → List ℕ → ℕ → ByteStep → Called
stepped state answer limit s =
    let r = reply_of s.report in
    called r.number (afterwards r.number state (extractor_row limit s.next)) s.buffer (afterwards r.number answer (step_row r))

unfoldable pub extractor_step_of : List ℕ → List ℕ → ℕ → List ℕ → Called
extractor_step_of state lent b answer =
    let x = extractor_of state in
    if_fit (eqb (length answer) 3 && is_extractor state) state lent answer (stepped state answer x.limit (byte_step_of x.limit x.progress lent b))

-- rows and lent bytes after many bytes: the answer row is written under 1 too
abbrev pub fed_call : List ℕ → ℕ → Feed → Called
fed_call state limit f =
    let r = reply_of f.report in
    called r.number (afterwards r.number state (extractor_row limit f.next)) f.buffer (feed_row f.used r)

-- the answer row of a feed that is refused by 1: 0 used, where it has its length
unfoldable pub none_used : List ℕ → List ℕ
none_used answer = cond (eqb (length answer) 4) (replicate 4 0) answer

unfoldable pub extractor_feed_of : List ℕ → List ℕ → List ℕ → List ℕ → Called
extractor_feed_of state lent bytes answer =
    let x = extractor_of state in
    if_fit (eqb (length answer) 4 && is_extractor state) state lent (none_used answer) (fed_call state x.limit (feed_of x.limit x.progress lent bytes))

-- a sequence above 255 counts as a mark: 15
unfoldable pub frame_write_of : ℕ → ℕ → List ℕ → List ℕ → List ℕ → Called
frame_write_of limit sequence payload out answer = writer_call out answer (write_of limit (byte_or start_mark sequence) payload out)

unfoldable pub next_sequence_of : ℕ → List ℕ → Called
next_sequence_of sequence answer = if_fit (eqb (length answer) 1) [] [] answer (called 0 [] [] (next_sequence sequence ∷ []))
