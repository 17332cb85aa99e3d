-- The calls of the frame writer by parts for C.
use Rattle.std.specs.Prelude.{ℕ, cond, ◌&&◌, List, [], length, eqb}
use Rattle.wire.specs.Told.{Told, given, refused}
use Rattle.classic_frame.specs.Mark.{start_mark}
use Rattle.classic_parts.specs.declared.state.PartWriter.{PartWriter}
use Rattle.classic_parts.specs.Writer.{PartWrote, begin_of, part_of}
use Rattle.c_rows.specs.Row.{afterwards, byte_or}
use Rattle.c_rows.specs.Called.{Called, called, if_fit}
use Rattle.c_classic_parts.specs.Convert.{is_state, state_of, state_row, reply_of, part_row}

-- the state row after a call that returns a number: each refusal leaves it
abbrev pub kept : ℕ → List ℕ → List ℕ → List ℕ
kept number before row = cond (eqb number 0) row before

-- the state row after a start
abbrev pub begun : List ℕ → Told PartWriter → Called
begun state (given s) = called 0 (state_row s.limit s.progress) [] []
begun state (refused n) = called n state [] []

-- a sequence above 255 counts as a mark: 15
unfoldable pub frame_begin_of : ℕ → ℕ → ℕ → List ℕ → Called
frame_begin_of limit sequence total state =
    if_fit (eqb (length state) 7) state [] [] (begun state (begin_of limit (byte_or start_mark sequence) total))

-- rows and output after a part; the limit stays
abbrev pub parted : List ℕ → List ℕ → ℕ → PartWrote → Called
parted state answer limit w =
    let r = reply_of w.told in
    called r.number (kept r.number state (state_row limit w.next)) w.out (afterwards r.number answer (part_row r))

unfoldable pub frame_part_of : List ℕ → List ℕ → List ℕ → List ℕ → Called
frame_part_of state payload out answer =
    let s = state_of state in
    if_fit (eqb (length answer) 3 && is_state state) state out answer (parted state answer s.limit (part_of s.limit s.progress payload out))
