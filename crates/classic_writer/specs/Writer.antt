-- The frame writer: what it tells and leaves.
use Rattle.std.specs.Prelude.{ℕ, ◌+◌, ◌≤◌, ◌≡◌, List, [], ◌∷◌, not, ◌||◌, length, drop, ltb, Result}
use Rattle.std.proofs.lemmas.List.Edits.{sets}
use Rattle.wire.specs.Told.{Told, told_by, line, Written, writes}
use Rattle.wire.specs.Limit.{limit_fits}
use Rattle.classic_frame.specs.Mark.{is_mark}
use Rattle.classic_frame.specs.Frame.{escaped_of, frame_of}
use Rattle.classic_writer.specs.declared.writer.Refusal.{Refusal}
use Rattle.classic_writer.specs.declared.writer.Refusal.TheVariants.{BadLimit, BadArgument, NoRoom}

abbrev pub number_of : Refusal → ℕ
number_of BadLimit = 17
number_of BadArgument = 15
number_of NoRoom = 14

-- the frame's length
abbrev pub told : Result ℕ Refusal → Told ℕ
told = told_by number_of

-- the writer, on all inputs
abbrev pub write_of : ℕ → ℕ → List ℕ → List ℕ → Written ℕ
write_of limit sequence payload out =
    writes
    (line 17 (not (limit_fits limit))
    ∷ line 15 (is_mark sequence || ltb limit (length payload))
    ∷ line 14 (ltb (length out) (length (frame_of sequence payload)))
    ∷ [])
    (length (frame_of sequence payload)) out (sets out 0 (frame_of sequence payload))

-- what is left to be written from j on at a place leaves what was left from i on at another place before
pub record Left (bytes before : List ℕ) (at i : ℕ) (now : List ℕ) (place j : ℕ) : Type 0 where
  pub from : i ≤ j
  pub within : j ≤ length bytes
  pub size : place + length (escaped_of (drop j bytes)) ≡ at + length (escaped_of (drop i bytes))
  pub stored : sets now place (escaped_of (drop j bytes)) ≡ sets before at (escaped_of (drop i bytes))
