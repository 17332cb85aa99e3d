-- The state of a frame that is written by parts, and what a call answers, as rows.
use Rattle.std.specs.Prelude.{ℕ, Bool, cond, ◌&&◌, List, [], ◌∷◌, length, get_or, ltb, eqb}
use Rattle.wire.specs.Bytes.{bit}
use Rattle.wire.specs.Told.{Told, given, refused}
use Rattle.classic_frame.specs.declared.mark.Kind.{Kind}
use Rattle.classic_frame.specs.declared.mark.Kind.TheVariants as kind
use Rattle.classic_parts.specs.declared.state.Stage.{Stage}
use Rattle.classic_parts.specs.declared.state.Stage.TheVariants.{Start, PacketId, ErrorId, Sequence, Payload, Low, End, Done}
use Rattle.classic_parts.specs.declared.state.PartProgress.{PartProgress}
use Rattle.classic_parts.specs.declared.state.PartWriter.{PartWriter}
use Rattle.classic_parts.specs.declared.writer.PartCount.{PartCount}
use Rattle.c_classic_parts.specs.declared.convert.PartAnswer.{PartAnswer}

-- ---- the state row: limit, sequence, total, taken, sum, stage, pending

abbrev pub stage_number : Stage → ℕ
stage_number Start = 0
stage_number PacketId = 1
stage_number ErrorId = 2
stage_number Sequence = 3
stage_number Payload = 4
stage_number Low = 5
stage_number End = 6
stage_number Done = 7

-- the stage of a number up to 7
unfoldable pub stage_of : ℕ → Stage
stage_of n =
    cond (eqb n 0) Start
    (cond (eqb n 1) PacketId
    (cond (eqb n 2) ErrorId
    (cond (eqb n 3) Sequence (cond (eqb n 4) Payload (cond (eqb n 5) Low (cond (eqb n 6) End Done))))))

-- 0 where no code is pending, else 1, 2, 3 for that of F0, F1, F2
abbrev pub pending_number : Kind → ℕ
pending_number kind.Start = 1
pending_number kind.End = 2
pending_number kind.Escape = 3
pending_number kind.Plain = 0

unfoldable pub pending_of : ℕ → Kind
pending_of n = cond (eqb n 1) kind.Start (cond (eqb n 2) kind.End (cond (eqb n 3) kind.Escape kind.Plain))

-- numbers that a state can have: a sequence of one byte, a sum of two, a stage up to 7 and a pending code up to 3
unfoldable pub is_state : List ℕ → Bool
is_state row =
    eqb (length row) 7
    && (ltb (get_or row 1 0) 256 && (ltb (get_or row 4 0) 65536 && (ltb (get_or row 5 0) 8 && ltb (get_or row 6 0) 4)))

unfoldable pub state_of : List ℕ → PartWriter
state_of row =
    record {
      limit = get_or row 0 0;
      progress =
          record {
            sequence = get_or row 1 0;
            total = get_or row 2 0;
            taken = get_or row 3 0;
            sum = get_or row 4 0;
            stage = stage_of (get_or row 5 0);
            pending = pending_of (get_or row 6 0);
          };
    }

abbrev pub state_row : ℕ → PartProgress → List ℕ
state_row limit s = limit ∷ s.sequence ∷ s.total ∷ s.taken ∷ s.sum ∷ stage_number s.stage ∷ pending_number s.pending ∷ []

-- ---- the answer

abbrev pub reply : ℕ → ℕ → ℕ → ℕ → PartAnswer
reply number taken written over = record { number = number; taken = taken; written = written; ended = over }

-- the number that a call returns, then taken, written and whether the frame has ended
abbrev pub reply_of : Told PartCount → PartAnswer
reply_of (given c) = reply 0 c.taken c.written (bit c.ended)
reply_of (refused n) = reply n 0 0 0

abbrev pub part_row : PartAnswer → List ℕ
part_row r = r.taken ∷ r.written ∷ r.ended ∷ []
