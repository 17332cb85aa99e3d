-- Calls of the frame writer by parts one after another, and what they write.
use Rattle.std.specs.Prelude.{ℕ, ◌+◌, Bool, false, cond, ◌&&◌, List, [], ◌∷◌, ◌++◌, length, take, drop, leb}
use Rattle.wire.specs.Told.{Told, given, refused}
use Rattle.classic_parts.specs.declared.state.PartProgress.{PartProgress}
use Rattle.classic_parts.specs.declared.writer.PartCount.{PartCount}
use Rattle.classic_parts.specs.Writer.{part_of}

-- a call and the output that is lent to it: the next n payload bytes are offered, or as many as are left; or all that are left and more
-- bytes, one at least, behind them
pub data PartCall : Type 0 where
  part : ℕ → List ℕ → PartCall
  beyond : ℕ → List ℕ → List ℕ → PartCall

abbrev pub offered_by : PartCall → List ℕ → List ℕ
offered_by (part n out) left = take n left
offered_by (beyond b bs out) left = left ++ (b ∷ bs)

abbrev pub lent_by : PartCall → List ℕ
lent_by (part n out) = out
lent_by (beyond b bs out) = out

-- the payload bytes that a call tells as taken, and the bytes of its output that it tells as written
abbrev pub taken_by : Told PartCount → ℕ
taken_by (given c) = c.taken
taken_by (refused n) = 0

abbrev pub written_by : Told PartCount → List ℕ → List ℕ
written_by (given c) out = take c.written out
written_by (refused n) out = []

-- the outputs joined, the payload bytes taken and the state afterwards
pub record PartRun : Type 0 where
  pub bytes : List ℕ
  pub taken : ℕ
  pub next : PartProgress

abbrev pub joined : List ℕ → ℕ → PartRun → PartRun
joined bytes taken later = record { bytes = bytes ++ later.bytes; taken = taken + later.taken; next = later.next }

-- each call begins at the first payload byte not yet taken, with the state that the one before left
unfoldable pub run_of : ℕ → List PartCall → PartProgress → List ℕ → PartRun
run_of limit [] s left = record { bytes = []; taken = 0; next = s }
run_of limit (c ∷ cs) s left =
    let w = part_of limit s (offered_by c left) (lent_by c) in
    joined (written_by w.told w.out) (taken_by w.told) (run_of limit cs w.next (drop (taken_by w.told) left))

-- how many calls offer a payload byte, if one is left, and lend an output
abbrev pub is_fruitful : PartCall → Bool
is_fruitful (part n out) = leb 1 n && leb 1 (length out)
is_fruitful (beyond b bs out) = false

unfoldable pub fruitful : List PartCall → ℕ
fruitful [] = 0
fruitful (c ∷ cs) = cond (is_fruitful c) 1 0 + fruitful cs
