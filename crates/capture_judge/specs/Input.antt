-- The whole input of the program: room and limit, two bytes each, then a capture.
use Rattle.std.specs.Prelude.{ℕ, ◌+◌, List, [], ◌∷◌, length, get_or, drop, ltb}
use Rattle.wire.specs.Bytes.{pair_of}
use Rattle.wire.specs.Told.{refused, line, table}
use Rattle.capture_reader.specs.Capture.{ToldAt}
use Rattle.capture_judge.specs.declared.capture.Judgement.{Judgement}
use Rattle.capture_judge.specs.Capture.{traced_of, Answer, answer_of}

-- the bytes of room and limit
abbrev pub settings : ℕ
settings = 4

abbrev pub largest_capture : ℕ
largest_capture = 65536

-- absent bytes are 0
abbrev pub room_in : List ℕ → ℕ
room_in bytes = pair_of (get_or bytes 0 0) (get_or bytes 1 0)

abbrev pub limit_in : List ℕ → ℕ
limit_in bytes = pair_of (get_or bytes 2 0) (get_or bytes 3 0)

-- first of all 1 for a longer capture
unfoldable pub input_traced : List ℕ → ToldAt Judgement
input_traced bytes =
    table (line 1 (ltb (settings + largest_capture) (length bytes)) ∷ []) (λ n. refused (n, 0)) (traced_of (room_in bytes) (limit_in bytes) (drop settings bytes))

unfoldable pub input_of : List ℕ → ToldAt Answer
input_of bytes = answer_of (input_traced bytes)
