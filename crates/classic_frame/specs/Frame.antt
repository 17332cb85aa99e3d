-- The frame of Classic: F0, 02, 00, sequence, payload and checksum escaped, F1.
use Rattle.std.specs.Prelude.{ℕ, ◌+◌, ◌%◌, Bool, cond, List, [], ◌∷◌, ◌++◌, take, ◌==◌, bit_xor, slice_index, eqb, Option, Some, None}
use Rattle.wire.specs.Bytes.{pair_of, pair_bytes}
use Rattle.classic_frame.specs.declared.mark.Kind.{Kind}
use Rattle.classic_frame.specs.declared.mark.Kind.TheVariants.{Start, End, Escape, Plain}
use Rattle.classic_frame.specs.Mark.{start_mark, end_mark, escape_mark, kind_of, is_mark}

abbrev pub packet_id : ℕ
packet_id = 0x02

abbrev pub error_id : ℕ
error_id = 0x00

-- what stands after F2 for a mark
unfoldable pub code_for : ℕ → ℕ
code_for b = bit_xor escape_mark b

-- .. for each of the three
abbrev pub start_code : ℕ
start_code = 0x02

abbrev pub end_code : ℕ
end_code = 0x03

abbrev pub escape_code : ℕ
escape_code = 0x00

-- the mark that a code after F2 stands for
unfoldable pub mark_for : ℕ → Option ℕ
mark_for code =
    cond (eqb code start_code) (Some start_mark)
    (cond (eqb code end_code) (Some end_mark) (cond (eqb code escape_code) (Some escape_mark) None))

-- a byte of payload or checksum as it stands in a frame
abbrev pub escaped_by : Kind → ℕ → List ℕ
escaped_by Start b = escape_mark ∷ start_code ∷ []
escaped_by End b = escape_mark ∷ end_code ∷ []
escaped_by Escape b = escape_mark ∷ escape_code ∷ []
escaped_by Plain b = b ∷ []

unfoldable pub escaped_of : List ℕ → List ℕ
escaped_of [] = []
escaped_of (b ∷ bs) = escaped_by (kind_of b) b ++ escaped_of bs

unfoldable pub sum_of : List ℕ → ℕ
sum_of [] = 0
sum_of (b ∷ bs) = b + sum_of bs

-- the checksum: 2 plus the sum of the payload's bytes, modulo 65,536
abbrev pub checksum_of : List ℕ → ℕ
checksum_of payload = (2 + sum_of payload) % 65536

-- the first n bytes are followed by their checksum, big-endian
unfoldable pub checked : List ℕ → ℕ → Bool
checked l n = checksum_of (take n l) == pair_of (slice_index l n) (slice_index l (n + 1))

-- what an extractor stores of a frame: the payload and its checksum
abbrev pub content_of : List ℕ → List ℕ
content_of payload = payload ++ pair_bytes (checksum_of payload)

abbrev pub header_of : ℕ → List ℕ
header_of sequence = start_mark ∷ packet_id ∷ error_id ∷ sequence ∷ []

-- the frame of a content
unfoldable pub framed : ℕ → List ℕ → List ℕ
framed sequence content = header_of sequence ++ (escaped_of content ++ (end_mark ∷ []))

abbrev pub frame_of : ℕ → List ℕ → List ℕ
frame_of sequence payload = framed sequence (content_of payload)

-- the first byte after the marks
abbrev pub after_marks : ℕ
after_marks = 0xf3

-- the next sequence byte: one more modulo 256, past the marks
abbrev pub next_sequence : ℕ → ℕ
next_sequence s = cond (is_mark ((s + 1) % 256)) after_marks ((s + 1) % 256)
