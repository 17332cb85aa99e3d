-- The outbox for C: the calls.
use Rattle.std.specs.Prelude.{ℕ, List, [], ◌∷◌, take}
use Rattle.outbox.specs.Format.{version_two, format_of}
use Rattle.outbox.specs.Reader.{read_of, walk_of, number_in}
use Rattle.outbox.specs.Writer.{new_of, append_of}
use Rattle.c_rows.specs.Row.{byte_or, out_of_range}
use Rattle.c_outbox.specs.Convert.{used_in, used_row, record_row, whole_row}
use Rattle.c_rows.specs.Called.{Called, answers}

unfoldable pub outbox_new_of : List ℕ → List ℕ → Called
outbox_new_of buffer answer =
    let s = new_of version_two buffer in
    answers 1 answer buffer (number_in s.told) s.buffer (used_in s.told ∷ [])

-- a stream above 255 counts as no stream, which is out of range
unfoldable pub outbox_append_of : List ℕ → ℕ → ℕ → List ℕ → List ℕ → Called
outbox_append_of buffer used stream payload answer =
    let s = append_of (format_of (take used buffer)) buffer used (byte_or out_of_range stream) payload in
    answers 2 answer buffer (number_in s.told) s.buffer (used_row s.told)

unfoldable pub outbox_record_of : List ℕ → ℕ → List ℕ → Called
outbox_record_of file place answer =
    let a = read_of (format_of file) file place in
    answers 6 answer [] (number_in a) [] (record_row a)

unfoldable pub outbox_whole_of : List ℕ → List ℕ → Called
outbox_whole_of file answer =
    let a = walk_of (format_of file) file in
    answers 1 answer [] (number_in a) [] (whole_row a)
