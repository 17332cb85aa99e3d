-- Texts, called from C, by computation.
use mathlib.Core.Path.{refl}
use Rattle.c_text.specs.Calls.{text_of}
use Rattle.utf8.specs.Table.{rows, within, row_of}
use Rattle.utf8.specs.WellFormed.{sequence_at, bad_place}
use Rattle.utf8_shown.specs.Shown.{hidden_rows, is_hidden, hidden_place}
use Rattle.worked_calls.specs.Texts.{TextCalls, texts_rows}

pub text-calls : TextCalls
unfolding TextCalls texts_rows text_of rows within row_of sequence_at bad_place hidden_rows is_hidden hidden_place
text-calls = refl
