-- The marks of a frame: F0 starts it, F1 ends it, F2 escapes a byte.
use Rattle.std.specs.Prelude.{ℕ, Bool, true, false, cond, ◌==◌}
use Rattle.classic_frame.specs.declared.mark.Kind.{Kind}
use Rattle.classic_frame.specs.declared.mark.Kind.TheVariants.{Start, End, Escape, Plain}

abbrev pub start_mark : ℕ
start_mark = 0xf0

abbrev pub end_mark : ℕ
end_mark = 0xf1

abbrev pub escape_mark : ℕ
escape_mark = 0xf2

-- what a byte is: one of the three marks, or plain
unfoldable pub kind_of : ℕ → Kind
kind_of b = cond (b == start_mark) Start (cond (b == end_mark) End (cond (b == escape_mark) Escape Plain))

abbrev pub is_mark_kind : Kind → Bool
is_mark_kind Start = true
is_mark_kind End = true
is_mark_kind Escape = true
is_mark_kind Plain = false

abbrev pub is_mark : ℕ → Bool
is_mark b = is_mark_kind (kind_of b)
