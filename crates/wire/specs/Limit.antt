-- The limit of a link: its largest message in bytes, set when the link is opened.
use Rattle.std.specs.Prelude.{ℕ, Bool, ◌&&◌, leb}
use Rattle.wire.specs.declared.limit.BadLimit.{BadLimit}

-- 1 to 65,535, the largest total
unfoldable pub limit_fits : ℕ → Bool
limit_fits limit = leb 1 limit && leb limit 65535

-- a limit out of its range is refusal 17
abbrev pub limit_number : BadLimit → ℕ
limit_number why = 17
