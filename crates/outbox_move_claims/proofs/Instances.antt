-- Small files by computation, and the claim where its premises just hold.
use Prim.Native.Nat.{ℕ}
use mathlib.Core.Path.{◌≡◌, refl}
use mathlib.Core.List.{List, [], ◌∷◌}
use native.Mathlib.Omega.{arith}
use lib.ListN.{replicate}
use Rattle.wire.specs.Stream.{is_stream}
use Rattle.outbox.specs.Format.{Format, version_one, version_two, is_one, format_of, number_of, bytes_of, record_bytes}
use Rattle.outbox.specs.Reader.{given, refused, refused_at, other_version, bad_place, bad_length, cut_short, bad_stream, record_at, read_of, readings, read_all, walk_of}
use Rattle.outbox.specs.Writer.{stored, stored_at}
use Rattle.outbox_claims.specs.Versions.{two}
use Rattle.outbox_move.specs.Moves.{moved_to, move_of}
use Rattle.outbox_move_claims.specs.Claims.{Movable, Moves, FilesMove}
use Rattle.outbox_move_claims.proofs.FilesMove.{files-move}

abbrev one_record : List ℕ
one_record = 1 ∷ 0 ∷ 3 ∷ 6 ∷ 65 ∷ 66 ∷ []

abbrev one_record_two : List ℕ
one_record_two = 2 ∷ 0 ∷ 0 ∷ 0 ∷ 3 ∷ 6 ∷ 65 ∷ 66 ∷ []

there : move_of version_two one_record (replicate 9 7) ≡ stored (given 8) (2 ∷ 0 ∷ 0 ∷ 0 ∷ 3 ∷ 6 ∷ 65 ∷ 66 ∷ 7 ∷ [])
unfolding move_of is_one format_of walk_of read_all readings read_of other_version bad_place record_at bad_length cut_short bad_stream number_of is_stream moved_to record_bytes bytes_of
there = refl

back : move_of version_one one_record_two (replicate 6 7) ≡ stored (given 6) one_record
unfolding move_of is_one format_of walk_of read_all readings read_of other_version bad_place record_at bad_length cut_short bad_stream number_of is_stream moved_to record_bytes bytes_of
back = refl

no_room : move_of version_two one_record (replicate 7 7) ≡ stored (refused 14) (replicate 7 7)
unfolding move_of is_one format_of walk_of read_all readings read_of other_version bad_place record_at bad_length cut_short bad_stream number_of is_stream moved_to record_bytes bytes_of
no_room = refl

-- a version 01 whose payloads have one byte at most
abbrev tiny : Format
tiny = record { version = 1; width = 2; limit = 1 }

-- the second record's payload is over it; a stray byte behind comes first
too_long : move_of tiny (2 ∷ 0 ∷ 0 ∷ 0 ∷ 2 ∷ 6 ∷ 65 ∷ 0 ∷ 0 ∷ 0 ∷ 3 ∷ 6 ∷ 65 ∷ 66 ∷ []) (7 ∷ []) ≡ stored (refused_at 46 7) (7 ∷ [])
unfolding move_of is_one format_of walk_of read_all readings read_of other_version bad_place record_at bad_length cut_short bad_stream number_of is_stream moved_to
too_long = refl

cut-first : move_of tiny (2 ∷ 0 ∷ 0 ∷ 0 ∷ 3 ∷ 6 ∷ 65 ∷ 66 ∷ 9 ∷ []) (7 ∷ []) ≡ stored (refused_at 41 8) (7 ∷ [])
unfolding move_of is_one format_of walk_of read_all readings read_of other_version bad_place record_at bad_length cut_short bad_stream number_of is_stream moved_to
cut-first = refl

movable : Movable 65535 one_record
unfolding is_one format_of walk_of read_all readings read_of other_version bad_place record_at bad_length cut_short bad_stream number_of is_stream
movable =
    record {
      bytes = (omega arith, (omega arith, (omega arith, (omega arith, (omega arith, (omega arith, tt))))));
      whole = refl;
      short = (omega arith, tt);
    }

-- just room for it
claimed : Moves version_two one_record 8 (move_of version_two one_record (replicate 8 7))
unfolding FilesMove is_one format_of read_all readings read_of other_version bad_place record_at bad_length cut_short bad_stream number_of is_stream
claimed = files-move version_two 2 5 65535 two one_record (replicate 8 7) movable (omega arith)

-- .. and for the way back
claimed-back : move_of version_one one_record_two (replicate 6 7) ≡ stored_at (replicate 6 7) 0 one_record
unfolding FilesMove is_one format_of walk_of move_of read_all readings read_of other_version bad_place record_at bad_length cut_short bad_stream number_of is_stream moved_to record_bytes bytes_of
claimed-back = claimed.back (replicate 6 7) (omega arith)
