-- An instance of ListsAsWhole: a format of lengths of one byte and payloads of up to one, a file of two records that comes in two parts.
use Rattle.std.proofs.Common.{◌≡◌, ℕ, ◌<◌, true, false, List, [], ◌∷◌, ◌++◌, take, refl, arith, Err}
use Rattle.wire.specs.Stream.{is_stream}
use Rattle.outbox.specs.Format.{Format, number_of}
use Rattle.outbox.specs.Reader.{other_version, bad_place, bad_length, cut_short, bad_stream, record_at, read_of, readings, read_all, walk_of}
use Rattle.outbox_claims.specs.Claims.{records_of, all_moved, from_place}
use Rattle.outbox.specs.declared.verdict.Fault.TheVariants.{Cut}
use Rattle.cli_listing.specs.Listing.{listed, listed_of, told_part, carried, carry_of}
use Rattle.cli_listing.proofs.Parts.{lists-as-whole}

abbrev tiny : Format
tiny = record { version = 1; width = 1; limit = 1 }

-- the record 41 for Alexa and an empty one for the OTA stream; of the second the length is in the first part
abbrev buffer : List ℕ
buffer = 1 ∷ 2 ∷ 6 ∷ 65 ∷ 1 ∷ 9 ∷ []

abbrev more : List ℕ
more = 2 ∷ []

-- the part is listed up to the second record, and that is carried over
stops : listed_of tiny false (take 5 buffer) ≡ listed false 4
unfolding listed_of is_stream walk_of read_all readings read_of other_version bad_place record_at bad_length cut_short bad_stream number_of
stops = refl

-- a cut record ends the last part; a length of 0 and another version end any
ends : (listed_of tiny true (take 5 buffer) ≡ listed true 4) × (listed_of tiny false (1 ∷ 0 ∷ []) ≡ listed true 1) × (listed_of tiny false (2 ∷ []) ≡ listed true 0)
unfolding listed_of is_stream walk_of read_all readings read_of other_version bad_place record_at bad_length cut_short bad_stream number_of
ends = (refl, refl, refl)

-- a refusal is the end of the listing, at its place
told : told_part (Err (record { fault = Cut; place = 5 })) ≡ listed true 5
told = refl

carries : (carry_of buffer 4 5 ≡ carried 2 (1 ∷ 1 ∷ 6 ∷ 65 ∷ 1 ∷ 9 ∷ [])) × (from_place tiny (take 5 buffer ++ more) 4 ≡ 1 ∷ 1 ∷ 2 ∷ [])
unfolding carry_of
carries = (refl, refl)

-- the two parts' records are the file's
whole : read_all tiny (take 5 buffer ++ more) ≡ records_of (read_all tiny (take 5 buffer)) ++ all_moved 3 (read_all tiny (1 ∷ 1 ∷ 2 ∷ []))
unfolding is_stream read_all readings read_of other_version bad_place record_at bad_length cut_short bad_stream number_of
whole = refl

-- where just the longest record fits, the listing goes beyond it
further : 1 < (listed_of tiny false (take 4 buffer)).place
unfolding listed_of is_stream walk_of read_all readings read_of other_version bad_place record_at bad_length cut_short bad_stream number_of
further = lists-as-whole.further tiny (take 4 buffer) (omega arith) refl

-- another version's byte alone ends it
over : read_all tiny (2 ∷ more) ≡ read_all tiny (2 ∷ [])
unfolding listed_of walk_of read_all readings read_of other_version
over = lists-as-whole.over tiny (2 ∷ []) more (omega arith) refl
