-- Listing an outbox file part by part: a part is the version byte and the bytes from a place of the file on.
use Rattle.std.specs.Prelude.{◌≡◌, ℕ, ◌+◌, ◌-◌, ◌<◌, ◌≤◌, Bool, true, false, not, ◌&&◌, List, ◌∷◌, ◌++◌, length, take, drop, ◌==◌, Result, Ok, Err}
use Rattle.std.proofs.lemmas.List.Edits.{sets}
use Rattle.outbox.specs.declared.verdict.Broken.{Broken}
use Rattle.outbox.specs.Format.{Format, Known, format_of, head_size, first_place}
use Rattle.outbox.specs.Reader.{Answer, given, refused, refused_at, read_all, walk_of}
use Rattle.outbox_claims.specs.Claims.{usable, records_of, all_moved, from_place}
use Rattle.cli_listing.specs.declared.Listed.{Listed}

-- the bytes of the buffer that a file passes through
abbrev pub buffer_size : ℕ
buffer_size = 65541

-- a refusal ends the listing, but for a record that is cut short before the last part: it may go on in the next
abbrev pub ends_by : Bool → ℕ → Bool
ends_by last n = not (n == 41 && not last)

-- whether the listing is over after a part, by the part's walk
abbrev pub is_over : Bool → Answer (Unit {0}) → Bool
is_over last (given whole) = last
is_over last (refused n) = true
is_over last (refused_at n place) = ends_by last n

abbrev pub listed : Bool → ℕ → Listed
listed over place = record { over = over; place = place }

-- a part is listed to its end, or to the place of its first refusal
unfoldable pub listed_of : Format → Bool → List ℕ → Listed
listed_of fmt last part = listed (is_over last (walk_of fmt part)) (usable (walk_of fmt part) part)

-- a part looked through: a refusal ends the listing at its place
abbrev pub told_part : Result Listed Broken → Listed
told_part (Ok part) = part
told_part (Err broken) = listed true broken.place

-- how many bytes a part has, and the buffer that it begins
pub record Carried : Type 0 where
  pub held : ℕ
  pub buffer : List ℕ

abbrev pub carried : ℕ → List ℕ → Carried
carried held buffer = record { held = held; buffer = buffer }

-- the bytes of a part from a place on go to where the first record stands
unfoldable pub carry_of : List ℕ → ℕ → ℕ → Carried
carry_of buffer place held = carried (first_place + (held - place)) (sets buffer first_place (drop place (take held buffer)))

-- listing part by part gives what the whole file gives
pub record ListsAsWhole : Type 0 where
  -- a part is judged by the version of the file, whose first byte it has
  pub version : (b : ℕ) (part file : List ℕ) → format_of (b ∷ part) ≡ format_of (b ∷ file)
  -- where the listing is over before the last part, what follows makes no difference
  pub over : (fmt : Format) (part more : List ℕ) → 1 ≤ length part → (listed_of fmt false part).over ≡ true → read_all fmt (part ++ more) ≡ read_all fmt part
  -- where it is not, what follows the part's records is what the next part gives, from the place on
  pub goes_on : (fmt : Format) (part more : List ℕ) → (listed_of fmt false part).over ≡ false
      → let place = (listed_of fmt false part).place in
      read_all fmt (part ++ more) ≡ records_of (read_all fmt part) ++ all_moved (place - first_place) (read_all fmt (from_place fmt (part ++ more) place))
  -- .. which begins with what is carried over, in as many bytes as are told
  pub carries : (fmt : Format) (buffer more : List ℕ) (held : ℕ) → held ≤ length buffer
      → let part = take held buffer in
      (listed_of fmt false part).over ≡ false
      → let place = (listed_of fmt false part).place in
      let next = carry_of buffer place held in
      (next.held ≡ length (from_place fmt part place)) × (take next.held next.buffer ++ more ≡ from_place fmt (part ++ more) place)
  -- .. and with room for the longest record that place is beyond the first record's
  pub further : (fmt : Format) (part : List ℕ) → first_place + (head_size fmt + fmt.limit) ≤ length part → (listed_of fmt false part).over ≡ false
      → first_place < (listed_of fmt false part).place
  -- a full buffer has that room
  pub full : (fmt : Format) → Known fmt → (part : List ℕ) → length part ≡ buffer_size → (listed_of fmt false part).over ≡ false
      → first_place < (listed_of fmt false part).place
  -- the last part ends the listing
  pub last : (fmt : Format) (part : List ℕ) → (listed_of fmt true part).over ≡ true
