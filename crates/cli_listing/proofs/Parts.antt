-- Laws of a part of a file: how far its listing goes, and what is carried over.
use Rattle.std.proofs.Common.{◌≡◌, ℕ, ◌+◌, ◌-◌, ◌<◌, ◌≤◌, Bool, true, false, not, ◌&&◌, eqb, List, [], ◌∷◌, ◌++◌, length, take, drop, sym, refl, ap, ◌∙◌, arith, length-append, length-drop, length-take-le, take-take, eqb-true}
use mathlib.Mathlib.Data.Bool.Basic.{or-eq-false-eq-eq-false-and-eq-false}
use lib.Seq.{sets, take-append_seam, drop-append-le}
use borrow.Author.Tests.{not-false}
use Rattle.wire.proofs.Stores.{part-stored}
use Rattle.outbox.specs.Format.{Format, is_one, format_of, head_size, new_bytes, first_place}
use Rattle.outbox.specs.Reader.{Answer, HandedRecord, given, refused, refused_at, other_version, read_all, first_refusal, walk_of}
use Rattle.outbox_claims.specs.Claims.{usable, records_of, all_moved, from_place, ReadsAsAlone}
use Rattle.outbox.proofs.Versions.{known_small}
use Rattle.outbox.proofs.Record.{clash}
use Rattle.outbox.proofs.Walk.{other-version-walk}
use Rattle.outbox.proofs.Place.{found_within, version-more}
use Rattle.outbox_claims.proofs.Run.{RecordRun, ends, stops, goes, all-run, run-all, walk_is}
use Rattle.outbox_claims.proofs.Cut.{run-usable}
use Rattle.outbox_claims.proofs.Append.{bounds}
use Rattle.outbox_claims.proofs.Moved.{never-cut}
use Rattle.outbox_claims.proofs.ReadsAsAlone.{reads-as-alone}
use Rattle.outbox_claims.proofs.Stays.{run-stays, other-version-all, other-version-stays}
use Rattle.cli_listing.specs.declared.Listed.{Listed}
use Rattle.cli_listing.specs.Listing.{is_over, listed, listed_of, Carried, carried, carry_of, ListsAsWhole}

-- a refusal that does not end the listing is that of a cut
not-over : (b : Bool) → not (b && not false) ≡ false → b ≡ true
not-over true e = refl
not-over false e = absurd (clash (cc))

ends-uncut : (b : Bool) → not (b && not false) ≡ true → b ≡ false
ends-uncut true e = absurd (clash (cc))
ends-uncut false e = refl

-- a refusal met in reading place after place is told with its place
run-never-refused : (fmt : Format) (file : List ℕ) {place : ℕ} {hs : List HandedRecord} → RecordRun fmt file place hs → (n : ℕ) → first_refusal hs ≡ refused n → ⊥
run-never-refused fmt file (ends place e) n r = clash (cc)
run-never-refused fmt file (stops place inside e) n r = clash (cc)
run-never-refused fmt file (goes place inside e p later) n r = run-never-refused fmt file later n r

-- a listing that is not over has met the version
module _ (fmt : Format) (last : Bool) (part : List ℕ) (more : (listed_of fmt last part).over ≡ false) where
  pub more-version : other_version fmt part ≡ false
  unfolding listed_of
  more-version = by-version (other_version fmt part) refl
    where
      by-version : (b : Bool) → other_version fmt part ≡ b → other_version fmt part ≡ false
      by-version true v = absurd (clash (cc (ap (is_over last) (other-version-walk fmt part v))))
      by-version false v = v

  -- .. and is at a place within the part
  pub more_within : (first_place ≤ (listed_of fmt last part).place) × ((listed_of fmt last part).place ≤ length part)
  unfolding listed_of
  more_within = bounds fmt part more-version (usable (walk_of fmt part) part) refl

-- the same, of what a call told
pub told-within : {r : Listed} (fmt : Format) (last : Bool) (buffer : List ℕ) (held : ℕ) → held ≤ length buffer → r ≡ listed_of fmt last (take held buffer) → r.over ≡ false
    → (first_place ≤ r.place) × (r.place ≤ held)
told-within {r} fmt last buffer held fits e more =
    let within = more_within fmt last (take held buffer) (sym (ap (λ (l : Listed). l.over) e) ∙ more) in
    let place = ap (λ (l : Listed). l.place) e in
    (omega (arith, within.0, place), omega (arith, within.1, place, length-take-le held buffer fits))

-- .. by the walk over the part
pub listed_by : (fmt : Format) (last : Bool) (part : List ℕ) {w : Answer (Unit {0})} → w ≡ walk_of fmt part → listed (is_over last w) (usable w part) ≡ listed_of fmt last part
unfolding listed_of
listed_by fmt last part e = ap (λ w. listed (is_over last w) (usable w part)) e

-- what is carried over is no longer than it was
pub carried-within : {r : ℕ} {after : List ℕ} (buffer : List ℕ) (place held : ℕ) → carried r after ≡ carry_of buffer place held → first_place ≤ place → place ≤ held → r ≤ held
unfolding carry_of
carried-within {r} buffer place held e first within = omega (arith, ap (λ (c : Carried). c.held) e)

-- a listing that is over before the last part ends at a refusal that stays
over : (fmt : Format) (part more : List ℕ) → 1 ≤ length part → (listed_of fmt false part).over ≡ true → read_all fmt (part ++ more) ≡ read_all fmt part
unfolding listed_of
over fmt part more some ended = by-version (other_version fmt part) refl
  where
    by-walk : (w : Answer (Unit {0})) → walk_of fmt part ≡ w → is_over false w ≡ true → other_version fmt part ≡ false → read_all fmt (part ++ more) ≡ read_all fmt part
    by-walk (given whole) e o v = absurd (clash (cc))
    by-walk (refused n) e o v = absurd (run-never-refused fmt part (all-run fmt part v) n (sym (walk_is fmt part) ∙ e))
    by-walk (refused_at n p) e o v =
        run-all fmt (part ++ more) (version-more fmt part more v)
        (run-stays fmt part more n p (ends-uncut (eqb n 41) o) (all-run fmt part v) (sym (walk_is fmt part) ∙ e))

    by-version : (b : Bool) → other_version fmt part ≡ b → read_all fmt (part ++ more) ≡ read_all fmt part
    by-version true v =
        other-version-all fmt (part ++ more) (other-version-stays fmt part more some ∙ v) ∙ sym (other-version-all fmt part v)
    by-version false v = by-walk (walk_of fmt part) refl ended v

-- one that is not goes on at the place that it told
goes_on : (fmt : Format) (part more : List ℕ) → (listed_of fmt false part).over ≡ false
    → let place = (listed_of fmt false part).place in
    read_all fmt (part ++ more) ≡ records_of (read_all fmt part) ++ all_moved (place - first_place) (read_all fmt (from_place fmt (part ++ more) place))
unfolding ReadsAsAlone listed_of
goes_on fmt part more unfinished =
    let place = usable (walk_of fmt part) part in
    let version = more-version fmt false part unfinished in
    let within = bounds fmt part version place refl in
    let all = length-append part more in
    let looked : take (length part) (part ++ more) ≡ part = take-append_seam part more in
    rw looked at
    ((reads-as-alone fmt (part ++ more) (version-more fmt part more version) place within.0 (omega arith)).rest (length part) (omega arith) (rw looked))

-- where the longest record fits, the first one is passed
further : (fmt : Format) (part : List ℕ) → first_place + (head_size fmt + fmt.limit) ≤ length part → (listed_of fmt false part).over ≡ false
    → first_place < (listed_of fmt false part).place
unfolding listed_of
further fmt part enough unfinished = by-run (all-run fmt part version) (walk_is fmt part)
  where
    version : other_version fmt part ≡ false
    version = more-version fmt false part unfinished

    by-run : {hs : List HandedRecord} → RecordRun fmt part 1 hs → walk_of fmt part ≡ first_refusal hs → 1 < usable (walk_of fmt part) part
    by-run (ends place e) walked = absurd (omega arith)
    by-run (stops place {n = n} inside e) walked =
        let cut : n ≡ 41 = eqb-true n 41 (not-over (eqb n 41) (rw walked at unfinished)) in
        absurd (never-cut fmt (drop 1 part) 1 (simp length-drop (omega arith)) (rw cut at e))
    by-run (goes place {f = f} inside e p r) walked =
        let after = (found_within fmt part 1 f (omega arith) e).0 in
        rw walked (omega (arith, (run-usable fmt part r).0))

-- at the last part a cut record ends it too
ends_last : (b : Bool) → not (b && not true) ≡ true
ends_last true = refl
ends_last false = refl

last : (fmt : Format) (part : List ℕ) → (listed_of fmt true part).over ≡ true
unfolding listed_of
last fmt part = by-walk (walk_of fmt part)
  where
    by-walk : (w : Answer (Unit {0})) → is_over true w ≡ true
    by-walk (given whole) = refl
    by-walk (refused n) = refl
    by-walk (refused_at n p) = ends_last (eqb n 41)

version : (b : ℕ) (part file : List ℕ) → format_of (b ∷ part) ≡ format_of (b ∷ file)
unfolding format_of is_one
version b part file = refl

-- the first byte of an outbox is its version
version-byte : (fmt : Format) (file : List ℕ) → other_version fmt file ≡ false → take first_place file ≡ new_bytes fmt
unfolding other_version
version-byte fmt [] v = absurd (clash (cc))
version-byte fmt (b ∷ file) v =
    let same = ((or-eq-false-eq-eq-false-and-eq-false (eqb (length (b ∷ file)) 0) (not (eqb b fmt.version))).0 v).1 in
    rw (eqb-true b fmt.version (not-false _ same))

-- the version byte stays, and behind it stand the bytes from the place on
module _ (buffer : List ℕ) (place held : ℕ) (first : first_place ≤ place) (within : place ≤ held) (fits : held ≤ length buffer) where
  carries : (fmt : Format) (more : List ℕ) → other_version fmt (take held buffer) ≡ false
      → let next = carry_of buffer place held in
      (next.held ≡ length (from_place fmt (take held buffer) place)) × (take next.held next.buffer ++ more ≡ from_place fmt (take held buffer ++ more) place)
  unfolding carry_of
  carries fmt more v =
      let part = take held buffer in
      let run = drop place part in
      let run_long : length run ≡ held - place = length-drop place (take held buffer) ∙ rw (length-take-le held buffer fits) in
      let version : take first_place buffer ≡ new_bytes fmt = sym (take-take first_place held buffer (omega arith)) ∙ version-byte fmt part v in
      let stored : take (first_place + length run) (sets buffer first_place run) ≡ new_bytes fmt ++ run
      = part-stored buffer 0 first_place run (omega (arith, run_long)) ∙ ap (λ l. l ++ run) version in (
        omega (arith, run_long),
        ap (λ n. take (first_place + n) (sets buffer first_place run) ++ more) (sym run_long)
            ∙ ap (λ l. l ++ more) stored
            ∙ ap (λ l. new_bytes fmt ++ l) (sym (drop-append-le place part more (omega (arith, length-take-le held buffer fits)))),
      )

pub lists-as-whole : ListsAsWhole
lists-as-whole =
    record {
      version = version;
      over = over;
      goes_on = goes_on;
      carries = λ fmt buffer more held fits unfinished.
          let part = take held buffer in
          let within = more_within fmt false part unfinished in
          let place = (listed_of fmt false part).place in
          let inside : place ≤ held = omega (arith, within.1, length-take-le held buffer fits) in
          carries buffer place held within.0 inside fits fmt more (more-version fmt false part unfinished);
      further = further;
      full = λ fmt known part size unfinished.
          let small = known_small fmt known in
          further fmt part (omega (arith, size, small.1, small.2)) unfinished;
      last = last;
    }
