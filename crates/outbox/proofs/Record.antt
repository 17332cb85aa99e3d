-- Laws of the record at the front of some bytes.
use Prim.Native.Nat.{ℕ, ◌+◌, ◌-◌, ◌≤◌, ◌<◌}
use mathlib.Core.Path.{◌≡◌, refl, ◌∙◌}
use mathlib.Core.Bool.{Bool, true, false, ◌&&◌, ◌||◌}
use mathlib.Core.List.{List, [], ◌∷◌, ◌++◌}
use mathlib.Mathlib.Data.Bool.Basic.{or-eq-false-eq-eq-false-and-eq-false}
use native.Mathlib.Decide.{dec_le}
use native.Mathlib.Omega.{arith}
use lib.Dec.{eqb, leb, ltb}
use lib.ListN.{length, get_or, length-append, get_or-append}
use borrow.Author.Tests.{ltb-false, eqb-false, le-leb, lt-leb, le-ltb, lt-ltb, ne_eqb, not-false}
use Rattle.wire.specs.Stream.{is_stream}
use Rattle.wire.specs.Told.{line, table}
use Rattle.outbox.specs.Format.{Format}
use Rattle.outbox.specs.Reader.{Answer, Item, FoundRecord, given, refused_at, found, end, found_at, length_in, bad_length, cut_short, bad_stream, record_at}
use Rattle.outbox.proofs.Number.{number_append}

-- two answers that differ, by `cc`
pub clash : ◌≡◌ {A = ℕ} 0 1 → ⊥
clash z = omega arith

-- a whole record stands at the front of some bytes
pub record Stands (fmt : Format) (rest : List ℕ) : Type 0 where
  pub positive : 1 ≤ length_in fmt rest
  pub short : length_in fmt rest ≤ fmt.limit + 1
  pub inside : fmt.width + length_in fmt rest ≤ length rest
  pub known : is_stream (get_or rest fmt.width 0) ≡ true

-- .. and what is read there
abbrev pub front : Format → ℕ → List ℕ → FoundRecord
front fmt place rest = found_at fmt place (get_or rest fmt.width 0) (length_in fmt rest - 1)

-- what reading there can give
pub data View (fmt : Format) (place : ℕ) (rest : List ℕ) : Answer Item → Type 0 where
  whole : Stands fmt rest → View fmt place rest (given (found (front fmt place rest)))
  broken : (n : ℕ) → View fmt place rest (refused_at n place)

-- a length that passes its test is neither 0 nor too large
pub range-passed : (n most : ℕ) → (eqb n 0 || ltb most n) ≡ false → (1 ≤ n) × (n ≤ most)
range-passed n most e =
    let both = (or-eq-false-eq-eq-false-and-eq-false (eqb n 0) (ltb most n)).0 e in
    (omega (arith, eqb-false n 0 both.0), ltb-false most n both.1)

module _ (fmt : Format) (rest : List ℕ) where
  right-length : Stands fmt rest → bad_length fmt rest ≡ false
  unfolding bad_length
  right-length s =
      rw (
        le-leb fmt.width (length rest) (omega arith),
        ne_eqb (length_in fmt rest) 0 (omega arith),
        le-ltb (fmt.limit + 1) (length_in fmt rest) s.short,
      )

  not-cut : fmt.width + length_in fmt rest ≤ length rest → cut_short fmt rest ≡ false
  unfolding cut_short
  not-cut h = le-ltb (length rest) (fmt.width + length_in fmt rest) h

  right-stream : is_stream (get_or rest fmt.width 0) ≡ true → bad_stream fmt rest ≡ false
  unfolding bad_stream
  right-stream e = rw e

  pub stands_read : (place : ℕ) → Stands fmt rest → record_at fmt place rest ≡ given (found (front fmt place rest))
  unfolding record_at
  stands_read place s = rw (right-length s, not-cut s.inside, right-stream s.known)

  -- what passes the three tests is a whole record
  passed : bad_length fmt rest ≡ false → cut_short fmt rest ≡ false → bad_stream fmt rest ≡ false → Stands fmt rest
  unfolding bad_length cut_short bad_stream
  passed length-passed cut-passed stream-passed =
      let inside : fmt.width + length_in fmt rest ≤ length rest = ltb-false _ _ cut-passed in
      let range : (eqb (length_in fmt rest) 0 || ltb (fmt.limit + 1) (length_in fmt rest)) ≡ false
      = rw (le-leb fmt.width (length rest) (omega arith)) at length-passed in
      let in-range = range-passed (length_in fmt rest) (fmt.limit + 1) range in
      record {
        positive = in-range.0;
        short = in-range.1;
        inside = inside;
        known = not-false _ stream-passed;
      }

  -- a length of which not all bytes are there is cut short, and not wrong
  field_cut : length rest < fmt.width → (bad_length fmt rest ≡ false) × (cut_short fmt rest ≡ true)
  unfolding bad_length cut_short
  field_cut h = (rw (lt-leb fmt.width (length rest) h), lt-ltb (length rest) (fmt.width + length_in fmt rest) (omega arith))

  pub field-cut-read : (place : ℕ) → length rest < fmt.width → record_at fmt place rest ≡ refused_at 41 place
  unfolding record_at
  field-cut-read place h = rw ((field_cut h).0, (field_cut h).1)

  -- what is read by a length all of whose bytes are there
  module _ (n : ℕ) (is : length_in fmt rest ≡ n) (field : fmt.width ≤ length rest) where
    bad-is : bad_length fmt rest ≡ (eqb n 0 || ltb (fmt.limit + 1) n)
    unfolding bad_length
    bad-is = rw (le-leb fmt.width (length rest) field, is)

    pub wrong-read : (place : ℕ) → (eqb n 0 || ltb (fmt.limit + 1) n) ≡ true → record_at fmt place rest ≡ refused_at 42 place
    unfolding record_at
    wrong-read place e = rw (bad-is ∙ e)

    module _ (right : (eqb n 0 || ltb (fmt.limit + 1) n) ≡ false) where
      pub cut-read : (place : ℕ) → length rest - fmt.width < n → record_at fmt place rest ≡ refused_at 41 place
      unfolding record_at cut_short
      cut-read place h = rw (bad-is ∙ right, lt-ltb (length rest) (fmt.width + length_in fmt rest) (omega arith))

      module _ (inside : n ≤ length rest - fmt.width) where
        pub strange-read : (place : ℕ) → is_stream (get_or rest fmt.width 0) ≡ false → record_at fmt place rest ≡ refused_at 43 place
        unfolding record_at bad_stream
        strange-read place e = rw (bad-is ∙ right, not-cut (omega arith), e)

        pub whole-read : (place : ℕ) → is_stream (get_or rest fmt.width 0) ≡ true
            → record_at fmt place rest ≡ given (found (found_at fmt place (get_or rest fmt.width 0) (n - 1)))
        unfolding record_at bad_stream
        whole-read place e = rw (bad-is ∙ right, not-cut (omega arith), e, is)

  by_tests : (place : ℕ) (l c s : Bool) → bad_length fmt rest ≡ l → cut_short fmt rest ≡ c → bad_stream fmt rest ≡ s
      → View fmt place rest (table (line 42 l ∷ line 41 c ∷ line 43 s ∷ []) (λ n. refused_at n place) (given (found (front fmt place rest))))
  by_tests place true c s e f g = broken 42
  by_tests place false true s e f g = broken 41
  by_tests place false false true e f g = broken 43
  by_tests place false false false e f g = whole (passed e f g)

  pub view : (place : ℕ) → View fmt place rest (record_at fmt place rest)
  unfolding record_at
  view place = by_tests place (bad_length fmt rest) (cut_short fmt rest) (bad_stream fmt rest) refl refl refl

-- a record that is read is the whole one that stands there
pub found-stands : (fmt : Format) (place : ℕ) (rest : List ℕ) (f : FoundRecord) → record_at fmt place rest ≡ given (found f)
    → Stands fmt rest × (f ≡ front fmt place rest)
found-stands fmt place rest f e = by-view (record_at fmt place rest) (view fmt rest place) e
  where
    by-view : (a : Answer Item) → View fmt place rest a → a ≡ given (found f) → Stands fmt rest × (f ≡ front fmt place rest)
    by-view a (whole s) e = (s, cc)
    by-view a (broken n) e = absurd (clash (cc))

-- .. it ends after its place and within the bytes
pub found-ends : (fmt : Format) (place : ℕ) (rest : List ℕ) (f : FoundRecord) → record_at fmt place rest ≡ given (found f)
    → (place < f.next) × (f.next ≤ place + length rest)
found-ends fmt place rest f e =
    let r = found-stands fmt place rest f e in
    rw r.1 (omega (arith, r.0.positive, r.0.inside), omega (arith, r.0.positive, r.0.inside))

-- .. and its payload reaches to its end
pub found-spans : (fmt : Format) (place : ℕ) (rest : List ℕ) (f : FoundRecord) → record_at fmt place rest ≡ given (found f) → f.start + f.size ≡ f.next
found-spans fmt place rest f e = rw (found-stands fmt place rest f e).1

-- .. which starts after its place
pub found-starts : (fmt : Format) (place : ℕ) (rest : List ℕ) (f : FoundRecord) → record_at fmt place rest ≡ given (found f) → place < f.start
found-starts fmt place rest f e = rw (found-stands fmt place rest f e).1 (omega arith)

-- a record's place is never the end
pub never-end : (fmt : Format) (place : ℕ) (rest : List ℕ) → record_at fmt place rest ≡ given end → ⊥
never-end fmt place rest e = by-view (record_at fmt place rest) (view fmt rest place) e
  where
    by-view : (a : Answer Item) → View fmt place rest a → a ≡ given end → ⊥
    by-view a (whole s) e = clash (cc)
    by-view a (broken n) e = clash (cc)

-- what stands in the first of some bytes, when more follow
module _ (fmt : Format) (rest more : List ℕ) where
  length-same : fmt.width ≤ length rest → length_in fmt (rest ++ more) ≡ length_in fmt rest
  length-same h = number_append fmt.width rest more h

  stream-same : fmt.width < length rest → get_or (rest ++ more) fmt.width 0 ≡ get_or rest fmt.width 0
  stream-same h = get_or-append rest more 0 fmt.width h

  stands-more : Stands fmt rest → Stands fmt (rest ++ more)
  stands-more s =
      let n = length-same (omega (arith, s.inside)) in
      record {
        positive = rw n s.positive;
        short = rw n s.short;
        inside = rw (n, length-append) (omega (arith, s.inside));
        known = rw (stream-same (omega (arith, s.inside, s.positive))) s.known;
      }

  stands-kept : fmt.width + length_in fmt (rest ++ more) ≤ length rest → Stands fmt (rest ++ more) → Stands fmt rest
  stands-kept h s =
      let n = length-same (omega arith) in
      record {
        positive = rw n at s.positive;
        short = rw n at s.short;
        inside = rw n at h;
        known = rw (stream-same (omega (arith, s.positive))) at s.known;
      }

  -- the length field is whole and its length right, but the record is not, or the field itself is cut
  stands-cut : Stands fmt (rest ++ more) → length rest < fmt.width + length_in fmt (rest ++ more) → (bad_length fmt rest ≡ false) × (cut_short fmt rest ≡ true)
  unfolding bad_length cut_short
  stands-cut s h = by_field (dec_le fmt.width (length rest))
    where
      by_field : Dec (fmt.width ≤ length rest)
          → ((leb fmt.width (length rest) && (eqb (length_in fmt rest) 0 || ltb (fmt.limit + 1) (length_in fmt rest))) ≡ false)
          × (ltb (length rest) (fmt.width + length_in fmt rest) ≡ true)
      by_field (yes w) =
          let n = length-same w in
          let right : 1 ≤ length_in fmt rest = rw n at s.positive in
          let short : length_in fmt rest ≤ fmt.limit + 1 = rw n at s.short in
          let cut : length rest < fmt.width + length_in fmt rest = rw n at h in (
            rw (le-leb fmt.width (length rest) w, ne_eqb (length_in fmt rest) 0 (omega arith), le-ltb (fmt.limit + 1) (length_in fmt rest) short),
            lt-ltb (length rest) (fmt.width + length_in fmt rest) cut,
          )
      by_field (no w) = field_cut fmt rest (omega arith)

  module _ (place : ℕ) (f : FoundRecord) where
    -- bytes after a whole record do not change it
    pub record-more : record_at fmt place rest ≡ given (found f) → record_at fmt place (rest ++ more) ≡ given (found f)
    record-more e =
        let r = found-stands fmt place rest f e in
        stands_read fmt (rest ++ more) place (stands-more r.0)
        ∙ rw (length-same (omega (arith, r.0.inside)), stream-same (omega (arith, r.0.inside, r.0.positive)), r.1)

    module _ (e : record_at fmt place (rest ++ more) ≡ given (found f)) where
      stands : Stands fmt (rest ++ more)
      stands = (found-stands fmt place (rest ++ more) f e).0

      next-is : f.next ≡ place + (fmt.width + length_in fmt (rest ++ more))
      next-is = rw (found-stands fmt place (rest ++ more) f e).1 (omega (arith, stands.positive))

      -- .. nor does it change when they are taken away
      pub record-kept : f.next ≤ place + length rest → record_at fmt place rest ≡ given (found f)
      record-kept h =
          let s = stands-kept (omega (arith, next-is)) stands in
          stands_read fmt rest place s
          ∙ rw ((found-stands fmt place (rest ++ more) f e).1, length-same (omega (arith, s.inside)), stream-same (omega (arith, s.inside, s.positive)))

      -- a record whose last bytes are taken away is cut short
      pub record-cut : place + length rest < f.next → record_at fmt place rest ≡ refused_at 41 place
      unfolding record_at
      record-cut h = let c = stands-cut stands (omega (arith, next-is)) in rw (c.0, c.1)
