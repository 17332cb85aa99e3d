-- Laws of a pass over a file, record after record.
use Prim.Native.Nat.{ℕ, suc, ◌+◌, ◌-◌, ◌*◌, ◌≤◌, ◌<◌}
use mathlib.Core.Path.{◌≡◌, refl, sym, ap, ◌∙◌}
use mathlib.Core.Bool.{Bool, true, false, cond}
use mathlib.Core.List.{List, [], ◌∷◌, ◌++◌}
use native.Mathlib.Omega.{arith}
use lib.Dec.{ltb}
use lib.ListN.{length, take, drop, length-append, length-drop}
use lib.Seq.{sets, length-take-le, length-sets}
use borrow.Author.Tests.{lt-ltb, le-ltb, ltb-false}
use Rattle.wire.proofs.Stores.{sets-append}
use Rattle.outbox.specs.Format.{Format, Known, head_size, record_bytes, first_place}
use Rattle.outbox.specs.declared.reader.FoundRecord.{FoundRecord}
use Rattle.outbox.specs.Reader.{Answer, given, refused, refused_at, Item, found, end, HandedRecord, handed, payload_in, onward, record_at, read_of, readings, read_all}
use Rattle.outbox.proofs.Record.{clash, found-stands, found-spans}
use Rattle.outbox.proofs.Place.{read-within, read-record}
use Rattle.outbox.proofs.Stored.{length-record}
use Rattle.outbox.proofs.Versions.{known_small}
use Rattle.outbox_move.specs.Moves.{record_only, records_in, over_from, size_unless, count_of}

-- ---- the readings from a place on

pub record Coming (fmt : Format) (file : List ℕ) (place : ℕ) (hs : List HandedRecord) : Type 0 where
  pub turns : ℕ
  pub some : 1 ≤ turns
  pub enough : length file < place + turns
  pub same : readings turns fmt file place ≡ hs

only-record : (a : Answer Item) (f : FoundRecord) → record_only a ≡ given (found f) → a ≡ given (found f)
only-record (given (found g)) f e = e
only-record (given end) f e = e
only-record (refused n) f e = absurd (clash (cc))
only-record (refused_at n p) f e = absurd (clash (cc))

-- where no record was read, none is left
none_over : (limit place : ℕ) (a : Answer Item) (payload : List ℕ) (go : ℕ → List HandedRecord) → record_only a ≡ given end
    → over_from limit place (handed a payload ∷ onward a go) ≡ given tt
none_over limit place (given (found g)) payload go e = absurd (clash (cc))
none_over limit place (given end) payload go e = refl
none_over limit place (refused n) payload go e = refl
none_over limit place (refused_at n p) payload go e = refl

none_left : (fmt : Format) (a : Answer Item) (payload : List ℕ) (go : ℕ → List HandedRecord) → record_only a ≡ given end
    → records_in fmt (handed a payload ∷ onward a go) ≡ []
none_left fmt (given (found g)) payload go e = absurd (clash (cc))
none_left fmt (given end) payload go e = refl
none_left fmt (refused n) payload go e = refl
none_left fmt (refused_at n p) payload go e = refl

module _ (fmt : Format) (file : List ℕ) where
  pub coming-begins : Coming fmt file first_place (read_all fmt file)
  unfolding read_all
  coming-begins = record { turns = suc (length file); some = omega arith; enough = omega arith; same = refl }

  turn : (place turns : ℕ) (a : Answer Item) → read_of fmt file place ≡ a
      → readings (suc turns) fmt file place ≡ handed a (payload_in file a) ∷ onward a (λ next. readings turns fmt file next)
  unfolding readings
  turn place turns a e = rw e

  -- what is read, and what comes then
  pub comes : {place : ℕ} {hs : List HandedRecord} → (c : Coming fmt file place hs) → (a : Answer Item) → read_of fmt file place ≡ a
      → hs ≡ handed a (payload_in file a) ∷ onward a (λ next. readings (c.turns - 1) fmt file next)
  comes {place} c a e = sym c.same ∙ ap (λ n. readings n fmt file place) count ∙ turn place (c.turns - 1) a e
    where
      count : c.turns ≡ suc (c.turns - 1)
      count = omega (arith, c.some)

  module _ (place : ℕ) (f : FoundRecord) (e : record_only (read_of fmt file place) ≡ given (found f)) where
    pub was_read : read_of fmt file place ≡ given (found f)
    was_read = only-record (read_of fmt file place) f e

    stood : record_at fmt place (drop place file) ≡ given (found f)
    stood = read-record fmt file place f was_read

    pub next-is : f.next ≡ place + head_size fmt + f.size
    next-is = rw (found-stands fmt place (drop place file) f stood).1

    pub spans : f.start + f.size ≡ f.next
    spans = found-spans fmt place (drop place file) f stood

    pub ends : (place < f.next) × (f.next ≤ length file)
    ends = read-within fmt file place f was_read

    -- the payload, as it is lent
    pub lent : take (f.next - f.start) (drop f.start file) ≡ take f.size (drop f.start file)
    lent = let n : f.next - f.start ≡ f.size = omega (arith, spans) in ap (λ k. take k (drop f.start file)) n

    pub payload-long : length (take f.size (drop f.start file)) ≡ f.size
    payload-long = length-take-le f.size (drop f.start file) (rw length-drop (omega (arith, spans, ends.1)))

    pub coming-goes : {hs : List HandedRecord} (c : Coming fmt file place hs) → Coming fmt file f.next (readings (c.turns - 1) fmt file f.next)
    coming-goes c =
        record {
          turns = c.turns - 1;
          some = omega (arith, c.enough, ends.0, ends.1);
          enough = omega (arith, c.enough, ends.0);
          same = refl;
        }

-- ---- counting

pub record Counting (wished fmt : Format) (file : List ℕ) (place total : ℕ) : Type 0 where
  pub hs : List HandedRecord
  pub coming : Coming fmt file place hs
  pub small : total ≤ 2 * place
  pub counts : count_of wished place total hs ≡ count_of wished first_place first_place (read_all fmt file)

counted_none : (o : Answer (Unit {0})) (l : List ℕ) (n : ℕ) → o ≡ given tt → l ≡ [] → size_unless o (n + length l) ≡ given n
counted_none o l n e k = let plus : n + 0 ≡ n = omega arith in rw (e, k) (ap given plus)

module _ (wished fmt : Format) (file : List ℕ) where
  pub counting-begins : Counting wished fmt file first_place first_place
  counting-begins = record { hs = read_all fmt file; coming = coming-begins fmt file; small = omega arith; counts = refl }

  module _ {place total : ℕ} (c : Counting wished fmt file place total) where
    pub counting-ends : record_only (read_of fmt file place) ≡ given end → given total ≡ count_of wished first_place first_place (read_all fmt file)
    unfolding count_of
    counting-ends e =
        let a = read_of fmt file place in
        let go : ℕ → List HandedRecord = λ next. readings (c.coming.turns - 1) fmt file next in
        sym
        (ap (count_of wished place total) (comes fmt file c.coming a refl)
        ∙ counted_none _ _ total (none_over wished.limit place a (payload_in file a) go e) (none_left wished a (payload_in file a) go e))
        ∙ c.counts

    module _ (f : FoundRecord) (e : record_only (read_of fmt file place) ≡ given (found f)) where
      read : read_of fmt file place ≡ given (found f)
      read = was_read fmt file place f e

      pub counting-over : wished.limit < f.size → refused_at 46 place ≡ count_of wished first_place first_place (read_all fmt file)
      unfolding count_of
      counting-over h = sym (ap (count_of wished place total) (comes fmt file c.coming (given (found f)) read) ∙ rw (lt-ltb wished.limit f.size h)) ∙ c.counts

      pub counting-goes : Known wished → Known fmt → f.size ≤ wished.limit → Counting wished fmt file f.next (total + head_size wished + f.size)
      unfolding count_of
      counting-goes kw kf h =
          let rest = readings (c.coming.turns - 1) fmt file f.next in
          let payload = take f.size (drop f.start file) in
          let sum : total + head_size wished + f.size + length (records_in wished rest) ≡ total + length (record_bytes wished f.stream payload ++ records_in wished rest)
          = rw (length-append, length-record wished f.stream payload, payload-long fmt file place f e) (omega arith) in
          record {
            hs = rest;
            coming = coming-goes fmt file place f e c.coming;
            small = omega (arith, c.small, next-is fmt file place f e, (known_small wished kw).1, (known_small fmt kf).0);
            counts = ap (size_unless (over_from wished.limit f.next rest)) sum
                ∙ sym (ap (count_of wished place total) (comes fmt file c.coming (given (found f)) read) ∙ rw (le-ltb wished.limit f.size h))
                ∙ c.counts;
          }

-- ---- writing, from the first record's place on

pub record Writing (wished fmt : Format) (file before : List ℕ) (place at : ℕ) (out : List ℕ) : Type 0 where
  pub hs : List HandedRecord
  pub coming : Coming fmt file place hs
  pub fits : over_from wished.limit place hs ≡ given tt
  pub room : at + length (records_in wished hs) ≤ length out
  pub long : length out ≡ length before
  pub left : sets out at (records_in wished hs) ≡ sets before first_place (records_in wished (read_all fmt file))

fitting : (t : Bool) (x : Answer (Unit {0})) (place : ℕ) → cond t (refused_at 46 place) x ≡ given tt → (t ≡ false) × (x ≡ given tt)
fitting true x place e = absurd (clash (cc))
fitting false x place e = (refl, e)

module _ (wished fmt : Format) (file before : List ℕ) where
  pub writing_begins : over_from wished.limit first_place (read_all fmt file) ≡ given tt → first_place + length (records_in wished (read_all fmt file)) ≤ length before
      → Writing wished fmt file before first_place first_place before
  writing_begins o h = record { hs = read_all fmt file; coming = coming-begins fmt file; fits = o; room = h; long = refl; left = refl }

  module _ {place at : ℕ} {out : List ℕ} (w : Writing wished fmt file before place at out) where
    pub writing-ends : record_only (read_of fmt file place) ≡ given end → out ≡ sets before first_place (records_in wished (read_all fmt file))
    writing-ends e =
        let a = read_of fmt file place in
        let none : records_in wished w.hs ≡ []
        = ap (records_in wished) (comes fmt file w.coming a refl) ∙ none_left wished a (payload_in file a) (λ next. readings (w.coming.turns - 1) fmt file next) e in
        ap (sets out at) (sym none) ∙ w.left

    module _ (f : FoundRecord) (e : record_only (read_of fmt file place) ≡ given (found f)) where
      abbrev rest : List HandedRecord
      rest = readings (w.coming.turns - 1) fmt file f.next

      abbrev payload : List ℕ
      payload = take (f.next - f.start) (drop f.start file)

      here : w.hs ≡ handed (given (found f)) (take f.size (drop f.start file)) ∷ rest
      here = comes fmt file w.coming (given (found f)) (was_read fmt file place f e)

      fitted : (ltb wished.limit f.size ≡ false) × (over_from wished.limit f.next rest ≡ given tt)
      fitted = fitting (ltb wished.limit f.size) (over_from wished.limit f.next rest) place (ap (over_from wished.limit place) (sym here) ∙ w.fits)

      bytes : records_in wished w.hs ≡ record_bytes wished f.stream payload ++ records_in wished rest
      bytes = ap (records_in wished) here ∙ ap (λ p. record_bytes wished f.stream p ++ records_in wished rest) (sym (lent fmt file place f e))

      pub payload-size : length payload ≡ f.size
      payload-size = ap length (lent fmt file place f e) ∙ payload-long fmt file place f e

      pub payload-short : length payload ≤ wished.limit
      payload-short = omega (arith, payload-size, ltb-false wished.limit f.size fitted.0)

      count : length (records_in wished w.hs) ≡ head_size wished + f.size + length (records_in wished rest)
      count = ap length bytes ∙ rw (length-append, length-record wished f.stream payload, payload-size)

      pub record-room : at + (head_size wished + length payload) ≤ length out
      record-room = omega (arith, w.room, count, payload-size)

      pub writing-goes : Writing wished fmt file before f.next (at + head_size wished + f.size) (sets out at (record_bytes wished f.stream payload))
      writing-goes =
          let stored = sets out at (record_bytes wished f.stream payload) in
          let next : at + length (record_bytes wished f.stream payload) ≡ at + head_size wished + f.size
          = rw (length-record wished f.stream payload, payload-size) (omega arith) in
          record {
            hs = rest;
            coming = coming-goes fmt file place f e w.coming;
            fits = fitted.1;
            room = rw length-sets (omega (arith, w.room, count));
            long = length-sets out at (record_bytes wished f.stream payload) ∙ w.long;
            left = ap (λ i. sets stored i (records_in wished rest)) (sym next)
                ∙ sym (ap (sets out at) bytes ∙ sets-append out at (record_bytes wished f.stream payload) (records_in wished rest))
                ∙ w.left;
          }
