-- The claims for the two versions, from the facts of docs/FORMATS.md.
use Prim.Native.Nat.{ℕ, ◌+◌, ◌≤◌}
use mathlib.Core.Path.{◌≡◌, refl, ap, ◌∙◌}
use mathlib.Core.Bool.{true}
use mathlib.Core.List.{List, [], ◌∷◌, ◌++◌}
use native.Mathlib.Omega.{arith}
use lib.ListN.{length, take, length-take}
use Rattle.wire.specs.Stream.{is_stream}
use Rattle.outbox.specs.Format.{Format, version_one, version_two, is_one, format_of, head_size, record_bytes}
use Rattle.outbox.specs.Reader.{given, read_all, first_refusal, walk_of}
use Rattle.outbox.specs.Writer.{new_of}
use Rattle.outbox_claims.specs.Claims.{Lawful, Entry, EntryTaken, AllTaken, after, after_all, expected, append_all, Returned, cut_at, usable, RecordsReturn, AppendsAfterCut, AppendsAsAlone, ReadsAsAlone}
use Rattle.outbox_claims.specs.Versions.{Version, one, two, StreamByte, control, ota, alexa, Allowed, AllAllowed, size_of, file_of, FileFits, HoldIn, HoldInEachVersion}
use Rattle.outbox.proofs.Place.{version-kept}
use Rattle.outbox_claims.proofs.Run.{walk_is}
use Rattle.outbox_claims.proofs.Append.{bounds}
use Rattle.outbox_claims.proofs.RecordsReturn.{records-return}
use Rattle.outbox_claims.proofs.CutsAreFound.{expected-passes, cuts-are-found}
use Rattle.outbox_claims.proofs.AppendsAfterCut.{appends-after-cut}
use Rattle.outbox_claims.proofs.AppendsAsAlone.{appends-as-alone}
use Rattle.outbox_claims.proofs.ReadsAsAlone.{own-version, reads-as-alone}

stream-byte : {n : ℕ} → StreamByte n → is_stream n ≡ true
unfolding is_stream
stream-byte control = refl
stream-byte ota = refl
stream-byte alexa = refl

module _ (fmt : Format) where
  takes : (e : Entry) → Allowed fmt.limit e → EntryTaken fmt e
  takes e a = record { known = stream-byte a.stream; short = omega (arith, a.short) }

  all-taken : (es : List Entry) → AllAllowed fmt.limit es → AllTaken fmt es
  all-taken [] all = tt
  all-taken (e ∷ es) all = (takes e all.0, all-taken es all.1)

  size_is : (place : ℕ) (es : List Entry) → after_all fmt place es ≡ place + size_of (head_size fmt) es
  size_is place [] = omega arith
  size_is place (e ∷ es) = size_is (after fmt place e) es ∙ omega arith

  -- the part that is looked at first stops within the file
  stops-inside : (rest : List ℕ) (n : ℕ) → 1 ≤ n
      → let part = take n (fmt.version ∷ rest) in
      let place = usable (walk_of fmt part) part in
      (1 ≤ place) × (place ≤ length (fmt.version ∷ rest))
  stops-inside rest n some =
      let file = fmt.version ∷ rest in
      let part = take n file in
      let place = usable (walk_of fmt part) part in
      let within = bounds fmt part (version-kept fmt file n some (own-version fmt rest)) place refl in
      (within.0, omega (arith, within.1, length-take n file))

  module _ (lawful : Lawful fmt) where
    module _ (buffer : List ℕ) (es : List Entry) (fits : FileFits (head_size fmt) fmt.limit buffer es) where
      room : after_all fmt 1 es ≤ length buffer
      room = rw (size_is 1 es) fits.room

      returned : Returned fmt (append_all fmt (new_of fmt buffer) es) es
      unfolding RecordsReturn
      returned = records-return fmt lawful buffer es (all-taken es fits.allowed) (omega (arith, room))

      -- what appends made is whole
      made-whole : walk_of fmt (file_of fmt (head_size fmt) buffer es) ≡ given tt
      made-whole =
          walk_is fmt (file_of fmt (head_size fmt) buffer es)
          ∙ ap first_refusal (rw (size_is 1 es) at returned.read)
          ∙ expected-passes fmt 1 es

      cut : (kept : ℕ) → read_all fmt (take kept (file_of fmt (head_size fmt) buffer es)) ≡ cut_at kept (expected fmt 1 es)
      cut kept = rw (size_is 1 es) at (cuts-are-found.appended fmt lawful buffer es (all-taken es fits.allowed) room kept)

    hold : ((rest : List ℕ) → format_of (fmt.version ∷ rest) ≡ fmt) → HoldIn fmt fmt.version (head_size fmt) fmt.limit
    unfolding AppendsAfterCut AppendsAsAlone ReadsAsAlone
    hold judged-by =
        record {
          judged-by = judged-by;
          takes = takes;
          records-return = returned;
          cuts-are-found = cut;
          appends-after-cut = λ buffer es fits kept some room e a h.
              appends-after-cut fmt lawful (file_of fmt (head_size fmt) buffer es) kept (omega arith) (made-whole buffer es fits) room e (takes e a) (omega arith);
          appends-as-alone = λ buffer es fits room own e a h k.
              appends-as-alone fmt (file_of fmt (head_size fmt) buffer es) room (made-whole buffer es fits) own e (takes e a) (omega arith) (omega arith);
          one-reads-as-alone = λ rest place first inside n enough.
              (reads-as-alone fmt (fmt.version ∷ rest) (own-version fmt rest) place first inside).one n (omega arith);
          record-reads-alone = λ e more a.
              let bytes = record_bytes fmt e.stream e.payload ++ more in
              (reads-as-alone fmt (fmt.version ∷ bytes) (own-version fmt bytes) 1 (omega arith) (omega arith)).stands lawful e (takes e a) more refl;
          rest-reads-as-alone = λ rest n some.
              let within = stops-inside rest n some in
              (reads-as-alone fmt (fmt.version ∷ rest) (own-version fmt rest) _ within.0 within.1).rest n some refl;
        }

judged-one : (rest : List ℕ) → format_of (1 ∷ rest) ≡ version_one
unfolding format_of is_one
judged-one rest = refl

judged-two : (rest : List ℕ) → format_of (2 ∷ rest) ≡ version_two
unfolding format_of is_one
judged-two rest = refl

pub lawful-one : Lawful version_one
lawful-one = omega arith

pub lawful-two : Lawful version_two
lawful-two = omega arith

each : (fmt : Format) (byte head limit : ℕ) → Version fmt byte head limit → HoldIn fmt byte head limit
each fmt byte head limit one = hold version_one lawful-one judged-one
each fmt byte head limit two = hold version_two lawful-two judged-two

pub hold-in-each-version : HoldInEachVersion
hold-in-each-version =
    record {
      lawful = λ fmt holds. omega (arith, holds fmt.limit (omega arith));
      whole-files-cut = λ fmt file whole kept. cuts-are-found.whole fmt file kept whole;
      hold = each;
    }
