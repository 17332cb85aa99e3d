-- Reading the bytes of records that the writer takes.
use Prim.Native.Nat.{ℕ, ◌+◌, ◌-◌}
use mathlib.Core.Path.{◌≡◌, refl, sym, ap, ◌∙◌}
use mathlib.Core.List.{List, [], ◌∷◌, ◌++◌, append_assoc, append-nil}
use native.Mathlib.Omega.{arith}
use lib.ListN.{length, get_or, take, drop, length-append}
use lib.Seq.{get_or_at, drop_at, take_at, drop-append_seam, drop-append-add, drop-append-le}
use Rattle.outbox.specs.Format.{Format, head_size, bytes_of, record_bytes}
use Rattle.outbox.specs.Reader.{given, found, found_at, length_in, record_at}
use Rattle.outbox_claims.specs.Claims.{Lawful, Entry, EntryTaken, AllTaken, after, expected}
use Rattle.outbox.proofs.Number.{length-bytes, number-bytes}
use Rattle.outbox.proofs.Record.{Stands, stands_read, record-more}
use Rattle.outbox.proofs.Stored.{length-record}
use Rattle.outbox_claims.proofs.Run.{RecordRun, ends, goes}

-- the bytes of an entry, and of some one after another
abbrev pub entry_bytes : Format → Entry → List ℕ
entry_bytes fmt e = record_bytes fmt e.stream e.payload

abbrev pub contents : Format → List Entry → List ℕ
contents fmt [] = []
contents fmt (e ∷ es) = entry_bytes fmt e ++ contents fmt es

module _ (fmt : Format) (e : Entry) where
  length-written : Lawful fmt → EntryTaken fmt e → length_in fmt (entry_bytes fmt e) ≡ length e.payload + 1
  unfolding record_bytes
  length-written lawful t = number-bytes fmt.width (length e.payload + 1) (e.stream ∷ e.payload) (omega (arith, t.short))

  stream-written : get_or (entry_bytes fmt e) fmt.width 0 ≡ e.stream
  unfolding record_bytes
  stream-written = get_or_at (bytes_of fmt.width (length e.payload + 1)) e.stream e.payload 0 fmt.width (length-bytes fmt.width (length e.payload + 1))

  payload-written : drop (head_size fmt) (entry_bytes fmt e) ≡ e.payload
  unfolding record_bytes
  payload-written =
      let field = bytes_of fmt.width (length e.payload + 1) in
      ap (drop (head_size fmt)) (sym (append_assoc field (e.stream ∷ []) e.payload))
      ∙ drop_at (field ++ (e.stream ∷ [])) e.payload (head_size fmt) (length-append field (e.stream ∷ []) ∙ rw length-bytes)

  -- the place after it
  pub entry-ends : (file : List ℕ) → length (file ++ entry_bytes fmt e) ≡ after fmt (length file) e
  entry-ends file = length-append file (entry_bytes fmt e) ∙ rw length-record (omega arith)

  -- what was written is read
  record-written : Lawful fmt → EntryTaken fmt e → (place : ℕ)
      → record_at fmt place (entry_bytes fmt e) ≡ given (found (found_at fmt place e.stream (length e.payload)))
  record-written lawful t place = stands_read fmt (entry_bytes fmt e) place stands ∙ rw (n, stream-written, less)
    where
      n : length_in fmt (entry_bytes fmt e) ≡ length e.payload + 1
      n = length-written lawful t

      less : length e.payload + 1 - 1 ≡ length e.payload
      less = omega arith

      stands : Stands fmt (entry_bytes fmt e)
      stands = record {
        positive = rw n (omega arith);
        short = rw n (omega (arith, t.short));
        inside = rw (n, length-record) (omega arith);
        known = rw stream-written t.known;
      }

  -- .. whatever stands before and after it, and so is its payload
  module _ (file more : List ℕ) where
    pub entry_read : Lawful fmt → EntryTaken fmt e
        → record_at fmt (length file) (drop (length file) (file ++ (entry_bytes fmt e ++ more)))
        ≡ given (found (found_at fmt (length file) e.stream (length e.payload)))
    entry_read lawful t =
        rw (drop-append_seam file (entry_bytes fmt e ++ more))
        (record-more fmt (entry_bytes fmt e) more (length file) _ (record-written lawful t (length file)))

    pub entry-payload : e.payload ≡ take (length e.payload) (drop (length file + head_size fmt) (file ++ (entry_bytes fmt e ++ more)))
    entry-payload =
        sym
        (rw (
          drop-append-add file (entry_bytes fmt e ++ more) (head_size fmt),
          drop-append-le (head_size fmt) (entry_bytes fmt e) more (rw length-record (omega arith)),
          payload-written,
        )
        (take_at e.payload more (length e.payload) refl))

-- records that were written are read, one after another, to the end
pub contents-run : (fmt : Format) → Lawful fmt → (es : List Entry) → AllTaken fmt es → (file : List ℕ)
    → RecordRun fmt (file ++ contents fmt es) (length file) (expected fmt (length file) es)
contents-run fmt lawful [] all file = ends (length file) (rw append-nil)
contents-run fmt lawful (e ∷ es) all file =
    goes (length file) (omega (arith, long)) (entry_read fmt e file (contents fmt es) lawful all.0) (entry-payload fmt e file (contents fmt es))
    (rw (append_assoc, entry-ends fmt e file) at (contents-run fmt lawful es all.1 (file ++ entry_bytes fmt e)))
  where
    long : length (file ++ (entry_bytes fmt e ++ contents fmt es)) ≡ length file + (head_size fmt + length e.payload + length (contents fmt es))
    long = simp (length-append, length-record)
