-- Laws of a record's bytes and of where they are written.
use Prim.Native.Nat.{ℕ, suc, ◌+◌, ◌-◌, ◌≤◌, ◌<◌}
use mathlib.Core.Path.{◌≡◌}
use mathlib.Core.Bool.{true, false, not}
use mathlib.Core.List.{List, ◌∷◌}
use mathlib.Mathlib.Data.Bool.Basic.{or-eq-false-eq-eq-false-and-eq-false}
use native.Mathlib.Omega.{arith}
use lib.Dec.{ltb}
use lib.ListN.{length, set, take, length-append}
use lib.Seq.{sets}
use borrow.Author.Tests.{ltb-false, lt-ltb, le-ltb}
use Rattle.wire.specs.Stream.{is_stream}
use Rattle.wire.proofs.Stores.{sets-append}
use Rattle.outbox.specs.Format.{Format, head_size, bytes_of, record_bytes}
use Rattle.outbox.specs.Reader.{refused, refused_at, other_version, walk_of}
use Rattle.outbox.specs.Writer.{stored, stored_at, bad_record, if_whole, append_of}
use Rattle.outbox.proofs.Number.{length-bytes}

module _ (fmt : Format) (stream : ℕ) (payload : List ℕ) where
  pub length-record : length (record_bytes fmt stream payload) ≡ head_size fmt + length payload
  unfolding record_bytes
  length-record = rw (length-append, length-bytes) (omega arith)

  -- the length, the stream byte and the payload, one after another
  pub record-stored : (l : List ℕ) (at : ℕ)
      → sets (set (sets l at (bytes_of fmt.width (length payload + 1))) (at + fmt.width) stream) (at + head_size fmt) payload
      ≡ sets l at (record_bytes fmt stream payload)
  unfolding record_bytes
  record-stored l at = rw (next, sets-append l at (bytes_of fmt.width (length payload + 1)) (stream ∷ payload), length-bytes)
    where
      next : at + head_size fmt ≡ suc (at + fmt.width)
      next = omega arith

  -- a record that is judged right has a payload within the limit
  pub within-limit : bad_record fmt stream (length payload) ≡ false → length payload ≤ fmt.limit
  unfolding bad_record
  within-limit e =
      ltb-false fmt.limit (length payload) ((or-eq-false-eq-eq-false-and-eq-false (not (is_stream stream)) (ltb fmt.limit (length payload))).0 e).1

  pub append-other : (buffer : List ℕ) (used : ℕ) → used ≤ length buffer → other_version fmt (take used buffer) ≡ true
      → append_of fmt buffer used stream payload ≡ stored (refused_at 40 0) buffer
  unfolding append_of
  append-other buffer used h v = rw (le-ltb (length buffer) used h, v)

  module _ (buffer : List ℕ) (used : ℕ) (h : used ≤ length buffer) (v : other_version fmt (take used buffer) ≡ false) where
    pub append-bad : bad_record fmt stream (length payload) ≡ true → append_of fmt buffer used stream payload ≡ stored (refused 15) buffer
    unfolding append_of
    append-bad e = rw (le-ltb (length buffer) used h, v, e)

    module _ (e : bad_record fmt stream (length payload) ≡ false) where
      pub append-no-room : length buffer - used < head_size fmt + length payload → append_of fmt buffer used stream payload ≡ stored (refused 14) buffer
      unfolding append_of
      append-no-room n =
          rw (le-ltb (length buffer) used h, v, e, length-record, lt-ltb (length buffer - used) (head_size fmt + length payload) n)

      -- where there is room, the used bytes decide
      pub append-judged : used + (head_size fmt + length payload) ≤ length buffer
          → append_of fmt buffer used stream payload ≡ if_whole (walk_of fmt (take used buffer)) buffer (stored_at buffer used (record_bytes fmt stream payload))
      unfolding append_of
      append-judged n =
          rw (le-ltb (length buffer) used h, v, e, le-ltb (length buffer - used) (length (record_bytes fmt stream payload)) (rw length-record (omega arith)))
