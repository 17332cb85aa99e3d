-- How many bytes a whole file has in the wished version.
use Prim.Native.Nat.{ℕ, zero, suc, ◌+◌, ◌*◌, ◌≤◌, zero-le}
use mathlib.Core.Path.{◌≡◌}
use mathlib.Core.Bool.{Bool, true, false, cond}
use mathlib.Core.List.{List, [], ◌∷◌, ◌++◌}
use native.Mathlib.Nat.{le_of_lt, mul-add, mul-le-mul_left, mul-le-mul_right}
use native.Mathlib.Omega.{arith}
use lib.ListN.{length, take, drop, length-append}
use lib.Dec.{eqb}
use Rattle.outbox.specs.Format.{Format, head_size, record_bytes, new_bytes}
use Rattle.outbox.specs.Reader.{HandedRecord, given, read_all, walk_of}
use Rattle.outbox.proofs.Record.{found-stands}
use Rattle.outbox.proofs.Stored.{length-record}
use Rattle.outbox.proofs.Walk.{whole-version}
use Rattle.outbox_claims.proofs.Run.{RecordRun, ends, stops, goes, all-run}
use Rattle.outbox_move.specs.Moves.{records_in, moved_to}

taken : (n : ℕ) (l : List ℕ) → length (take n l) ≤ n
taken zero l = zero-le
taken (suc n) [] = omega arith
taken (suc n) (x ∷ l) = omega (arith, taken n l)

-- where each record grows at most by a factor, so do all together
module _ (times : ℕ) (wished fmt : Format) (grows : (n : ℕ) → head_size wished + n ≤ times * (head_size fmt + n)) (file : List ℕ) where
  records-most : {place : ℕ} {hs : List HandedRecord} → RecordRun fmt file place hs → times * place + length (records_in wished hs) ≤ times * length file
  records-most (ends place e) = rw e (omega arith)
  records-most (stops place {n = n} inside e) =
      let most : times * place ≤ times * length file = mul-le-mul_left times (le_of_lt inside) in
      omega (arith, most)
  records-most (goes place {f = f} {payload = payload} {hs = hs} inside e p r) =
      let next : f.next ≡ place + (head_size fmt + f.size) = rw (found-stands fmt place (drop place file) f e).1 (omega arith) in
      let here : times * f.next ≡ times * place + times * (head_size fmt + f.size) = rw next (mul-add times place (head_size fmt + f.size)) in
      let short : length payload ≤ f.size = rw p (taken f.size (drop f.start file)) in
      omega (
        arith,
        records-most r,
        here,
        grows f.size,
        short,
        length-append (record_bytes wished f.stream payload) (records_in wished hs),
        length-record wished f.stream payload,
      )

-- a whole file in a version, its own too
pub moved-most : (times : ℕ) → 1 ≤ times → (wished fmt : Format) → ((n : ℕ) → head_size wished + n ≤ times * (head_size fmt + n))
    → (file : List ℕ) → walk_of fmt file ≡ given tt → length (moved_to wished fmt file) ≤ times * length file
unfolding moved_to
moved-most times some wished fmt grows file w = by-version (eqb wished.version fmt.version)
  where
    whole : length file ≤ times * length file
    whole = omega (arith, mul-le-mul_right (length file) some)

    by-version : (t : Bool) → length (cond t file (new_bytes wished ++ records_in wished (read_all fmt file))) ≤ times * length file
    by-version true = whole
    by-version false = omega (arith, some, records-most times wished fmt grows file (all-run fmt file (whole-version fmt file w)))
