-- The premise from the other side.
use Prim.Native.Nat.{ℕ, ◌≤◌}
use mathlib.Core.Path.{◌≡◌, ap}
use mathlib.Core.List.{List, [], ◌∷◌}
use native.Mathlib.Omega.{arith}
use Rattle.outbox.specs.Format.{Format, format_of}
use Rattle.outbox.specs.Reader.{given, read_all, walk_of}
use Rattle.outbox.proofs.Walk.{whole-version}
use Rattle.outbox.proofs.Versions.{known_small, format-known}
use Rattle.outbox_claims.specs.Claims.{Entry}
use Rattle.outbox_claims.proofs.Run.{RecordRun, all-run}
use Rattle.outbox_move_claims.specs.Claims.{records_of, AllShort, MovableWhen}
use Rattle.outbox_move_claims.proofs.Rebuilt.{own-short, not-over}

pub short-more : (least most : ℕ) → least ≤ most → (es : List Entry) → AllShort least es → AllShort most es
short-more least most h [] s = tt
short-more least most h (e ∷ es) s = (omega (arith, s.0), short-more least most h es s.1)

run : (file : List ℕ) → walk_of (format_of file) file ≡ given tt → RecordRun (format_of file) file 1 (read_all (format_of file) file)
run file w = all-run (format_of file) file (whole-version (format_of file) file w)

-- a whole file's records are within its own limit
own : (file : List ℕ) → walk_of (format_of file) file ≡ given tt → AllShort (format_of file).limit (records_of file)
own file w = own-short (format_of file) file (run file w)

pub movable-when : MovableWhen
movable-when =
    record {
      to-two = λ file b w.
          record { bytes = b; whole = w; short = short-more (format_of file).limit 65535 (known_small (format_of file) (format-known file)).2 (records_of file) (own file w) };
      one-stays = λ file b w v.
          record { bytes = b; whole = w; short = short-more (format_of file).limit 4096 (omega (arith, ap (λ (f : Format). f.limit) v)) (records_of file) (own file w) };
      to_one = λ file b w o. record { bytes = b; whole = w; short = not-over 4096 (format_of file) file (run file w) o };
    }
