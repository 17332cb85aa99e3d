-- Claim (d): a record in an outbox of its own.
use Prim.Native.Nat.{ℕ, ◌≤◌}
use mathlib.Core.Path.{◌≡◌, sym, ap, ◌∙◌}
use mathlib.Core.List.{List, [], ◌∷◌, ◌++◌}
use native.Mathlib.Omega.{arith}
use lib.ListN.{length, take, drop}
use lib.Seq.{take_at}
use Rattle.outbox.specs.Format.{Format, new_bytes}
use Rattle.outbox.specs.Reader.{given, walk_of}
use Rattle.outbox.specs.Writer.{append_of}
use Rattle.outbox_claims.specs.Claims.{Entry, EntryTaken, after, AppendsAsAlone}
use Rattle.outbox.proofs.Walk.{whole-version}
use Rattle.outbox_claims.proofs.Contents.{entry_bytes, entry-ends}
use Rattle.outbox_claims.proofs.RecordsReturn.{filled, append-one, new-whole, new-filled}

-- an append to a whole file: what is told, and the used bytes afterwards
module _ (fmt : Format) (file room : List ℕ) (whole : walk_of fmt file ≡ given tt) (e : Entry) (takes : EntryTaken fmt e) (fits : after fmt (length file) e ≤ length (file ++ room)) where
  stored-whole : append_of fmt (file ++ room) (length file) e.stream e.payload
      ≡ filled (file ++ entry_bytes fmt e) (drop (length (entry_bytes fmt e)) room)
  stored-whole = append-one fmt file room e takes (whole-version fmt file whole) whole fits

  stored-told : (append_of fmt (file ++ room) (length file) e.stream e.payload).told ≡ given (after fmt (length file) e)
  stored-told = rw stored-whole (ap given (entry-ends fmt e file))

  stored-used : take (after fmt (length file) e) (append_of fmt (file ++ room) (length file) e.stream e.payload).buffer ≡ file ++ entry_bytes fmt e
  stored-used = rw stored-whole (take_at (file ++ entry_bytes fmt e) _ (after fmt (length file) e) (entry-ends fmt e file))

pub appends-as-alone : AppendsAsAlone
unfolding AppendsAsAlone
appends-as-alone fmt file room whole [] e takes fits own-fits = absurd (omega arith)
appends-as-alone fmt file room whole (b ∷ own) e takes fits own-fits =
    rw (new-filled fmt b own)
    (record {
      taken = stored-told fmt file room whole e takes fits;
      taken-alone = stored-told fmt (new_bytes fmt) own (new-whole fmt) e takes own-fits;
      same =
          stored-used fmt file room whole e takes fits
          ∙ ap (λ l. file ++ drop 1 l) (sym (stored-used fmt (new_bytes fmt) own (new-whole fmt) e takes own-fits));
    })
