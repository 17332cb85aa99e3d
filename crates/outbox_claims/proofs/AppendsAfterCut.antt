-- Claim (c): appending after a cut.
use mathlib.Core.Path.{refl}
use native.Mathlib.Omega.{arith}
use lib.ListN.{take}
use Rattle.outbox.specs.Reader.{walk_of}
use Rattle.outbox_claims.specs.Claims.{usable, AppendsAfterCut}
use Rattle.outbox.proofs.Place.{version-kept}
use Rattle.outbox.proofs.Walk.{whole-version}
use Rattle.outbox_claims.proofs.Append.{append-resumes}

pub appends-after-cut : AppendsAfterCut
unfolding AppendsAfterCut
appends-after-cut fmt lawful file kept some whole room e takes fits =
    let left = take kept file in
    append-resumes fmt left (version-kept fmt file kept (omega arith) (whole-version fmt file whole)) (usable (walk_of fmt left) left) refl lawful e takes room fits
