-- The claim of specs/Premises.antt.
use mathlib.Core.Path.{refl}
use mathlib.Core.List.{[], ◌∷◌}
use native.Mathlib.Numerals.{one-add}
use native.Mathlib.Omega.{arith}
use lib.ListN.{length}
use borrow.Author.Tests.{le-leb}
use Rattle.wire.proofs.Limits.{range-limit}
use Rattle.classic_writer.proofs.Sending.{no-mark, sendable-when}
use Rattle.classic_parts_claims.specs.Run.{part, beyond, fruitful}
use Rattle.classic_parts_claims.specs.Premises.{OfferingWhen, FruitfulWhen, PartFactsSuffice}

offering-when : OfferingWhen
offering-when limit s offered out some most byte plain fits missing lends =
    record { range = range-limit limit some most; unmarked = no-mark s.sequence plain; fits = fits; missing = missing; lends = omega arith }

fruitful-when : FruitfulWhen
unfolding fruitful
fruitful-when [] h = refl
fruitful-when (part n out ∷ cs) h = rw (le-leb 1 n h.0, le-leb 1 (length out) h.1, one-add, fruitful-when cs h.2)
fruitful-when (beyond b bs out ∷ cs) h = absurd h

pub facts-suffice : PartFactsSuffice
facts-suffice = record { sendable = sendable-when; offering = offering-when; fruitful = fruitful-when }
