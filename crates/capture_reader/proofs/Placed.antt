-- A refusal told with its place.
use Prim.Native.Nat.{ℕ}
use mathlib.Core.Path.{◌≡◌, refl, ap}
use Rattle.std.specs.Prelude.{Result, Ok, Err, IsErrAnd}
use Rattle.std.specs.Result.{MatchResult}
use Rattle.wire.specs.Told.{Told, given, refused, told_by, and_then, number_told}
use Rattle.capture_reader.specs.declared.RefusedAt.{RefusedAt}
use Rattle.capture_reader.specs.Capture.{ToldAt, located, number_in, told_at}

-- what was found, told with a place
pub found-at : {A R S : Type 0} (tells : S → ℕ) (wrap : R → S) (at : ℕ) (r : Result A R) (m : Result A (RefusedAt S))
    → MatchResult r (λ x. m ≡ Ok x) (λ e. IsErrAnd m (λ d. (d.why ≡ wrap e) × (d.at ≡ at)))
    → told_at tells m ≡ located at (told_by (λ e. tells (wrap e)) r)
found-at tells wrap at (Ok x) m h = rw h
found-at tells wrap at (Err e) (Err d) h = rw (h.0, h.1)
found-at tells wrap at (Err e) (Ok x) h = absurd h

-- passed on by `?`
pub passed-on : {A R : Type 0} (tells : R → ℕ) (e : RefusedAt R) (r : Result A (RefusedAt R)) → IsErrAnd r (λ d. d ≡ e)
    → told_at tells r ≡ refused (tells e.why, e.at)
passed-on tells e (Err d) h = rw h
passed-on tells e (Ok x) h = absurd h

pub given-there : {A : Type 0} (at : ℕ) (t : Told A) (x : A) → located at t ≡ given x → t ≡ given x
given-there at (given y) x h = let z : y ≡ x = cc in ap given z
given-there at (refused n) x h = cc

-- the number is the same without the place
pub number-at : {A R : Type 0} (tells : R → ℕ) (r : Result A (RefusedAt R)) → number_told (told_by (λ e. tells e.why) r) ≡ number_in (told_at tells r)
number-at tells (Ok x) = refl
number-at tells (Err e) = refl

-- nor does it turn on what was given
pub number-then : {A B : Type 0} (t : ToldAt A) (f : A → B) → number_in (and_then t (λ a. given (f a))) ≡ number_in t
number-then (given a) f = refl
number-then (refused why) f = refl
