-- What holds of all that a reader can give.
use mathlib.Core.Path.{◌≡◌, subst}
use Rattle.wire.specs.Told.{ToldOf, given, refused, and_then}

-- P holds of what is given, if anything is
abbrev pub Sat : {N A : Type 0} → (A → Type 0) → ToldOf N A → Type 0
Sat P (given a) = P a
Sat P (refused e) = Unit {0}

pub sat-any : {N A : Type 0} (r : ToldOf N A) → Sat (λ (a : A). Unit {0}) r
sat-any (given a) = tt
sat-any (refused e) = tt

pub sat-then : {N A B : Type 0} (P : A → Type 0) (Q : B → Type 0) (r : ToldOf N A) (f : A → ToldOf N B) → Sat P r → ((a : A) → P a → Sat Q (f a))
    → Sat Q (and_then r f)
sat-then P Q (given a) f h k = k a h
sat-then P Q (refused e) f h k = tt

pub sat_weaken : {N A : Type 0} (P Q : A → Type 0) (r : ToldOf N A) → Sat P r → ((a : A) → P a → Q a) → Sat Q r
sat_weaken P Q (given a) h k = k a h
sat_weaken P Q (refused e) h k = tt

pub sat-given : {N A : Type 0} (P : A → Type 0) (r : ToldOf N A) (a : A) → Sat P r → r ≡ given a → P a
sat-given P r a h e = subst (Sat P) e h
