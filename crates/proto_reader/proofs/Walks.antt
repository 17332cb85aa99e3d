-- Laws of a walk: the turns of its loop, and what holds of all that it gathers.
use Prim.Native.Nat.{ℕ, zero, suc, ◌+◌, ◌-◌, ◌≤◌, ◌<◌}
use mathlib.Core.Path.{◌≡◌, refl, ap, ◌∙◌}
use mathlib.Core.List.{List}
use native.Mathlib.Omega.{arith}
use lib.Dec.{leb}
use lib.ListN.{length}
use borrow.Author.Tests.{le-leb, lt-leb}
use Rattle.wire.specs.Told.{ToldOf, given, refused, and_then}
use Rattle.wire.proofs.Tests.{by_cond}
use Rattle.proto_field.proofs.Told.{Sat, sat-then}
use Rattle.proto_reader.specs.declared.gathered.Gathered.{Gathered}
use Rattle.proto_reader.specs.Walk.{walk}

module _ {N : Type 0} (step : List ℕ → ℕ → Gathered → ToldOf N (Gathered × ℕ)) where
  pub walk_end : (fuel : ℕ) (s : List ℕ) (at : ℕ) (g : Gathered) → length s ≤ at → walk step fuel s at g ≡ given g
  walk_end zero s at g h = refl
  walk_end (suc fuel) s at g h = rw (le-leb (length s) at h)

  walk_turn : (s : List ℕ) (at : ℕ) (g : Gathered) → at < length s → (fuel : ℕ) → length s ≤ at + fuel
      → walk step fuel s at g ≡ and_then (step s at g) (λ q. walk step (fuel - 1) s q.1 q.0)
  walk_turn s at g inside zero h = absurd (let z : 1 ≤ 0 = omega arith in omega arith)
  walk_turn s at g inside (suc fuel) h = rw (lt-leb (length s) at inside, same)
    where
      same : suc fuel - 1 ≡ fuel
      same = omega arith

  pub walk-next : (s : List ℕ) (at : ℕ) (g : Gathered) → at < length s → (fuel : ℕ) → length s ≤ at + fuel → (q : Gathered × ℕ) → step s at g ≡ given q
      → walk step fuel s at g ≡ walk step (fuel - 1) s q.1 q.0
  walk-next s at g inside fuel h q e = walk_turn s at g inside fuel h ∙ ap (λ r. and_then r (λ q. walk step (fuel - 1) s q.1 q.0)) e

  pub walk-stop : (s : List ℕ) (at : ℕ) (g : Gathered) → at < length s → (fuel : ℕ) → length s ≤ at + fuel → (n : N) → step s at g ≡ refused n
      → walk step fuel s at g ≡ refused n
  walk-stop s at g inside fuel h n e = walk_turn s at g inside fuel h ∙ ap (λ r. and_then r (λ q. walk step (fuel - 1) s q.1 q.0)) e

  -- what each step keeps holds of all that is gathered
  pub walk-keeps : (P : Gathered → Type 0) (s : List ℕ) → ((at : ℕ) (g : Gathered) → P g → Sat (λ (q : Gathered × ℕ). P q.0) (step s at g))
      → (fuel at : ℕ) (g : Gathered) → P g → Sat P (walk step fuel s at g)
  walk-keeps P s k zero at g w = w
  walk-keeps P s k (suc fuel) at g w =
      by_cond (Sat P) (leb (length s) at) (given g) _ (λ _. w)
      (λ _. sat-then (λ (q : Gathered × ℕ). P q.0) P (step s at g) _ (k at g w) (λ q h. walk-keeps P s k fuel q.1 q.0 h))

-- the loop's invariant: the walk from here, with fuel for what is left, is the whole walk
pub record Walks {N : Type 0} (step : List ℕ → ℕ → Gathered → ToldOf N (Gathered × ℕ)) (s : List ℕ) (whole : ToldOf N Gathered) (at : ℕ) (g : Gathered) : Type 0 where
  pub fuel : ℕ
  pub enough : length s ≤ at + fuel
  pub same : whole ≡ walk step fuel s at g

-- each step ends after its place
abbrev pub Forward : {N : Type 0} → (List ℕ → ℕ → Gathered → ToldOf N (Gathered × ℕ)) → Type 0
Forward step = (s : List ℕ) (at : ℕ) (g : Gathered) (q : Gathered × ℕ) → step s at g ≡ given q → at < q.1

-- a turn of the loop
pub walks_next : {N : Type 0} (step : List ℕ → ℕ → Gathered → ToldOf N (Gathered × ℕ)) → Forward step → {s : List ℕ} {whole : ToldOf N Gathered} {at : ℕ} {g : Gathered} (q : Gathered × ℕ)
    → Walks step s whole at g → at < length s → step s at g ≡ given q → Walks step s whole q.1 q.0
walks_next step forward {s} {whole} {at} {g} q w inside e =
    record {
      fuel = w.fuel - 1;
      enough = omega (arith, w.enough, forward s at g q e);
      same = w.same ∙ walk-next step s at g inside w.fuel w.enough q e;
    }
