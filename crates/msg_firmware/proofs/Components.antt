-- Laws of components that are read one after another, and of the places where they are kept.
use Prim.Native.Nat.{ℕ, ◌+◌, ◌≤◌, ◌<◌}
use mathlib.Core.Path.{◌≡◌, refl, sym, ap, ◌∙◌}
use mathlib.Core.List.{List, [], ◌∷◌, ◌++◌, append_assoc, append-nil}
use native.Mathlib.Omega.{arith}
use lib.ListN.{length, set, length-append}
use Rattle.wire.specs.Told.{ToldMore, given, refused, and_then}
use Rattle.wire.proofs.Stores.{sets_then}
use Rattle.proto_field.specs.declared.value.Part.{Part}
use Rattle.proto_reader.specs.Gathered.{most_repeated}
use Rattle.msg_firmware.specs.declared.component.FirmwareComponent.{FirmwareComponent}
use Rattle.msg_firmware.specs.Information.{parts_from, component_in, components_in, placed, components_from}

-- the loop's invariant: what was read, where it is kept, and what is still to be read
pub record ReadingComponents (s : List ℕ) (from at : ℕ) (kept : List FirmwareComponent) (count : ℕ) : Type 0 where
  pub done : List FirmwareComponent
  pub many : count ≡ length done
  pub stored : kept ≡ placed done
  pub whole : components_in s (parts_from s from) ≡ and_then (components_in s (parts_from s at)) (λ cs. given (done ++ cs))
  pub room : length done + length (parts_from s at) ≤ most_repeated

pub reading_begins : (s : List ℕ) (from : ℕ) → length (parts_from s from) ≤ most_repeated → ReadingComponents s from from (placed []) 0
reading_begins s from h = record { done = []; many = refl; stored = refl; whole = same (components_in s (parts_from s from)); room = omega arith }
  where
    same : (r : ToldMore (List FirmwareComponent)) → r ≡ and_then r (λ cs. given ([] ++ cs))
    same (given cs) = refl
    same (refused n) = refl

module _ {s : List ℕ} {from at : ℕ} {kept : List FirmwareComponent} {count : ℕ} (R : ReadingComponents s from at kept count) where
  pub reading-ends : parts_from s at ≡ [] → components_from s from ≡ given kept
  unfolding components_from
  reading-ends e =
      let w : components_in s (parts_from s from) ≡ given R.done =
      R.whole ∙ ap (λ ps. and_then (components_in s ps) (λ cs. given (R.done ++ cs))) e ∙ ap given (append-nil R.done) in
      rw w (ap given (sym R.stored))

  module _ (p : Part) (next : ℕ) (laid : parts_from s at ≡ p ∷ parts_from s next) where
    -- there is room for it
    pub reading-room : count < most_repeated
    reading-room = omega (arith, R.many, R.room, ap length laid)

    pub reading-stops : (n : ℕ × List ℕ) → component_in s p ≡ refused n → components_from s from ≡ refused n
    unfolding components_from
    reading-stops n e =
        let w : components_in s (parts_from s from) ≡ refused n =
        R.whole ∙ ap (λ ps. and_then (components_in s ps) (λ cs. given (R.done ++ cs))) laid ∙ rw e in
        rw w

    pub reading-next : (c : FirmwareComponent) → component_in s p ≡ given c → ReadingComponents s from next (set kept count c) (count + 1)
    reading-next c e =
        record {
          done = R.done ++ (c ∷ []);
          many = omega (arith, R.many, length-append R.done (c ∷ []));
          stored = ap (λ l. set l count c) R.stored ∙ sets_then _ 0 count R.done (c ∷ []) (omega (arith, R.many));
          whole = R.whole ∙ ap (λ ps. and_then (components_in s ps) (λ cs. given (R.done ++ cs))) laid ∙ rw e (regroup (components_in s (parts_from s next)));
          room = omega (arith, R.room, ap length laid, length-append R.done (c ∷ []));
        }
      where
        regroup : (r : ToldMore (List FirmwareComponent))
            → and_then (and_then r (λ cs. given (c ∷ cs))) (λ cs. given (R.done ++ cs)) ≡ and_then r (λ cs. given ((R.done ++ (c ∷ [])) ++ cs))
        regroup (given cs) = ap given (sym (append_assoc R.done (c ∷ []) cs))
        regroup (refused n) = refl
