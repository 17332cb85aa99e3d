-- Moving the bytes of a part to where the first record stands.
use Rattle.std.proofs.Common.{◌≡◌, ℕ, ◌+◌, ◌-◌, ◌≤◌, List, length, take, drop, sym, ap, ◌∙◌, arith, length-drop, length-take-le}
use Rattle.std.proofs.Math.Seq.{paste}
use Rattle.std.proofs.lemmas.List.{drop-take}
use Rattle.std.proofs.lemmas.List.Edits.{sets, sets-eq}
use Rattle.outbox.specs.Format.{first_place}

module _ (buffer : List ℕ) (place held : ℕ) (first : first_place ≤ place) (within : place ≤ held) (fits : held ≤ length buffer) where
  -- the bytes that are moved
  run : take (held - place) (drop place buffer) ≡ drop place (take held buffer)
  run =
      let e : place + (held - place) ≡ held = omega arith in
      sym (drop-take place (held - place) buffer) ∙ ap (λ n. drop place (take n buffer)) e

  run-long : length (drop place (take held buffer)) ≡ held - place
  run-long = length-drop place (take held buffer) ∙ rw (length-take-le held buffer fits)

  pub moved : paste buffer first_place (drop place buffer) (held - place) ≡ sets buffer first_place (drop place (take held buffer))
  moved = rw (run, sets-eq (drop place (take held buffer)) buffer first_place (omega (arith, run-long)), run-long)
