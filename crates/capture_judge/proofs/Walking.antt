-- Laws of the walk over a capture, for its loop.
use Prim.Native.Nat.{ℕ, ◌+◌, ◌-◌, ◌≤◌, ◌<◌, min}
use native.Mathlib.Omega.{arith}
use mathlib.Core.Path.{◌≡◌, refl, sym, ap, ◌∙◌}
use mathlib.Core.List.{List, ◌∷◌}
use mathlib.Core.Bool.{Bool, true, false}
use lib.ListN.{length, take, drop, length-take, length-drop, drop_of_length-le}
use lib.Dec.{ltb}
use borrow.Author.Tests.{ltb-true, ltb-false}
use Rattle.wire.specs.Told.{given, refused}
use Rattle.capture_reader.specs.Capture.{width, located, front_of, other_version}
use Rattle.capture_reader.proofs.Walking as captures
use Rattle.capture_reader.proofs.Walking.{front-within, PacketWalk, walk_begins, walk_ends, walk-stops, walk-goes}
use Rattle.capture_judge.specs.declared.State.{State}
use Rattle.capture_judge.specs.declared.capture.Judgement.{Judgement}
use Rattle.capture_judge.specs.declared.capture.Judgement.TheVariants.{Going}
use Rattle.capture_judge.specs.Step.{idle}
use Rattle.capture_judge.specs.Capture.{gone_on, verdict_from, walked_of}

-- what follows a place, or nothing
pub drop-smaller : (bytes : List ℕ) (n : ℕ) (b : Bool) → ltb (length bytes) n ≡ b → drop (min (length bytes) n) bytes ≡ drop n bytes
drop-smaller bytes n true e =
    let l : length bytes < n = ltb-true (length bytes) n e in
    let m : min (length bytes) n ≡ length bytes = omega arith in
    rw m (drop_of_length-le bytes {i = length bytes} (omega arith) ∙ sym (drop_of_length-le bytes {i = n} (omega arith)))
drop-smaller bytes n false e =
    let l : n ≤ length bytes = ltb-false (length bytes) n e in
    let m : min (length bytes) n ≡ n = omega arith in
    rw m

-- from a place on, the packets that are left and what is known so far decide as all do
pub record Judging (room limit : ℕ) (bytes : List ℕ) (at : ℕ) (v : Judgement) : Type 0 where
  pub walk : PacketWalk bytes (walked_of room limit bytes) at (λ ps. given (verdict_from room limit at v ps))

module _ (room limit : ℕ) (bytes : List ℕ) where
  pub other-refused : other_version bytes ≡ true → walked_of room limit bytes ≡ refused (40, 0)
  unfolding walked_of
  other-refused e = rw (captures.other-refused bytes e)

  pub judging-begins : other_version bytes ≡ false → (s : State) → s ≡ idle → Judging room limit bytes 1 (Going s)
  unfolding walked_of
  judging-begins e s i = rw i (record { walk = walk_begins bytes (λ ps. given (verdict_from room limit 1 (Going idle) ps)) e })

  module _ {at : ℕ} {v : Judgement} (j : Judging room limit bytes at v) where
    pub judging-ends : length bytes ≤ at → walked_of room limit bytes ≡ given v
    unfolding verdict_from
    judging-ends h = walk_ends bytes j.walk h

    module _ (h : at < length bytes) where
      pub judging-stops : (why : ℕ × ℕ) → located at (front_of (drop at bytes)) ≡ refused why → walked_of room limit bytes ≡ refused why
      judging-stops why e = walk-stops bytes j.walk h why e

      -- one packet more
      step_is : (p : List ℕ) (ps : List (List ℕ)) → verdict_from room limit at v (p ∷ ps) ≡ verdict_from room limit (at + width + length p) (gone_on room limit at v p) ps
      unfolding verdict_from
      step_is p ps = refl

      pub judging-goes : (n : ℕ) (p : List ℕ) (w : Judgement) → front_of (drop at bytes) ≡ given n → p ≡ take n (drop (at + width) bytes) → w ≡ gone_on room limit at v p
          → Judging room limit bytes (at + width + n) w
      judging-goes n p w e pe we =
          let k : width + n ≤ length (drop at bytes) = (front-within (drop at bytes) n e).0 in
          let l : length (drop at bytes) ≡ length bytes - at = length-drop at bytes in
          let size : length p ≡ n = rw pe (length-take n (drop (at + width) bytes) ∙ omega (arith, length-drop (at + width) bytes)) in
          record {
            walk = walk-goes bytes j.walk h n p (λ ps. given (verdict_from room limit (at + width + n) w ps)) e pe (λ ps. ap given (step_is p ps ∙ rw (size, ← we)));
          }
