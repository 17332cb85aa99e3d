-- The piece at a place: the pieces before it are full.
use Prim.Native.Nat.{ℕ, zero, suc, ◌+◌, ◌-◌, ◌*◌, ◌/◌, ◌%◌, ◌≤◌, ◌<◌, min}
use native.Mathlib.Omega.{arith}
use native.Mathlib.Nat.{mod-eq-sub-mod, suc-mul, div-add-mod', zero-mod, zero-mul}
use mathlib.Core.Path.{◌≡◌, refl, sym, ap, ◌∙◌}
use mathlib.Core.List.{[]}
use mathlib.Core.Bool.{Bool, true, false, cond}
use lib.Dec.{ltb, eqb}
use borrow.Author.Tests.{eq-eqb, ne_eqb, ltb-true, ltb-false, eqb-false}
use Rattle.std.specs.Prelude.{None, Some}
use Rattle.ble_sender.specs.Piece.{least_room, size_for, full_size, is_first, pieces_from, pieces_of, piece_at}
use Rattle.ble_sender.proofs.Largest.{full-some, size_is}

-- ---- after the first piece all are of one size, c, but for the last

module _ (room c : ℕ) (enough : least_room ≤ room) (full : c ≡ full_size room false) where
  later-size : (index rest : ℕ) → size_for room (is_first (suc index)) rest ≡ min rest c
  later-size index rest = rw (ne_eqb (suc index) 0 (λ e. omega arith), full) (size_is room false enough rest)

  some-full : 0 < c
  some-full = rw full (full-some room false enough)

  -- one turn, with the size in closed form
  turn : (q fuel index start rest : ℕ)
      → piece_at q (pieces_from (suc fuel) room (suc index) start rest)
      ≡ cond (eqb start q) (Some (record { index = suc index; start = start; size = min rest c }))
      (piece_at q (cond (eqb (min rest c) rest) [] (pieces_from fuel room (suc (suc index)) (start + min rest c) (rest - min rest c))))
  turn q fuel index start rest = rw (later-size index rest)

  -- k full pieces on, one begins
  hit : (k fuel index start rest q : ℕ) → q ≡ start + k * c → q < start + rest → rest ≤ fuel
      → piece_at q (pieces_from fuel room (suc index) start rest) ≡ Some (record { index = suc index + k; start = q; size = min (start + rest - q) c })
  hit k zero index start rest q e l f = absurd (omega arith)
  hit zero (suc fuel) index start rest q e l f =
      let z : q ≡ start = omega (arith, zero-mul c) in
      let i : suc index + 0 ≡ suc index = omega arith in
      let s : start + rest - start ≡ rest = omega arith in
      turn q fuel index start rest ∙ rw (z, eq-eqb start start refl, i, s)
  hit (suc k) (suc fuel) index start rest q e l f =
      let u = suc-mul k c in
      let w = some-full in
      let m : min rest c ≡ c = omega arith in
      let i : suc (suc index) + k ≡ suc index + suc k = omega arith in
      let s : start + c + (rest - c) - q ≡ start + rest - q = omega arith in
      turn q fuel index start rest
      ∙ rw (ne_eqb start q (λ d. omega arith), m, ne_eqb c rest (λ d. omega arith))
      (hit k fuel (suc index) (start + c) (rest - c) q (omega arith) (omega arith) (omega arith) ∙ rw (i, s))

  -- where no piece begins
  pub data Missing (start rest q : ℕ) : Type 0 where
    below : q < start → Missing start rest q
    beyond : start + rest ≤ q → Missing start rest q
    between : ((q - start) % c ≡ 0 → ⊥) → Missing start rest q

  elsewhere : {start rest q : ℕ} → 1 ≤ rest → Missing start rest q → start ≡ q → ⊥
  elsewhere l (below h) e = omega arith
  elsewhere l (beyond h) e = omega arith
  elsewhere {start} {rest} {q} l (between d) e = let z : q - start ≡ 0 = omega arith in d (rw z (zero-mod c))

  between_next : (start rest q : ℕ) (b : Bool) → ltb q (start + c) ≡ b → ((q - start) % c ≡ 0 → ⊥) → Missing (start + c) rest q
  between_next start rest q true e d = below (ltb-true q (start + c) e)
  between_next start rest q false e d =
      let h : start + c ≤ q = ltb-false q (start + c) e in
      let g : c ≤ q - start = omega arith in
      let s : q - start - c ≡ q - (start + c) = omega arith in
      between (λ z. d (mod-eq-sub-mod g ∙ ap (λ (x : ℕ). x % c) s ∙ z))

  missing-next : {start rest q : ℕ} → c < rest → Missing start rest q → Missing (start + c) (rest - c) q
  missing-next l (below h) = below (omega arith)
  missing-next l (beyond h) = beyond (omega arith)
  missing-next {start} {rest} {q} l (between d) = between_next start (rest - c) q (ltb q (start + c)) refl d

  miss-by : (fuel index start rest q : ℕ) (b : Bool) → eqb (min rest c) rest ≡ b
      → (c < rest → piece_at q (pieces_from fuel room (suc (suc index)) (start + c) (rest - c)) ≡ None)
      → piece_at q (cond b [] (pieces_from fuel room (suc (suc index)) (start + min rest c) (rest - min rest c))) ≡ None
  miss-by fuel index start rest q true e later = refl
  miss-by fuel index start rest q false e later =
      let d : (min rest c ≡ rest → ⊥) = eqb-false (min rest c) rest e in
      let l : c < rest = omega arith in
      let m : min rest c ≡ c = omega arith in
      rw m (later l)

  miss : (fuel index start rest q : ℕ) → 1 ≤ rest → Missing start rest q → piece_at q (pieces_from fuel room (suc index) start rest) ≡ None
  miss zero index start rest q l h = refl
  miss (suc fuel) index start rest q l h =
      turn q fuel index start rest
      ∙ rw (ne_eqb start q (elsewhere l h))
      (miss-by fuel index start rest q (eqb (min rest c) rest) refl
      (λ u. miss fuel (suc index) (start + c) (rest - c) q (omega arith) (missing-next u h)))

-- ---- the piece at a place q of a whole message: f is the size of a full first piece, c of a full one after it

module _ (room length q f : ℕ) (enough : least_room ≤ room) (fullf : f ≡ full_size room true) where
  begin : piece_at q (pieces_of room length)
      ≡ cond (eqb 0 q) (Some (record { index = 0; start = 0; size = min length f }))
      (piece_at q (cond (eqb (min length f) length) [] (pieces_from length room 1 (0 + min length f) (length - min length f))))
  begin = let e : size_for room true length ≡ min length f = rw fullf (size_is room true enough length) in rw e

  pub place-first : q ≡ 0 → piece_at q (pieces_of room length) ≡ Some (record { index = 0; start = 0; size = min length f })
  place-first z = begin ∙ rw (eq-eqb 0 q (sym z))

  module _ (c : ℕ) (fullc : c ≡ full_size room false) (some-place : q ≡ 0 → ⊥) where
    none-by : (b : Bool) → eqb (min length f) length ≡ b → (f < length → Missing room c enough fullc (0 + f) (length - f) q)
        → piece_at q (cond b [] (pieces_from length room 1 (0 + min length f) (length - min length f))) ≡ None
    none-by true e h = refl
    none-by false e h =
        let d : (min length f ≡ length → ⊥) = eqb-false (min length f) length e in
        let l : f < length = omega arith in
        let m : min length f ≡ f = omega arith in
        rw m (miss room c enough fullc length 0 (0 + f) (length - f) q (omega arith) (h l))

    place_none : (f < length → Missing room c enough fullc (0 + f) (length - f) q) → piece_at q (pieces_of room length) ≡ None
    place_none h = begin ∙ rw (ne_eqb 0 q (λ e. some-place (sym e))) (none-by (eqb (min length f) length) refl h)

    pub place-hit : f ≤ q → q < length → (q - f) % c ≡ 0
        → piece_at q (pieces_of room length) ≡ Some (record { index = (q - f) / c + 1; start = q; size = min (length - q) c })
    place-hit g l z =
        let w : 0 < f = rw fullf (full-some room true enough) in
        let k : ℕ = (q - f) / c in
        let e : k * c + (q - f) % c ≡ q - f = div-add-mod' (q - f) c in
        let m : min length f ≡ f = omega arith in
        let i : 1 + k ≡ k + 1 = omega arith in
        let s : 0 + f + (length - f) - q ≡ length - q = omega arith in
        begin
        ∙ rw (ne_eqb 0 q (λ d. some-place (sym d)), m, ne_eqb f length (λ d. omega arith))
        (hit room c enough fullc k length 0 (0 + f) (length - f) q (omega arith) (omega arith) (omega arith) ∙ rw (i, s))

    pub place-beyond : length ≤ q → piece_at q (pieces_of room length) ≡ None
    place-beyond h = place_none (λ l. beyond (omega arith))

    pub place-before : q < f → piece_at q (pieces_of room length) ≡ None
    place-before h = place_none (λ l. below (omega arith))

    pub place-between : ((q - f) % c ≡ 0 → ⊥) → piece_at q (pieces_of room length) ≡ None
    place-between d = let z : 0 + f ≡ f = omega arith in place_none (λ l. between (rw z d))
