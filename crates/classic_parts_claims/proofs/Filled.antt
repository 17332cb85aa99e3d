-- What a call leaves of a frame: an output filled, and the table before it.
use Prim.Native.Nat.{ℕ, zero, suc, ◌+◌, ◌-◌, ◌≤◌, zero-le}
use mathlib.Core.Path.{◌≡◌, refl, ap, ◌∙◌}
use mathlib.Core.Bool.{Bool, true, false, cond, not}
use mathlib.Core.List.{List, [], ◌∷◌, ◌++◌}
use native.Mathlib.Nat.{zero-add, suc-add}
use native.Mathlib.Numerals.{one-add}
use native.Mathlib.Omega.{arith}
use lib.ListN.{length, take, drop, length-append}
use lib.Dec.{ltb, eqb}
use borrow.Author.Tests.{lt-ltb, le-ltb, le-leb, ne_eqb}
use Rattle.wire.specs.Told.{refused}
use Rattle.wire.specs.Limit.{limit_fits}
use Rattle.wire.proofs.Stores.{first-bytes}
use Rattle.classic_frame.specs.Mark.{is_mark}
use Rattle.classic_parts.specs.declared.state.PartProgress.{PartProgress}
use Rattle.classic_parts.specs.State.{lawful, missing}
use Rattle.classic_parts.specs.Byte.{Byte}
use Rattle.classic_parts.specs.Fill.{and_on, fill_of}
use Rattle.classic_parts.specs.Writer.{PartWrote, wrote, filled, part_of}
use Rattle.classic_parts_claims.specs.Run.{PartCall, part, beyond, offered_by, lent_by, taken_by, written_by}
use Rattle.classic_parts_claims.proofs.Left.{left_of, firsts_in, PartFits, SameFrame, Emits, ends, starves, own, takes, view}

-- what was written and what is left afterwards is what was left before, and so are the first output bytes of the payload
pub record Goes (s : PartProgress) (p bytes : List ℕ) (taken : ℕ) (next : PartProgress) : Type 0 where
  pub joins : left_of s p ≡ bytes ++ left_of next (drop taken p)
  pub fits : PartFits next (drop taken p)
  pub same : SameFrame next s
  pub firsts : (m : ℕ) → firsts_in (length bytes + m) s p ≡ taken + firsts_in m next (drop taken p)

stays : (s : PartProgress) (p : List ℕ) → PartFits s p → Goes s p [] 0 s
stays s p f = record { joins = refl; fits = f; same = (refl, refl); firsts = λ m. rw (zero-add, zero-add) }

-- ---- an output filled

abbrev Fills : ℕ → Type 0
Fills room =
    (n : ℕ) (s : PartProgress) (p : List ℕ) → PartFits s p
    → (let f = fill_of room s (take n p) in Goes s p f.bytes f.taken f.next × (length f.bytes ≤ room))

turn : (room : ℕ) → Fills room → (n : ℕ) (s : PartProgress) (p : List ℕ) {x : Byte} → PartFits s p → Emits s p n x
    → (let f = and_on s x (λ next k. fill_of room next (drop k (take n p))) in Goes s p f.bytes f.taken f.next × (length f.bytes ≤ suc room))
turn room later n s p f (ends e) = (stays s [] f, zero-le)
turn room later n s p f (starves {x} {xs}) = (stays s (x ∷ xs) f, zero-le)
turn room later n s p f (own b q next e fits same count) =
    let r = later n next q fits in
    let g = fill_of room next (take n q) in (
      record {
        joins = rw zero-add (e ∙ ap (λ (l : List ℕ). b ∷ l) r.0.joins);
        fits = rw zero-add r.0.fits;
        same = (r.0.same.0 ∙ same.0, r.0.same.1 ∙ same.1);
        firsts = λ m. rw (suc-add (length g.bytes) m, zero-add) (count (length g.bytes + m) ∙ r.0.firsts m);
      },
      omega (arith, r.1),
    )
turn room later (suc n) s p f (takes b x xs next e fits same count) =
    let r = later n next xs fits in
    let g = fill_of room next (take n xs) in (
      record {
        joins = rw one-add (e ∙ ap (λ (l : List ℕ). b ∷ l) r.0.joins);
        fits = rw one-add r.0.fits;
        same = (r.0.same.0 ∙ same.0, r.0.same.1 ∙ same.1);
        firsts = λ m. rw (suc-add (length g.bytes) m, one-add, suc-add) (count (length g.bytes + m) ∙ ap suc (r.0.firsts m));
      },
      omega (arith, r.1),
    )

pub fills : (room : ℕ) → Fills room
unfolding fill_of
fills zero n s p f = (stays s p f, zero-le)
fills (suc room) n s p f = turn room (fills room) n s p f (view s p n f)

-- ---- a call

abbrev Left : PartProgress → List ℕ → PartWrote → Type 0
Left s p w = Goes s p (written_by w.told w.out) (taken_by w.told) w.next

part-goes : (limit : ℕ) (s : PartProgress) (p : List ℕ) (n : ℕ) (out : List ℕ) → PartFits s p → Left s p (part_of limit s (take n p) out)
part-goes limit s p n out f = go (not (lawful limit s)) (ltb (missing s) (length (take n p))) (eqb (length out) 0)
  where
    go : (a b c : Bool)
        → Left s p (cond a (wrote (refused 1) s out) (cond b (wrote (refused 26) s out) (cond c (wrote (refused 14) s out) (filled out (fill_of (length out) s (take n p))))))
    go true b c = stays s p f
    go false true c = stays s p f
    go false false true = stays s p f
    go false false false =
        let r = fills (length out) n s p f in
        rw (first-bytes out (fill_of (length out) s (take n p)).bytes r.1) r.0

-- more than is missing is refused
beyond-goes : (limit : ℕ) (s : PartProgress) (p more : List ℕ) (b : ℕ) (out : List ℕ) → PartFits s p → Left s p (part_of limit s (p ++ (b ∷ more)) out)
beyond-goes limit s p more b out f =
    rw (lt-ltb (missing s) (length (p ++ (b ∷ more))) (rw length-append (omega (arith, f.told)))) (go (not (lawful limit s)))
  where
    go : (a : Bool) → Left s p (cond a (wrote (refused 1) s out) (wrote (refused 26) s out))
    go true = stays s p f
    go false = stays s p f

pub call-goes : (limit : ℕ) (s : PartProgress) (p : List ℕ) (c : PartCall) → PartFits s p → Left s p (part_of limit s (offered_by c p) (lent_by c))
call-goes limit s p (part n out) f = part-goes limit s p n out f
call-goes limit s p (beyond b bs out) f = beyond-goes limit s p bs b out f

-- ---- a call that is not refused

pub call-filled : (limit : ℕ) (s : PartProgress) (offered out : List ℕ)
    → limit_fits limit ≡ true → is_mark s.sequence ≡ false → s.total ≤ limit → s.taken + length offered ≤ s.total → 1 ≤ length out
    → part_of limit s offered out ≡ filled out (fill_of (length out) s offered)
unfolding lawful
call-filled limit s offered out range m t h o =
    rw (
      range,
      m,
      le-ltb limit s.total t,
      le-leb s.taken s.total (omega arith),
      le-ltb (missing s) (length offered) (omega arith),
      ne_eqb (length out) 0 (omega arith),
    )
