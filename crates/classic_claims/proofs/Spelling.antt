-- How a byte is spelt in a frame: as itself, or as F2 and a code that stands for it.
use Prim.Native.Nat.{ℕ, ◌<◌}
use mathlib.Core.Path.{◌≡◌, refl, sym}
use mathlib.Core.Bool.{Bool, true, false, cond}
use mathlib.Core.List.{List, [], ◌∷◌}
use lib.Dec.{eqb, lit<}
use borrow.Author.Tests.{eqb-true}
use Rattle.classic_frame.specs.declared.mark.Kind.{Kind}
use Rattle.classic_frame.specs.declared.mark.Kind.TheVariants.{Start, End, Escape, Plain}
use Rattle.classic_frame.specs.Mark.{start_mark, end_mark, escape_mark, kind_of}
use Rattle.classic_frame.specs.Frame.{start_code, end_code, escape_code, escaped_by}
use Rattle.classic_extractor.specs.declared.outcome.Refusal.TheVariants.{BadEscape}
use Rattle.classic_extractor.specs.Action.{Store, Refuse, code_of}

-- the byte that a kind stands for
abbrev byte_by : Kind → ℕ → ℕ
byte_by Start b = start_mark
byte_by End b = end_mark
byte_by Escape b = escape_mark
byte_by Plain b = b

mark-is : (b : ℕ) → byte_by (kind_of b) b ≡ b
unfolding kind_of
mark-is b = go (eqb b start_mark) (eqb b end_mark) (eqb b escape_mark) refl refl refl
  where
    go : (s e x : Bool) → eqb b start_mark ≡ s → eqb b end_mark ≡ e → eqb b escape_mark ≡ x
        → byte_by (cond s Start (cond e End (cond x Escape Plain))) b ≡ b
    go true e x p q r = sym (eqb-true _ _ p)
    go false true x p q r = sym (eqb-true _ _ q)
    go false false true p q r = sym (eqb-true _ _ r)
    go false false false p q r = refl

-- a code and the byte that it stands for
pub record Code (c x : ℕ) : Type 0 where
  pub stands : code_of c ≡ Store x
  pub spelling : escaped_by (kind_of x) x ≡ escape_mark ∷ c ∷ []
  pub small : x < 256

start-code : Code start_code start_mark
unfolding code_of kind_of
start-code = record { stands = refl; spelling = refl; small = lit< tt }

end-code : Code end_code end_mark
unfolding code_of kind_of
end-code = record { stands = refl; spelling = refl; small = lit< tt }

escape-code : Code escape_code escape_mark
unfolding code_of kind_of
escape-code = record { stands = refl; spelling = refl; small = lit< tt }

pub data Spelt (x : ℕ) : List ℕ → Type 0 where
  itself : kind_of x ≡ Plain → Spelt x (x ∷ [])
  coded : (c : ℕ) → kind_of c ≡ Plain → Code c x → Spelt x (escape_mark ∷ c ∷ [])

pub spelt : (x : ℕ) → Spelt x (escaped_by (kind_of x) x)
unfolding kind_of
spelt x = go (kind_of x) refl (mark-is x)
  where
    go : (k : Kind) → kind_of x ≡ k → byte_by k x ≡ x → Spelt x (escaped_by k x)
    go Start e m = rw (← m) (coded start_code refl start-code)
    go End e m = rw (← m) (coded end_code refl end-code)
    go Escape e m = rw (← m) (coded escape_code refl escape-code)
    go Plain e m = itself e

-- a byte after F2 is a code, or it is not
pub data Meaning (c : ℕ) : Type 0 where
  stands-for : (x : ℕ) → Code c x → Meaning c
  unknown : code_of c ≡ Refuse BadEscape → Meaning c

pub meaning : (c : ℕ) → Meaning c
unfolding code_of
meaning c = go (eqb c start_code) (eqb c end_code) (eqb c escape_code) refl refl refl
  where
    go : (s e x : Bool) → eqb c start_code ≡ s → eqb c end_code ≡ e → eqb c escape_code ≡ x → Meaning c
    go true e x p q r = rw (eqb-true c start_code p) (stands-for start_mark start-code)
    go false true x p q r = rw (eqb-true c end_code q) (stands-for end_mark end-code)
    go false false true p q r = rw (eqb-true c escape_code r) (stands-for escape_mark escape-code)
    go false false false p q r = unknown (rw (p, q, r))
