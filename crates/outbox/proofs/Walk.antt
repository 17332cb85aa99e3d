-- Laws of the walk over an outbox, for its loop.
use Prim.Native.Nat.{ℕ, suc, ◌+◌, ◌-◌, ◌≤◌, ◌<◌}
use mathlib.Core.Path.{◌≡◌, refl, sym, ap, ◌∙◌}
use mathlib.Core.Bool.{Bool, true, false}
use mathlib.Core.List.{List}
use native.Mathlib.Omega.{arith}
use lib.ListN.{length, drop}
use Rattle.outbox.specs.Format.{Format, first_place}
use Rattle.outbox.specs.Reader.{Answer, Item, FoundRecord, given, refused_at, found, end, other_version, record_at, read_of, readings, read_all, onward, refusal_or, first_refusal, walk_of}
use Rattle.outbox.proofs.Record.{clash}
use Rattle.outbox.proofs.Place.{opened, right-place, read-inside, read-end, read-within}

-- from a place on, with turns for all that is left, what is read decides as all does
pub record Going (fmt : Format) (file : List ℕ) (place : ℕ) : Type 0 where
  pub turns : ℕ
  pub some : 1 ≤ turns
  pub enough : length file < place + turns
  pub same : first_refusal (readings turns fmt file place) ≡ walk_of fmt file

-- .. in an outbox of the right version, at a place within it
pub record Walking (fmt : Format) (file : List ℕ) (place : ℕ) : Type 0 where
  pub version : other_version fmt file ≡ false
  pub first : 1 ≤ place
  pub inside : place ≤ length file
  pub going : Going fmt file place

module _ (fmt : Format) (file : List ℕ) where
  pub going-begins : Going fmt file first_place
  unfolding walk_of read_all
  going-begins = record { turns = suc (length file); some = omega arith; enough = omega arith; same = refl }

  -- one turn, by what is read
  turn : (place turns : ℕ) (a : Answer Item) → read_of fmt file place ≡ a
      → first_refusal (readings (suc turns) fmt file place) ≡ refusal_or a (first_refusal (onward a (λ next. readings turns fmt file next)))
  unfolding readings
  turn place turns a e = rw e

  module _ {place : ℕ} (g : Going fmt file place) where
    pub read-decides : (a : Answer Item) → read_of fmt file place ≡ a
        → walk_of fmt file ≡ refusal_or a (first_refusal (onward a (λ next. readings (g.turns - 1) fmt file next)))
    read-decides a e = sym g.same ∙ ap (λ n. first_refusal (readings n fmt file place)) count ∙ turn place (g.turns - 1) a e
      where
        count : g.turns ≡ suc (g.turns - 1)
        count = omega (arith, g.some)

    pub read_goes : (f : FoundRecord) → read_of fmt file place ≡ given (found f) → Going fmt file f.next
    read_goes f e =
        let within = read-within fmt file place f e in
        record {
          turns = g.turns - 1;
          some = omega (arith, g.enough, within.0, within.1);
          enough = omega (arith, g.enough, within.0);
          same = sym (read-decides (given (found f)) e);
        }

  pub other-version-walk : other_version fmt file ≡ true → walk_of fmt file ≡ refused_at 40 0
  unfolding read_of
  other-version-walk e = read-decides going-begins (refused_at 40 0) (rw e)

  -- a whole file has the version
  pub whole-version : walk_of fmt file ≡ given tt → other_version fmt file ≡ false
  whole-version e = by-version (other_version fmt file) refl
    where
      by-version : (b : Bool) → other_version fmt file ≡ b → other_version fmt file ≡ false
      by-version true v = absurd (clash (cc (other-version-walk v)))
      by-version false v = v

  pub walk_begins : other_version fmt file ≡ false → Walking fmt file first_place
  walk_begins e = record { version = e; first = omega arith; inside = opened fmt file e; going = going-begins }

  module _ {place : ℕ} (w : Walking fmt file place) where
    pub walk_ends : length file ≤ place → walk_of fmt file ≡ refusal_or (read_of fmt file place) (given tt)
    walk_ends h =
        let here : read_of fmt file place ≡ given end = read-end fmt file place w.version w.first (omega (arith, w.inside)) in
        read-decides w.going (given end) here ∙ ap (λ a. refusal_or a (given tt)) (sym here)

    module _ (h : place < length file) where
      here : read_of fmt file place ≡ record_at fmt place (drop place file)
      here = read-inside fmt file place w.version (right-place file place w.first w.inside) (omega arith)

      pub walk-stops : (n : ℕ) → record_at fmt place (drop place file) ≡ refused_at n place → walk_of fmt file ≡ refusal_or (read_of fmt file place) (given tt)
      walk-stops n e = read-decides w.going (refused_at n place) (here ∙ e) ∙ ap (λ a. refusal_or a (given tt)) (sym (here ∙ e))

      pub walk-goes : (f : FoundRecord) → record_at fmt place (drop place file) ≡ given (found f) → Walking fmt file f.next
      walk-goes f e =
          let within = read-within fmt file place f (here ∙ e) in
          record {
            version = w.version;
            first = omega (arith, within.0);
            inside = within.1;
            going = read_goes w.going f (here ∙ e);
          }

  -- an outbox that has its version byte alone
  pub alone-whole : other_version fmt file ≡ false → length file ≡ first_place → walk_of fmt file ≡ given tt
  alone-whole v h =
      let w = walk_begins v in
      walk_ends w (omega arith) ∙ ap (λ a. refusal_or a (given tt)) (read-end fmt file first_place v (omega arith) (sym h))

  -- where what is read at a place decides
  module _ (v : other_version fmt file ≡ false) (place : ℕ) (first : first_place ≤ place) (d : walk_of fmt file ≡ refusal_or (read_of fmt file place) (given tt)) where
    pub decided-end : place ≡ length file → walk_of fmt file ≡ given tt
    decided-end h = d ∙ ap (λ a. refusal_or a (given tt)) (read-end fmt file place v first h)

    pub decided-here : place < length file → (a : Answer Item) → record_at fmt place (drop place file) ≡ a → walk_of fmt file ≡ refusal_or a (given tt)
    decided-here h a e = d ∙ ap (λ x. refusal_or x (given tt)) (read-inside fmt file place v (right-place file place first (omega arith)) (omega arith) ∙ e)
