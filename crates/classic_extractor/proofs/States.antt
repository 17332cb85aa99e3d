-- Laws of the extractor's states and steps.
use Prim.Native.Nat.{ℕ, ◌+◌, ◌≤◌}
use mathlib.Core.Path.{◌≡◌, refl, sym, ap, ◌∙◌}
use mathlib.Core.List.{List}
use mathlib.Core.Bool.{Bool, true, false, cond, not, ◌&&◌}
use native.Mathlib.Omega.{arith}
use lib.ListN.{length}
use lib.Dec.{eqb, leb}
use borrow.Author.Tests.{eqb-true, leb-true}
use Rattle.wire.proofs.Tests.{and_left, and_right}
use Rattle.wire.specs.Limit.{limit_fits}
use Rattle.classic_frame.specs.declared.mark.Kind.{Kind}
use Rattle.std.proofs.Common.{Option, Some, None}
use Rattle.classic_frame.specs.Mark.{start_mark, end_mark, escape_mark, kind_of, is_mark}
use Rattle.classic_frame.specs.Frame.{start_code, end_code, escape_code, mark_for}
use Rattle.classic_extractor.specs.declared.outcome.Refusal.TheVariants.{BadEscape}
use Rattle.classic_extractor.specs.declared.state.Phase.{Phase}
use Rattle.classic_extractor.specs.declared.state.Progress.{Progress}
use Rattle.classic_extractor.specs.Action.{Action, Store, Refuse, code_of, action_by}
use Rattle.classic_extractor.specs.Step.{perform_of, advance_of}
use Rattle.classic_extractor.specs.State.{sequence_read, lawful_before, lawful_after, lawful, ready, Fits}

held-within : (limit : ℕ) (t : Bool) (q h : ℕ) → cond t (lawful_after limit q h) (lawful_before q h) ≡ true → h ≤ limit + 2
held-within limit true q h e = leb-true _ _ (and_right (not (is_mark q)) (leb h (limit + 2)) e)
held-within limit false q h e = omega (arith, eqb-true h 0 (and_right (eqb q 0) (eqb h 0) e))

-- what a lawful state and the right size give
pub ready-fits : {limit : ℕ} {s : Progress} {l : List ℕ} → ready limit s (length l) ≡ true → Fits limit s l
unfolding ready lawful
ready-fits {limit} {s} {l} e =
    let k = and_right (limit_fits limit) (eqb (length l) (limit + 2) && lawful limit s) e in
    record {
      room = held-within limit (sequence_read s.phase) s.sequence s.held (and_right (eqb (length l) (limit + 2)) (lawful limit s) k);
      size = eqb-true _ _ (and_left (eqb (length l) (limit + 2)) (lawful limit s) k);
    }

-- a byte's step by its phase and its kind
pub by-phase : (limit : ℕ) (s : Progress) (l : List ℕ) (b : ℕ) (p : Phase) {k : Kind} → s.phase ≡ p → k ≡ kind_of b
    → perform_of limit s l b (action_by p k b) ≡ advance_of limit s l b
unfolding advance_of
by-phase limit s l b p e f =
    ap (λ (k : Kind). perform_of limit s l b (action_by p k b)) f ∙ sym (ap (λ (p : Phase). perform_of limit s l b (action_by p (kind_of b) b)) e)

-- a code after F2 by the mark that it stands for
abbrev pub by_mark : Option ℕ → Action
by_mark (Some mark) = Store mark
by_mark None = Refuse BadEscape

pub code-by-mark : (b : ℕ) → by_mark (mark_for b) ≡ code_of b
unfolding mark_for code_of
code-by-mark b = go (eqb b start_code) (eqb b end_code) (eqb b escape_code)
  where
    go : (s e x : Bool) → by_mark (cond s (Some start_mark) (cond e (Some end_mark) (cond x (Some escape_mark) None)))
        ≡ cond s (Store start_mark) (cond e (Store end_mark) (cond x (Store escape_mark) (Refuse BadEscape)))
    go true e x = refl
    go false true x = refl
    go false false true = refl
    go false false false = refl
