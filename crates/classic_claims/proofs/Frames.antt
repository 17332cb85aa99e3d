-- What bytes hand out wherever they stand: F0 and F1, and the bytes before the closing part, of which nothing counts.
use Prim.Native.Nat.{ℕ, ◌+◌, ◌≤◌}
use mathlib.Core.Path.{◌≡◌, refl, ap}
use mathlib.Core.Bool.{true}
use mathlib.Core.List.{List, [], ◌∷◌, ◌++◌}
use native.Mathlib.Omega.{arith}
use lib.ListN.{length}
use borrow.Author.Tests.{lt-ltb, le-ltb}
use Rattle.classic_frame.specs.declared.mark.Kind.TheVariants.{Start}
use Rattle.classic_frame.specs.Mark.{start_mark, end_mark, kind_of}
use Rattle.classic_extractor.specs.declared.state.Progress.{Progress}
use Rattle.classic_extractor.specs.declared.state.Phase.{Phase}
use Rattle.classic_extractor.specs.declared.state.Phase.TheVariants.{Outside, PacketId, ErrorId, Sequence, Body, Escaped}
use Rattle.classic_extractor.specs.Action.{action_by}
use Rattle.classic_extractor.specs.State.{outside, begun, body, ready}
use Rattle.classic_extractor.specs.Step.{end_of, perform_of, advance_of}
use Rattle.classic_claims.specs.Run.{Given, handed_by}
use Rattle.classic_claims.proofs.Ready.{advance-ready}
use Rattle.classic_claims.proofs.Cut.{since}

unfoldable pub frames_of : ℕ → Progress → List ℕ → List ℕ → List Given
frames_of limit s l [] = []
frames_of limit s l (b ∷ bs) =
    let r = advance_of limit s l b in
    handed_by r.report r.buffer ++ frames_of limit r.next r.buffer bs

module _ (limit : ℕ) where
  begin-by : (p : Phase) (s : Progress) (l rest : List ℕ)
      → (let r = perform_of limit s l start_mark (action_by p Start start_mark) in handed_by r.report r.buffer ++ frames_of limit r.next r.buffer rest)
      ≡ frames_of limit begun l rest
  begin-by Outside s l rest = refl
  begin-by PacketId s l rest = refl
  begin-by ErrorId s l rest = refl
  begin-by Sequence s l rest = refl
  begin-by Body s l rest = refl
  begin-by Escaped s l rest = refl

  -- F0 in any state begins a frame
  pub frame-begins : (s : Progress) (l rest : List ℕ) → frames_of limit s l (start_mark ∷ rest) ≡ frames_of limit begun l rest
  unfolding frames_of advance_of kind_of
  frame-begins s l rest = begin-by s.phase s l rest

  -- F1 in the body ends it
  pub frame-ends : (q h : ℕ) (l rest : List ℕ)
      → frames_of limit (body q h) l (end_mark ∷ rest) ≡ handed_by (end_of (body q h) l) l ++ frames_of limit outside l rest
  unfolding frames_of advance_of kind_of
  frame-ends q h l rest = refl

-- ---- the bytes before

-- what is handed out is what the bytes hand out from some lawful state and some buffer of the right size
pub record Later (limit : ℕ) (bytes : List ℕ) (gs : List Given) : Type 0 where
  pub state : Progress
  pub buffer : List ℕ
  pub lawful : ready limit state (length buffer) ≡ true
  pub same : gs ≡ frames_of limit state buffer bytes

module _ (limit from : ℕ) where
  since-all : (bytes : List ℕ) (n : ℕ) (s : Progress) (l : List ℕ) → from ≤ n → since limit from n s l bytes ≡ frames_of limit s l bytes
  unfolding since frames_of
  since-all [] n s l h = refl
  since-all (b ∷ bs) n s l h =
      let r = advance_of limit s l b in
      rw (lt-ltb from (n + 1) (omega arith))
      (ap (λ (gs : List Given). handed_by r.report r.buffer ++ gs) (since-all bs (n + 1) r.next r.buffer (omega arith)))

  pub since-later : (before bytes : List ℕ) (n : ℕ) (s : Progress) (l : List ℕ) → ready limit s (length l) ≡ true → n + length before ≡ from
      → Later limit bytes (since limit from n s l (before ++ bytes))
  unfolding since
  since-later [] bytes n s l h e = record { state = s; buffer = l; lawful = h; same = since-all bytes n s l (omega arith) }
  since-later (b ∷ bs) bytes n s l h e =
      let r = advance_of limit s l b in
      rw (le-ltb from (n + 1) (omega arith))
      (since-later bs bytes (n + 1) r.next r.buffer (advance-ready limit s l b h) (omega arith))
