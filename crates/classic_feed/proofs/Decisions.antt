-- A start mark taken without a step.
use Prim.Native.Nat.{ℕ}
use mathlib.Core.Path.{◌≡◌, refl}
use mathlib.Core.List.{List}
use Rattle.classic_frame.specs.declared.mark.Kind.TheVariants.{Start}
use Rattle.classic_frame.specs.Mark.{start_mark}
use Rattle.classic_frame.proofs.Marks.{start-kind}
use Rattle.classic_extractor.specs.declared.state.Progress.{Progress}
use Rattle.classic_extractor.specs.declared.state.Phase.{Phase}
use Rattle.classic_extractor.specs.declared.state.Phase.TheVariants.{Outside, PacketId, ErrorId, Sequence, Body, Escaped}
use Rattle.classic_extractor.specs.Action.{action_by}
use Rattle.classic_extractor.specs.State.{begun}
use Rattle.classic_extractor.specs.Step.{step, perform_of, advance_of}
use Rattle.classic_feed.specs.FastPath.{start_report}

-- F0 in any phase
pub start-advance : (limit : ℕ) (s : Progress) (l : List ℕ) → step (start_report s.phase) begun l ≡ advance_of limit s l start_mark
unfolding advance_of
start-advance limit s l = rw start-kind (go s.phase)
  where
    go : (p : Phase) → step (start_report p) begun l ≡ perform_of limit s l start_mark (action_by p Start start_mark)
    go Outside = refl
    go PacketId = refl
    go ErrorId = refl
    go Sequence = refl
    go Body = refl
    go Escaped = refl
