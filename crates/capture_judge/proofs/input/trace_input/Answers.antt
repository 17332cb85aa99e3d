use Prim.Native.Nat.{ℕ, ◌+◌}
use mathlib.Core.Path.{refl, ◌∙◌}
use mathlib.Core.List.{List}
use lib.Dec.{ltb}
use lib.ListN.{length}
use borrow.Author.Tests.{lt-ltb, le-ltb}
use Rattle.wire.proofs.Parts.{rest-lent}
use Rattle.capture_judge.specs.Input.{settings, largest_capture, input_traced}
use Rattle.capture_judge.proofs.Walking.{drop-smaller}
use Rattle.capture_judge.proofs.input.trace_input.Goals as goal

pub returns-then-input : goal.returns-then-input
unfolding input_traced
returns-then-input c = rw (lt-ltb _ _ c.if-input.true)

pub returns : goal.returns
unfolding input_traced
returns c =
    let bytes : List ℕ = c.args.input.now in
    c.trace.ensures
    ∙ rw (
      rest-lent bytes c.smaller-start.result,
      c.smaller-start.ensures.0,
      drop-smaller bytes settings (ltb (length bytes) settings) refl,
      c.settings_in.ensures,
      le-ltb (settings + largest_capture) (length bytes) c.if-input.false,
    )
