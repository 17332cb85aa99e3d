use mathlib.Core.Path.{◌≡◌, sym, ap, ◌∙◌}
use native.Mathlib.Omega.{arith}
use lib.ListN.{length-drop}
use Rattle.wire.proofs.Parts.{rest-lent}
use Rattle.utf8_shown.specs.Shown.{is_hidden, hidden_place}
use Rattle.utf8_shown.proofs.HiddenLemmas.{hidden-here, hidden-later, hidden-end}
use Rattle.utf8_shown.proofs.hidden_place.Goals as goal

pub loop-at-init : goal.loop-at-init
loop-at-init c = omega arith

pub is_hidden-requires : goal.is_hidden-requires
is_hidden-requires c =
    let s = c.args.string.now in
    rw (rest-lent s c.loop-at.at) (omega (arith, length-drop c.loop-at.at s))

pub returns-then-is_hidden : goal.returns-then-is_hidden
returns-then-is_hidden c =
    let s = c.args.string.now in
    let hidden = ap is_hidden (sym (rest-lent s c.loop-at.at)) ∙ sym c.is_hidden.ensures ∙ c.if-is_hidden.true in
    sym (c.loop-at.invariant ∙ hidden-here s c.loop-at.at c.loop-at-test.true hidden)

pub loop-at-preserved : goal.loop-at-preserved
loop-at-preserved c =
    let s = c.args.string.now in
    let shown = ap is_hidden (sym (rest-lent s c.loop-at.at)) ∙ sym c.is_hidden.ensures ∙ c.if-is_hidden.false in
    c.loop-at.invariant ∙ hidden-later s c.loop-at.at c.loop-at-test.true shown

pub returns : goal.returns
returns c =
    let s = c.args.string.now in
    let e : hidden_place s ≡ c.loop-at.at = c.loop-at.invariant ∙ hidden-end s c.loop-at.at c.loop-at-test.false in
    omega (arith, e)
