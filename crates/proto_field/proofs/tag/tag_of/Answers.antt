use Prim.Native.Nat.{ℕ, ◌-◌, ◌*◌, ◌/◌, ◌%◌}
use mathlib.Core.Path.{◌≡◌, sym, ◌∙◌}
use mathlib.Core.Bool.{Bool}
use native.Mathlib.Omega.{arith}
use Rattle.proto_field.specs.Tag.{bad_tag}
use Rattle.proto_field.proofs.tag.tag_of.Goals.{After-bad_tag}
use Rattle.proto_field.proofs.tag.tag_of.Goals as goal

-- the wire type, as the code takes it
wire : (v : ℕ) → v - v / 8 * 8 ≡ v % 8
wire v = omega arith

-- what bad_tag told
bad : {b : Bool} (c : After-bad_tag) → c.bad_tag.result ≡ b → bad_tag (c.args.value / 8) (c.args.value % 8) ≡ b
bad c e = rw (wire c.args.value) at (sym c.bad_tag.ensures ∙ e)

pub returns-then-bad_tag : goal.returns-then-bad_tag
returns-then-bad_tag c = rw (bad (goal.at.returns-then-bad_tag c).After-bad_tag c.if-bad_tag.true)

pub returns : goal.returns
returns c = rw (wire c.args.value, bad (goal.at.returns c).After-bad_tag c.if-bad_tag.false)
