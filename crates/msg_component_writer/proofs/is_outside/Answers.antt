use Prim.Native.Nat.{◌+◌}
use mathlib.Core.Path.{sym}
use native.Mathlib.Omega.{arith}
use lib.ListN.{length}
use borrow.Author.Tests.{lt-ltb}
use Rattle.msg_component_writer.specs.Component.{outside}
use Rattle.msg_component_writer.proofs.Inside.{outside-rest}
use Rattle.msg_component_writer.proofs.is_outside.Goals as goal

pub returns-then-size-part : goal.returns-then-size-part
unfolding outside
returns-then-size-part c =
    sym (lt-ltb (length c.args.texts.now) (c.args.part.start + c.args.part.len) (omega (arith, c.if-size-part.true)))

pub returns : goal.returns
unfolding outside
returns c =
    outside-rest (length c.args.texts.now) c.args.part.start c.args.part.len c.if-size-part.false
