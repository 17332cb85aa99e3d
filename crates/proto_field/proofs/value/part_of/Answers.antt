use Prim.Native.Nat.{◌+◌}
use native.Mathlib.Omega.{arith}
use lib.ListN.{length}
use borrow.Author.Tests.{lt-ltb, le-ltb}
use Rattle.proto_field.proofs.value.part_of.Goals as goal

pub returns-then-value-left : goal.returns-then-value-left
returns-then-value-left c = rw (le-ltb (length c.args.message.now) (c.args.next + c.args.value) (omega (arith, c.requires, c.if-value-left.true)))

pub returns : goal.returns
returns c = rw (lt-ltb (length c.args.message.now) (c.args.next + c.args.value) (omega (arith, c.requires, c.if-value-left.false)))
