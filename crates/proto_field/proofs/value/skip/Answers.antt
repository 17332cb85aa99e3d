use native.Mathlib.Omega.{arith}
use Prim.Native.Nat.{◌+◌}
use lib.ListN.{length}
use borrow.Author.Tests.{lt-ltb, le-ltb}
use Rattle.proto_field.proofs.value.skip.Goals as goal

pub returns-then-n-size : goal.returns-then-n-size
returns-then-n-size c = rw (le-ltb (length c.args.message.now) (c.args.at + c.args.n) (omega arith))

pub returns-else-n-size : goal.returns-else-n-size
returns-else-n-size c = rw (lt-ltb (length c.args.message.now) (c.args.at + c.args.n) (omega arith))

pub returns-else-at-size : goal.returns-else-at-size
returns-else-at-size c = rw (lt-ltb (length c.args.message.now) (c.args.at + c.args.n) (omega arith))
