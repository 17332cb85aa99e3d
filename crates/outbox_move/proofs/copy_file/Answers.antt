use Prim.Native.Nat.{◌+◌}
use mathlib.Core.Path.{◌≡◌, ap}
use native.Mathlib.Omega.{arith}
use lib.ListN.{length}
use lib.Seq.{sets}
use borrow.Author.Tests.{lt-ltb, le-ltb}
use Rattle.outbox.specs.Reader.{given}
use Rattle.outbox.specs.Writer.{stored}
use Rattle.outbox_move.proofs.copy_file.Goals as goal

pub returns-then-out-n : goal.returns-then-out-n
returns-then-out-n c = rw (lt-ltb (length c.args.out.now) (length c.args.file.now) c.if-out-n.true)

pub returns : goal.returns
returns c =
    rw (le-ltb (length c.args.out.now) (length c.args.file.now) c.if-out-n.false, c.copy.ensures)
    (let plus : length c.args.file.now ≡ 0 + length c.args.file.now = omega arith in ap (λ n. stored (given n) (sets c.args.out.now 0 c.args.file.now)) plus)
