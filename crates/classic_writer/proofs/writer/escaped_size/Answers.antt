use mathlib.Core.Path.{ap}
use lib.ListN.{length, length-append}
use native.Mathlib.Omega.{arith}
use borrow.Author.Rules.{rules}
use Rattle.classic_writer.proofs.Escaping.{rest-step, rest_end}
use Rattle.classic_writer.proofs.writer.escaped_size.Goals as goal

pub loop-b-init : goal.loop-b-init
loop-b-init c = (search rules, search rules, search rules)

pub loop-b-preserved : goal.loop-b-preserved
loop-b-preserved c =
    let l = c.args.bytes.now in
    omega (arith, simp length-append at (ap length (rest-step l c.loop-b.b-index (search rules))))

pub returns : goal.returns
returns c =
    omega (arith, ap length (rest_end c.args.bytes.now c.loop-b.b-index (search rules)))
