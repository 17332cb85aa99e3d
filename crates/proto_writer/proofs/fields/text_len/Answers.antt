use native.Mathlib.Omega.{arith}
use mathlib.Core.Path.{ap, sym, ◌∙◌}
use lib.ListN.{length}
use Rattle.proto_writer.proofs.Runs.{text-none, text-some}
use Rattle.proto_writer.proofs.fields.text_len.Goals as goal

pub returns-then-bytes-eq0 : goal.returns-then-bytes-eq0
returns-then-bytes-eq0 c =
    let e = ap length (text-none c.args.field c.args.bytes.now c.if-bytes-eq0.true) in
    (sym e, omega arith)

pub returns : goal.returns
returns c =
    let e = ap length (text-some c.args.field c.args.bytes.now c.if-bytes-eq0.false) in
    (c.part_len.ensures.0 ∙ e, c.part_len.ensures.1)
