use mathlib.Core.Path.{ap, sym, ◌∙◌}
use lib.ListN.{length}
use native.Mathlib.Omega.{arith}
use borrow.Author.Rules.{rules}
use Rattle.classic_frame.proofs.Marks.{mark-escaped}
use Rattle.classic_writer.proofs.Escaping.{plain-unit}
use Rattle.classic_writer.proofs.writer.put_escaped.Goals as goal

pub put_code-requires : goal.put_code-requires
put_code-requires c =
    let e = mark-escaped c.args.b (sym c.is_mark.ensures ∙ c.if-is_mark.true) in
    omega (arith, ap length e)

pub returns-then-is_mark : goal.returns-then-is_mark
returns-then-is_mark c =
    rw (mark-escaped c.args.b (sym c.is_mark.ensures ∙ c.if-is_mark.true), ← c.code_for.ensures)
    c.put_code.ensures

pub bounds-out-at : goal.bounds-out-at
bounds-out-at c =
    let e = plain-unit c.args.b (sym c.is_mark.ensures ∙ c.if-is_mark.false) in
    omega (arith, ap length e)

pub returns : goal.returns
returns c = rw (plain-unit c.args.b (sym c.is_mark.ensures ∙ c.if-is_mark.false)) (search rules)
