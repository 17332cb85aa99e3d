use mathlib.Core.Path.{◌≡◌, sym, ap, ◌∙◌}
use mathlib.Core.Bool.{true≢false}
use lib.ListN.{length, take}
use lib.Seq.{take-length}
use borrow.Author.Tests.{eqb-true}
use Rattle.wire.specs.Scan.{any_in_range}
use Rattle.msg_apply_writer.proofs.information.all_ascii.Goals as goal

pub returns-then-texts-gt-MOST_LOOKED_THROUGH : goal.returns-then-texts-gt-MOST_LOOKED_THROUGH
returns-then-texts-gt-MOST_LOOKED_THROUGH c = λ e. absurd (true≢false (sym e))

pub returns : goal.returns
returns c e =
    let t = c.args.texts.now in
    let all : take c.clear_run.result t ≡ t = ap (λ n. take n t) (eqb-true c.clear_run.result (length t) e) ∙ take-length t in
    ap (any_in_range 128 255) (sym all) ∙ c.clear_run.ensures.none
