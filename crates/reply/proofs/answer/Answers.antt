use mathlib.Core.Path.{sym, ◌∙◌}
use Rattle.std.proofs.lemmas.Result.{err_from_is_err_and}
use Rattle.reply.specs.Reply.{box_lent}
use Rattle.reply.proofs.Replies.{fine-carries}
use Rattle.reply.proofs.Tables.{is-refused, goes_on}
use Rattle.reply.proofs.answer.Goals as goal

pub carry-requires : goal.carry-requires
carry-requires c =
    fine-carries c.kind_of_command-kind.result c.args.own.members c.args.own.information.transports.now c.args.link (sym c.in_ok-judge.ensures)

pub returns-in_err-judge : goal.returns-in_err-judge
returns-in_err-judge c =
    let p = err_from_is_err_and c.from_residual.result c.from_residual.ensures.1 in
    rw (p.1, p.2)
    (is-refused (box_lent c.args.own) c.args.link c.args.value c.kind_of_command-kind.result c.args.out.now c.kind_of_command-kind.ensures _ (sym c.in_err-judge.ensures))

pub returns : goal.returns
returns c =
    c.carry.ensures
    ∙ goes_on (box_lent c.args.own) c.args.link c.args.value c.kind_of_command-kind.result c.args.out.now c.kind_of_command-kind.ensures
    (sym c.in_ok-judge.ensures)
