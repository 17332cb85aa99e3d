use mathlib.Core.Path.{sym, ap, ◌∙◌}
use Rattle.std.proofs.lemmas.Result.{err_from_is_err_and}
use Rattle.outbox.specs.Reader.{told_walk}
use Rattle.outbox.specs.Format.{format_for}
use Rattle.outbox_move.proofs.Deciding.{broken}
use Rattle.outbox_move.proofs.move_file.Goals as goal

pub move_whole-requires : goal.move_whole-requires
move_whole-requires c =
    sym c.walk.ensures ∙ ap told_walk c.in_ok-walk.was

pub returns-in_err-walk : goal.returns-in_err-walk
returns-in_err-walk c =
    let p = err_from_is_err_and c.from_residual.result c.from_residual.ensures.1 in
    rw (p.1, p.2)
    (sym (broken (format_for c.args.wished) c.args.file.now c.args.out.now _ _ (sym c.walk.ensures ∙ ap told_walk c.in_err-walk.was)))
