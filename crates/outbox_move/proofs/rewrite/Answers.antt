use mathlib.Core.Path.{sym, ap, ◌∙◌}
use native.Mathlib.Omega.{arith}
use lib.ListN.{length}
use borrow.Author.Tests.{lt-ltb, le-ltb}
use Rattle.std.proofs.lemmas.Result.{err_from_is_err_and}
use Rattle.outbox.specs.Format.{format_for}
use Rattle.outbox.specs.Reader.{read_all}
use Rattle.outbox_move.specs.Moves.{told_count}
use Rattle.outbox_move.proofs.Deciding.{counted, counted-size}
use Rattle.outbox_move.proofs.rewrite.Goals as goal

pub returns-then-out-n : goal.returns-then-out-n
returns-then-out-n c =
    let file = c.args.file.now in
    let out = c.args.out.now in
    sym
    (counted (format_for c.args.wished) (read_all (format_for c.args.own) file) out _ (sym c.count.ensures ∙ ap told_count c.in_ok-n.was)
    ∙ rw (lt-ltb (length out) c.in_ok-n.n c.if-out-n.true))

pub write_records-requires : goal.write_records-requires
write_records-requires c =
    let file = c.args.file.now in
    let size = counted-size (format_for c.args.wished) (read_all (format_for c.args.own) file) c.in_ok-n.n (sym c.count.ensures ∙ ap told_count c.in_ok-n.was) in
    (size.0, omega (arith, size.1, c.if-out-n.false))

pub returns-in_err-n : goal.returns-in_err-n
returns-in_err-n c =
    let file = c.args.file.now in
    let p = err_from_is_err_and c.from_residual.result c.from_residual.ensures.1 in
    rw (p.1, p.2)
    (sym (counted (format_for c.args.wished) (read_all (format_for c.args.own) file) c.args.out.now _ (sym c.count.ensures ∙ ap told_count c.in_err-n.was)))

pub returns : goal.returns
returns c =
    let file = c.args.file.now in
    let out = c.args.out.now in
    rw c.write_records.ensures
    (sym
    (counted (format_for c.args.wished) (read_all (format_for c.args.own) file) out _ (sym c.count.ensures ∙ ap told_count c.in_ok-n.was)
    ∙ rw (le-ltb (length out) c.in_ok-n.n c.if-out-n.false)))
