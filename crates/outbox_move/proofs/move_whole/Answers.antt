use mathlib.Core.Path.{sym, ap, ◌∙◌}
use native.Mathlib.Omega.{arith}
use Rattle.outbox.specs.Format.{version_one, version_two, format_for}
use Rattle.outbox_move.proofs.Deciding.{copies, rewrites}
use Rattle.outbox_move.proofs.move_whole.Goals as goal

pub returns-in-One-wished : goal.returns-in-One-wished
returns-in-One-wished c =
    let same = c.in-One.is ∙ sym c.in-One-wished.is in
    c.copy_file.ensures
    ∙ sym (copies (format_for c.args.wished) c.args.file.now c.args.out.now c.requires (sym c.of.ensures ∙ ap format_for same))

pub returns-in-Two-wished : goal.returns-in-Two-wished
returns-in-Two-wished c =
    let own = sym (ap format_for c.in-One.is) ∙ c.of.ensures in
    rw c.in-Two-wished.is
    (c.rewrite.ensures
    ∙ sym (rewrites version_two c.args.file.now c.args.out.now c.requires version_one own (λ e. omega (arith, e))))

pub returns-in-One-wished-2 : goal.returns-in-One-wished-2
returns-in-One-wished-2 c =
    let own = sym (ap format_for c.in-Two.is) ∙ c.of.ensures in
    rw c.in-One-wished-2.is
    (c.rewrite-in-One-wished-2.ensures
    ∙ sym (rewrites version_one c.args.file.now c.args.out.now c.requires version_two own (λ e. omega (arith, e))))

pub returns-in-Two-wished-2 : goal.returns-in-Two-wished-2
returns-in-Two-wished-2 c =
    let same = c.in-Two.is ∙ sym c.in-Two-wished-2.is in
    c.copy_file-in-Two-wished-2.ensures
    ∙ sym (copies (format_for c.args.wished) c.args.file.now c.args.out.now c.requires (sym c.of.ensures ∙ ap format_for same))
