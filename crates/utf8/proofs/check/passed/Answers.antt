use Rattle.std.proofs.Common.{arith}
use Rattle.utf8.proofs.Places.{passes-told, passes-run}
use Rattle.utf8.proofs.check.passed.Goals as goal

pub returns-then-string-at-lt-FIRST_ABOVE : goal.returns-then-string-at-lt-FIRST_ABOVE
returns-then-string-at-lt-FIRST_ABOVE c =
    (passes-run c.args.string.now c.args.at _ (λ i. (c.type_inv.string i).fits) c.requires c.if-string-at-lt-FIRST_ABOVE.true c.clear_run.ensures, omega arith)

pub returns-else-string-at-lt-FIRST_ABOVE : goal.returns-else-string-at-lt-FIRST_ABOVE
returns-else-string-at-lt-FIRST_ABOVE c =
    passes-told c.args.string.now c.args.at c.sequence_len.result c.requires c.sequence_len.ensures
