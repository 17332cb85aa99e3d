use borrow.Author.Tests.{lt-ltb, le-ltb}
use Rattle.c_reply.specs.Convert.{few_signed}
use Rattle.c_reply.proofs.convert.few_signed.Goals as goal

pub returns-then-row-gt-MOST_TRANSPORTS : goal.returns-then-row-gt-MOST_TRANSPORTS
unfolding few_signed
returns-then-row-gt-MOST_TRANSPORTS c = rw (lt-ltb _ _ c.if-row-gt-MOST_TRANSPORTS.true)

pub returns : goal.returns
unfolding few_signed
returns c = rw (le-ltb _ _ c.if-row-gt-MOST_TRANSPORTS.false) c.all_signed.ensures
