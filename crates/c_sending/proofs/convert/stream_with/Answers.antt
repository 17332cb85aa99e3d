use borrow.Author.Tests.{lt-ltb, le-ltb}
use Rattle.c_sending.specs.Convert.{stream_with}
use Rattle.c_sending.proofs.convert.stream_with.Goals as goal

pub returns-then-wish-lt-WISHES : goal.returns-then-wish-lt-WISHES
unfolding stream_with
returns-then-wish-lt-WISHES c = rw (lt-ltb _ _ c.if-wish-lt-WISHES.true) c.byte_or.ensures

pub returns-else-wish-lt-WISHES : goal.returns-else-wish-lt-WISHES
unfolding stream_with
returns-else-wish-lt-WISHES c = rw (le-ltb _ _ c.if-wish-lt-WISHES.false)
