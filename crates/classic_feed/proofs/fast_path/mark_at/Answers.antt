use borrow.Author.Tests.{lt-ltb, le-ltb}
use Rattle.classic_feed.proofs.fast_path.mark_at.Goals as goal

pub returns-then-bytes-at-lt2 : goal.returns-then-bytes-at-lt2
returns-then-bytes-at-lt2 c = rw (lt-ltb _ _ c.if-bytes-at-lt2.true)

pub returns-else-bytes-at-lt2 : goal.returns-else-bytes-at-lt2
returns-else-bytes-at-lt2 c = rw (le-ltb _ _ c.if-bytes-at-lt2.false) c.mark_of.ensures
