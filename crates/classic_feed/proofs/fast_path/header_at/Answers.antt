use borrow.Author.Tests.{lt-ltb, le-ltb}
use Rattle.classic_feed.specs.FastPath.{header_at}
use Rattle.classic_feed.proofs.fast_path.header_at.Goals as goal

pub returns-then-bytes-at-lt-HEADER : goal.returns-then-bytes-at-lt-HEADER
unfolding header_at
returns-then-bytes-at-lt-HEADER c = rw (lt-ltb _ _ c.if-bytes-at-lt-HEADER.true)

pub returns-else-bytes-at-lt-HEADER : goal.returns-else-bytes-at-lt-HEADER
unfolding header_at
returns-else-bytes-at-lt-HEADER c = rw (le-ltb _ _ c.if-bytes-at-lt-HEADER.false) c.is_header.ensures
