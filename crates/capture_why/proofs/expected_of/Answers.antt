use borrow.Author.Tests.{not-true, not-false}
use Rattle.capture_why.specs.Why.{expected_of}
use Rattle.capture_why.proofs.expected_of.Goals as goal

pub returns-then-not-is_stream : goal.returns-then-not-is_stream
unfolding expected_of
returns-then-not-is_stream c = rw (← c.is_stream.ensures, not-true c.is_stream.result c.if-not-is_stream.true-raw)

pub returns : goal.returns
unfolding expected_of
returns c =
    rw (
      ← c.is_stream.ensures,
      not-false c.is_stream.result c.if-not-is_stream.false-raw,
      ← c.stream_of.ensures,
      ← c.slot-slot.ensures,
      ← c.total_read.ensures,
    )
    c.expect_in.ensures
