use borrow.Author.Tests.{eq-eqb, ne_eqb}
use Rattle.capture_reader.specs.Capture.{told_at}
use Rattle.capture_reader.proofs.Placed.{number-at, number-then}
use Rattle.capture_packet.specs.Place.{number_of, item_of}
use Rattle.c_packets.specs.Calls.{capture_packet_of}
use Rattle.c_packets.proofs.calls.pito_capture_packet.Goals as goal

pub returns-then-answer-ne-CAPTURE_ANSWER : goal.returns-then-answer-ne-CAPTURE_ANSWER
unfolding capture_packet_of
returns-then-answer-ne-CAPTURE_ANSWER c = rw (ne_eqb _ _ c.if-answer-ne-CAPTURE_ANSWER.true)

pub returns : goal.returns
unfolding capture_packet_of
returns c =
    rw (
      eq-eqb _ _ c.if-answer-ne-CAPTURE_ANSWER.false,
      ← c.read_at-standing.ensures,
      c.put.ensures,
      c.number_of_result-number.ensures,
      number-at number_of c.read_at-standing.result,
      ← number-then (told_at number_of c.read_at-standing.result) (λ standing. item_of standing),
      c.captured_row-row.ensures,
    )
