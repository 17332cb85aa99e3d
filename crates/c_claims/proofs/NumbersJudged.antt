-- A number above a byte is judged and not cut.
use native.Mathlib.Omega.{arith}
use borrow.Author.Tests.{le-ltb, ne_eqb}
use Rattle.c_rows.specs.Row.{byte_or}
use Rattle.c_classic.specs.Calls.{frame_write_of}
use Rattle.c_classic_parts.specs.Calls.{frame_begin_of}
use Rattle.c_sending.specs.Convert.{stream_with, sending_of}
use Rattle.c_sending.specs.Calls.{ack_write_of}
use Rattle.c_receiving.specs.Calls.{receiver_accept_of}
use Rattle.c_reply.specs.Convert.{link_of}
use Rattle.c_outbox.specs.Calls.{outbox_append_of}
use Rattle.c_claims.specs.NumbersJudged.{NumbersJudged}

pub numbers-judged : NumbersJudged
unfolding frame_write_of frame_begin_of stream_with sending_of ack_write_of receiver_accept_of link_of outbox_append_of byte_or
numbers-judged = record {
  frame-write = λ limit sequence payload out answer h. rw (le-ltb sequence 256 h);
  frame-begin = λ limit sequence total state h. rw (le-ltb sequence 256 h);
  packet-stream = λ room stream id sequence ack h. rw (le-ltb stream 256 h);
  packet-id = λ room stream id sequence ack h. rw (le-ltb id 256 h);
  packet-sequence = λ room stream id sequence ack h. rw (le-ltb sequence 256 h);
  packet-ack = λ room stream id sequence ack h. rw (le-ltb ack 2 h, ne_eqb ack 1 (λ e. omega arith));
  ack-stream = λ stream id sequence positive out answer h. rw (le-ltb stream 256 h);
  ack-id = λ stream id sequence positive out answer h. rw (le-ltb id 256 h);
  ack-sequence = λ stream id sequence positive out answer h. rw (le-ltb sequence 256 h);
  ack-positive = λ stream id sequence positive out answer h. rw (le-ltb positive 2 h, ne_eqb positive 1 (λ e. omega arith));
  receiver-accept = λ state slots lent packet sequence out answer h. rw (le-ltb sequence 256 h);
  reply-id = λ room limit id sequence h. rw (le-ltb id 256 h);
  reply-sequence = λ room limit id sequence h. rw (le-ltb sequence 256 h);
  outbox-append = λ buffer used stream payload answer h. rw (le-ltb stream 256 h);
}
