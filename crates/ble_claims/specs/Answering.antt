-- The claim about 1, 15, 14 and the ACK of a packet given to the receiver, in the numbers of docs/FORMATS.md.
use Rattle.std.specs.Prelude.{ℕ, ◌+◌, ◌*◌, ◌≤◌, ◌≡◌, List, ◌∷◌, Bool, true, false, length, drop}
use Rattle.wire.specs.Told.{Told, given, refused}
use Rattle.wire.specs.declared.stream.Stream.{Stream}
use Rattle.wire.specs.Stream.{stream_number}
use Rattle.ble_slot.specs.declared.Slot.{Slot}
use Rattle.ble_slot.specs.declared.answer.Accepted.{Accepted}
use Rattle.ble_slot.specs.declared.answer.Accepted.TheVariants.{Taken, Finished, Acked, Nacked}
use Rattle.ble_receiver.specs.Receiver.{PacketCall, left, ready, accept_of}

-- a finished transaction that wants an ACK, and nothing else
abbrev pub wants_ack : Told Accepted → Bool
wants_ack (given (Finished index stream id total ack replaced)) = ack
wants_ack (given (Taken index stream id replaced)) = false
wants_ack (given (Acked head)) = false
wants_ack (given (Nacked head)) = false
wants_ack (refused n) = false

pub record CallAnswers (limit : ℕ) (slots : List Slot) (bytes : List ℕ) (c : PacketCall) : Type 0 where
  -- 1 first, whatever the answer sequence and the answer buffer
  pub one : ready limit slots (length bytes) ≡ false → accept_of limit slots bytes c ≡ left (refused 1) slots bytes c.out
  -- then 15, then 14, whatever the packet
  pub fifteen : ready limit slots (length bytes) ≡ true → 16 ≤ c.sequence → accept_of limit slots bytes c ≡ left (refused 15) slots bytes c.out
  pub fourteen : ready limit slots (length bytes) ≡ true → c.sequence ≤ 15 → length c.out ≤ 5
      → accept_of limit slots bytes c ≡ left (refused 14) slots bytes c.out
  -- the ACK's six bytes, and no other byte of the answer buffer
  pub ack : (index : ℕ) (stream : Stream) (id total : ℕ) (replaced : Bool)
      → (accept_of limit slots bytes c).told ≡ given (Finished index stream id total true replaced)
      → (accept_of limit slots bytes c).out ≡ (stream_number stream * 16 + id) ∷ (c.sequence * 16 + 14) ∷ 0 ∷ 2 ∷ 1 ∷ 0 ∷ drop 6 c.out
  -- every other outcome leaves the answer buffer
  pub others : wants_ack (accept_of limit slots bytes c).told ≡ false → (accept_of limit slots bytes c).out ≡ c.out

-- Every call, over any row, lawful or not.
abbrev pub AnsweredOnly : Type 0
AnsweredOnly = (limit : ℕ) (slots : List Slot) (bytes : List ℕ) (c : PacketCall) → CallAnswers limit slots bytes c
