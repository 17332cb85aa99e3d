-- 1, 15, 14 and the ACK of a packet given to the receiver.
use Prim.Native.Nat.{ℕ, ◌+◌, ◌*◌, ◌≤◌}
use native.Mathlib.Omega.{arith}
use mathlib.Core.Path.{◌≡◌, refl, sym, ap, ◌∙◌}
use mathlib.Core.List.{List, [], ◌∷◌}
use mathlib.Core.Bool.{Bool, true, false, not, cond, false≢true}
use lib.ListN.{length, drop}
use lib.Seq.{sets, sets-eq}
use borrow.Author.Tests.{lt-ltb, le-ltb, ltb-false}
use Rattle.wire.specs.Told.{Told, given, refused, line, table}
use Rattle.wire.proofs.Tables.{by-table}
use Rattle.wire.specs.declared.stream.Stream.{Stream}
use Rattle.wire.specs.Stream.{stream_number}
use Rattle.ble_packet.specs.declared.reader.Packet.{Packet}
use Rattle.ble_packet.specs.Control.{ack_bytes}
use Rattle.ble_packet.specs.Reader.{read_of}
use Rattle.ble_packet.proofs.Reading.{IfGiven}
use Rattle.ble_slot.specs.declared.Slot.{Slot}
use Rattle.ble_slot.specs.declared.answer.Accepted.{Accepted}
use Rattle.ble_slot.specs.declared.answer.Accepted.TheVariants.{Taken, Finished, Acked, Nacked}
use Rattle.ble_receiver.specs.Receiver.{acted, ready, PacketCall, left, leaves, answered, answer_lines, read_in, accept_of}
use Rattle.ble_claims.specs.Answering.{wants_ack, AnsweredOnly}

-- ---- what is told before anything is done

-- 1 first
unfoldable heard_of : ℕ → List Slot → ℕ → PacketCall → Told Packet
heard_of limit slots size c = table (line 1 (not (ready limit slots size)) ∷ []) refused (read_in limit c)

heard-by : (b : Bool) (n : ℕ) (t : Told Packet) (sequence limit : ℕ) (slots : List Slot) (bytes packet out : List ℕ)
    → cond b (left (refused n) slots bytes out) (leaves sequence out (acted limit slots bytes packet t))
    ≡ leaves sequence out (acted limit slots bytes packet (cond b (refused n) t))
heard-by true n t sequence limit slots bytes packet out = refl
heard-by false n t sequence limit slots bytes packet out = refl

-- what was heard is acted on, and answered: 1 leaves all, as every refusal of a packet does
accept-heard : (limit : ℕ) (slots : List Slot) (bytes : List ℕ) (c : PacketCall)
    → accept_of limit slots bytes c ≡ leaves c.sequence c.out (acted limit slots bytes c.packet (heard_of limit slots (length bytes) c))
unfolding accept_of heard_of
accept-heard limit slots bytes c =
    heard-by (not (ready limit slots (length bytes))) 1 (read_in limit c) c.sequence limit slots bytes c.packet c.out

-- a call whose packet was read has room for the ACK
abbrev HasRoom : PacketCall → Packet → Type 0
HasRoom c x = 6 ≤ length c.out

room-read : (c : PacketCall) (t : Told Packet) → 6 ≤ length c.out → IfGiven (HasRoom c) t
room-read c (given x) h = h
room-read c (refused n) h = tt

heard-room : (limit : ℕ) (slots : List Slot) (size : ℕ) (c : PacketCall) → IfGiven (HasRoom c) (heard_of limit slots size c)
unfolding heard_of read_in
heard-room limit slots size c =
    by-table (IfGiven (HasRoom c)) (line 1 (not (ready limit slots size)) ∷ []) refused (table (answer_lines c) refused (read_of limit c.packet)) (λ n. tt) (λ one.
    by-table (IfGiven (HasRoom c)) (answer_lines c) refused (read_of limit c.packet) (λ n. tt) (λ two.
    room-read c (read_of limit c.packet) (ltb-false (length c.out) 6 two.1.0)))

-- an answer buffer that is touched has room for the ACK
acted-room : (limit : ℕ) (slots : List Slot) (bytes : List ℕ) (c : PacketCall) (t : Told Packet)
    → IfGiven (HasRoom c) t → wants_ack (acted limit slots bytes c.packet t).told ≡ true → 6 ≤ length c.out
acted-room limit slots bytes c (given x) h e = h
acted-room limit slots bytes c (refused n) h e = absurd (false≢true e)

-- six bytes stored first
ack-stored : (stream id sequence : ℕ) (out : List ℕ) → 6 ≤ length out
    → sets out 0 (ack_bytes stream id sequence true) ≡ (stream * 16 + id) ∷ (sequence * 16 + 14) ∷ 0 ∷ 2 ∷ 1 ∷ 0 ∷ drop 6 out
ack-stored stream id sequence out h =
    let second : sequence * 16 + 3 * 4 + 1 * 2 + 0 ≡ sequence * 16 + 14 = omega arith in
    sets-eq (ack_bytes stream id sequence true) out 0 (omega arith)
    ∙ ap (λ (b : ℕ). (stream * 16 + id) ∷ b ∷ 0 ∷ 2 ∷ 1 ∷ 0 ∷ drop 6 out) second

others-leave : (sequence : ℕ) (t : Told Accepted) (out : List ℕ) → wants_ack t ≡ false → answered sequence t out ≡ out
others-leave sequence (given (Finished index stream id total ack replaced)) out e = rw e
others-leave sequence (given (Taken index stream id replaced)) out e = refl
others-leave sequence (given (Acked head)) out e = refl
others-leave sequence (given (Nacked head)) out e = refl
others-leave sequence (refused n) out e = refl

module _ (limit : ℕ) (slots : List Slot) (bytes : List ℕ) (c : PacketCall) where
  abbrev heard : Told Packet
  heard = heard_of limit slots (length bytes) c

  abbrev told_of : Told Accepted
  told_of = (acted limit slots bytes c.packet heard).told

  ack-written : (index : ℕ) (stream : Stream) (id total : ℕ) (replaced : Bool)
      → (accept_of limit slots bytes c).told ≡ given (Finished index stream id total true replaced)
      → (accept_of limit slots bytes c).out ≡ (stream_number stream * 16 + id) ∷ (c.sequence * 16 + 14) ∷ 0 ∷ 2 ∷ 1 ∷ 0 ∷ drop 6 c.out
  ack-written index stream id total replaced e =
      let all = accept-heard limit slots bytes c in
      let told : told_of ≡ given (Finished index stream id total true replaced) = sym (ap (λ l. l.told) all) ∙ e in
      ap (λ l. l.out) all
      ∙ ap (λ (t : Told Accepted). answered c.sequence t c.out) told
      ∙ ack-stored (stream_number stream) id c.sequence c.out
      (acted-room limit slots bytes c heard (heard-room limit slots (length bytes) c) (ap wants_ack told))

  others-kept : wants_ack (accept_of limit slots bytes c).told ≡ false → (accept_of limit slots bytes c).out ≡ c.out
  others-kept e =
      let all = accept-heard limit slots bytes c in
      ap (λ l. l.out) all ∙ others-leave c.sequence told_of c.out (sym (ap (λ l. wants_ack l.told) all) ∙ e)

pub answered-only : AnsweredOnly
unfolding accept_of read_in
answered-only limit slots bytes c =
    record {
      one = λ e. rw e;
      fifteen = λ e h. rw (e, le-ltb c.sequence 16 h);
      fourteen = λ e h k. rw (e, lt-ltb c.sequence 16 (omega arith), lt-ltb (length c.out) 6 (omega arith));
      ack = ack-written limit slots bytes c;
      others = others-kept limit slots bytes c;
    }
