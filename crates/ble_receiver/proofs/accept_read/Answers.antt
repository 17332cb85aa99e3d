-- The step that the slots name is the definition's; doing it and acknowledging it is the definition's answer.
use Prim.Native.Nat.{ℕ, ◌^◌, ◌<◌}
use Rattle.wire.proofs.Limits.{limit-range}
use Rattle.ble_slot.specs.declared.Slot.{Slot}
use Rattle.ble_slot.specs.Answer.{told}
use Rattle.ble_slot.specs.Slot.{slot_count, lane_start, lane_of}
use Rattle.ble_slot_steps.specs.Step.{StepAt, act_of, act_at, step_of}
use Rattle.ble_slot_steps.specs.Fit.{InsidePart}
use Rattle.ble_slot_steps.proofs.Steps.{small}
use Rattle.ble_packet.specs.declared.reader.Head.{Head}
use Rattle.ble_packet.specs.Header.{stream_bits}
use Rattle.ble_packet.specs.Reader.{head_in}
use Rattle.ble_packet.proofs.Reading.{LinesPass, read-passes}
use Rattle.ble_receiver.specs.Ack.{IdLow}
use Rattle.ble_receiver.specs.Receiver.{act_in}
use Rattle.ble_receiver.proofs.Accepting.{SlotsFit, ready-says, in-fits}
use Rattle.ble_receiver.proofs.Acks.{act-low, at_low}
use Rattle.ble_receiver.proofs.Outcomes.{left_at, acted-left, at-fits}
use lib.ListN.{length, get_or}
use mathlib.Core.List.{List}
use mathlib.Core.Path.{◌≡◌, sym, ap, subst, ◌∙◌}
use native.Mathlib.Omega.{arith}
use Rattle.ble_receiver.proofs.accept_read.Goals.{After-act_on-step, After-write_payload-arg-2-1, Start}
use Rattle.ble_receiver.proofs.accept_read.Goals as goal

ready_at : (c : Start) → SlotsFit c.args.limit c.args.slots c.args.buffer.now
ready_at c = ready-says c.args.limit c.args.slots c.args.buffer.now c.requires.0

-- what was read keeps to its packet
passes_at : (c : Start) → LinesPass c.args.limit (length c.args.packet.now) (stream_bits (get_or c.args.packet.now 0 0)) c.args.read
passes_at c = rw c.requires.1 at (read-passes c.args.limit c.args.packet.now)

-- what the code's step is
step-at : (c : After-act_on-step) → (let t = (head_in c.args.read).stream in step_of c.act_on-step.result ≡ act_at (lane_start t) (lane_of t c.args.slots) (act_in c.args.slots c.args.read))
step-at c =
    let t = (head_in c.args.read).stream in
    let head = c.head-head.ensures in
    let begins : c.lane_start-first.result ≡ lane_start t = c.lane_start-first.ensures.0 ∙ ap (λ (h : Head). lane_start h.stream) head in
    let lane : c.lane_of-lane.result ≡ lane_of t c.args.slots = c.lane_of-lane.ensures ∙ ap (λ (h : Head). lane_of h.stream c.args.slots) head in
    c.act_on-step.ensures
    ∙ ap (λ (n : ℕ). act_at n c.lane_of-lane.result (act_of n c.lane_of-lane.result c.args.read)) begins
    ∙ ap (λ (l : List Slot). act_at (lane_start t) l (act_of (lane_start t) l c.args.read)) lane

-- it keeps to the packet and to the slot's part
fits-at : (c : After-write_payload-arg-2-1) → ((c.act_on-step.result.index < slot_count) × InsidePart c.args.limit (length c.args.packet.now) c.act_on-step.result.payload)
unfolding step_of
fits-at c =
    let t = (head_in c.args.read).stream in
    let k = length c.args.packet.now in
    let f = at-fits c.args.limit k t (lane_of t c.args.slots) (act_in c.args.slots c.args.read) (in-fits c.args.limit k (stream_bits (get_or c.args.packet.now 0 0)) c.args.slots c.args.read (ready_at (goal.at.write_payload-requires c).Start).law (passes_at (goal.at.write_payload-requires c).Start)) in (
      subst (λ (n : ℕ). n < slot_count) (sym (ap (λ (d : StepAt). d.index) (step-at (goal.at.write_payload-requires c).After-act_on-step))) f.0,
      subst (InsidePart c.args.limit k) (sym (ap (λ (d : StepAt). d.step.payload) (step-at (goal.at.write_payload-requires c).After-act_on-step))) f.1,
    )

-- the id of what is told
low-at : (c : After-write_payload-arg-2-1) → IdLow (told c.act_on-step.result.answer)
unfolding step_of
low-at c =
    let t = (head_in c.args.read).stream in
    subst IdLow (sym (ap (λ (d : StepAt). d.step.told) (step-at (goal.at.write_payload-requires c).After-act_on-step)))
    (at_low (lane_start t) (lane_of t c.args.slots) (act_in c.args.slots c.args.read) (act-low c.args.limit (length c.args.packet.now) (lane_start t) (lane_of t c.args.slots) c.args.read (passes_at (goal.at.write_payload-requires c).Start).within))

pub act_on-step-requires : goal.act_on-step-requires
act_on-step-requires c =
    let range = (limit-range c.args.limit (ready_at (goal.at.act_on-step-requires c).Start).range).1 in
    let long : length c.args.packet.now < 2 ^ 63 = omega arith in
    (c.lane_start-first.ensures.1, small c.args.limit (length c.args.packet.now) c.args.read range long (passes_at (goal.at.act_on-step-requires c).Start).within)

pub write_payload-requires : goal.write_payload-requires
write_payload-requires c =
    let r = ready_at (goal.at.write_payload-requires c).Start in
    let f = fits-at c in
    ((limit-range c.args.limit r.range).1, f.0, r.size, f.1)

pub acknowledge-requires : goal.acknowledge-requires
acknowledge-requires c = (low-at (goal.at.acknowledge-requires c).After-write_payload-arg-2-1, c.requires.2, c.requires.3)

pub returns : goal.returns
unfolding step_of
returns c =
    let t = (head_in c.args.read).stream in
    rw (c.acknowledge.ensures, c.write_payload.ensures)
    (ap (left_at c.args.limit c.args.sequence c.args.slots c.args.buffer.now c.args.packet.now c.args.out.now) (step-at (goal.at.returns c).After-act_on-step)
    ∙ acted-left c.args.limit c.args.sequence t c.args.slots c.args.buffer.now c.args.packet.now c.args.out.now (act_in c.args.slots c.args.read))
