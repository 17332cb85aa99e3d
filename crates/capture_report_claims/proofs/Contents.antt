-- What is told of packets does not depend on what is in the buffer, only on its length.
use Prim.Native.Nat.{ℕ}
use mathlib.Core.Path.{◌≡◌, refl, sym, ap, ◌∙◌}
use mathlib.Core.List.{List, [], ◌∷◌}
use mathlib.Core.Bool.{Bool, true, false}
use lib.ListN.{length}
use Rattle.wire.specs.Told.{Told, given, refused}
use Rattle.ble_packet.specs.declared.reader.Packet.{Packet}
use Rattle.ble_packet.specs.Reader.{head_in}
use Rattle.ble_slot.specs.declared.Slot.{Slot}
use Rattle.ble_slot.specs.declared.answer.Accepted.{Accepted}
use Rattle.ble_slot.specs.Slot.{idles, lane_start}
use Rattle.ble_slot_steps.specs.Step.{Act, still, step}
use Rattle.ble_receiver.specs.Receiver.{applied, act_in, acted, ready, PacketCall, PacketLeft, read_in, accept_of}
use Rattle.ble_receiver.proofs.Accepting.{ready-says, accept-ready, accept-length}
use Rattle.capture_report.specs.Costs.{Heard, heard}
use Rattle.capture_report.specs.Report.{call_for, link_run, fresh_run, report_of}
use Rattle.capture_report.proofs.Runs.{guard-refused}

applied-told : (limit first : ℕ) (slots : List Slot) (bytes other p : List ℕ) (act : Act)
    → (applied limit slots bytes p first act).told ≡ (applied limit slots other p first act).told
applied-told limit first slots bytes other p (still t) = refl
applied-told limit first slots bytes other p (step spot s) = refl

applied-slots : (limit first : ℕ) (slots : List Slot) (bytes other p : List ℕ) (act : Act)
    → (applied limit slots bytes p first act).slots ≡ (applied limit slots other p first act).slots
applied-slots limit first slots bytes other p (still t) = refl
applied-slots limit first slots bytes other p (step spot s) = refl

acted-told : (limit : ℕ) (slots : List Slot) (bytes other p : List ℕ) (t : Told Packet) → (acted limit slots bytes p t).told ≡ (acted limit slots other p t).told
acted-told limit slots bytes other p (refused n) = refl
acted-told limit slots bytes other p (given x) = applied-told limit (lane_start (head_in x).stream) slots bytes other p (act_in slots x)

acted-slots : (limit : ℕ) (slots : List Slot) (bytes other p : List ℕ) (t : Told Packet) → (acted limit slots bytes p t).slots ≡ (acted limit slots other p t).slots
acted-slots limit slots bytes other p (refused n) = refl
acted-slots limit slots bytes other p (given x) = applied-slots limit (lane_start (head_in x).stream) slots bytes other p (act_in slots x)

-- the same answer and the same row
abbrev Alike : PacketLeft → PacketLeft → Type 0
Alike a b = (a.told ≡ b.told) × (a.slots ≡ b.slots)

alike-by : (limit : ℕ) (slots : List Slot) (bytes other : List ℕ) (c : PacketCall) (b : Bool) → ready limit slots (length bytes) ≡ b → length bytes ≡ length other
    → Alike (accept_of limit slots bytes c) (accept_of limit slots other c)
alike-by limit slots bytes other c false e n =
    rw (guard-refused limit slots bytes c e, guard-refused limit slots other c (ap (ready limit slots) (sym n) ∙ e)) (refl, refl)
alike-by limit slots bytes other c true e n =
    rw (accept-ready limit slots bytes c (ready-says limit slots bytes e), accept-ready limit slots other c (ready-says limit slots other (ap (ready limit slots) (sym n) ∙ e)))
    (acted-told limit slots bytes other c.packet (read_in limit c), acted-slots limit slots bytes other c.packet (read_in limit c))

same-heards : (limit : ℕ) (slots : List Slot) (bytes other : List ℕ) (ps : List (List ℕ)) → length bytes ≡ length other
    → (link_run limit slots bytes ps).heards ≡ (link_run limit slots other ps).heards
unfolding link_run
same-heards limit slots bytes other [] n = refl
same-heards limit slots bytes other (p ∷ ps) n =
    let l : PacketLeft = accept_of limit slots bytes (call_for p) in
    let m : PacketLeft = accept_of limit slots other (call_for p) in
    let e = alike-by limit slots bytes other (call_for p) (ready limit slots (length bytes)) refl n in
    let k : length l.bytes ≡ length m.bytes = accept-length limit slots bytes (call_for p) ∙ n ∙ sym (accept-length limit slots other (call_for p)) in
    ap (λ (t : Told Accepted). heard p t ∷ (link_run limit l.slots l.bytes ps).heards) e.0
    ∙ ap (λ (hs : List Heard). heard p m.told ∷ hs) (same-heards limit l.slots l.bytes m.bytes ps k)
    ∙ ap (λ (x : List Slot). heard p m.told ∷ (link_run limit x m.bytes ps).heards) e.1

pub same-report : (limit : ℕ) (bytes other : List ℕ) (ps : List (List ℕ)) → length bytes ≡ length other
    → report_of (fresh_run limit bytes ps).heards ≡ report_of (fresh_run limit other ps).heards
same-report limit bytes other ps n = ap report_of (same-heards limit idles bytes other ps n)
