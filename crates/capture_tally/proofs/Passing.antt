-- Laws of the walk over a capture that gives each packet to the link and counts it.
use Prim.Native.Nat.{ℕ, ◌+◌, ◌≤◌, ◌<◌}
use native.Mathlib.Omega.{arith}
use mathlib.Core.Path.{◌≡◌, refl, sym, ap, ◌∙◌}
use mathlib.Core.List.{List}
use mathlib.Core.Bool.{Bool, true, false}
use lib.ListN.{length, get_or, set, take, drop, replicate, length-drop}
use lib.Seq.{get_or-drop}
use Rattle.wire.specs.Told.{Told, given, refused}
use Rattle.wire.specs.Bytes.{pair_of}
use Rattle.capture_reader.specs.Capture.{ToldAt, width, length_in, front_of, other_version, packets_of, checked_of}
use Rattle.capture_reader.proofs.Walking.{PacketWalk, check-refused, walk_begins, walk_ends, walk-front, walk-goes, front-within}
use Rattle.ble_slot.specs.declared.Slot.{Slot}
use Rattle.ble_slot.specs.Slot.{lawful}
use Rattle.ble_packet.specs.Control.{ack_size}
use Rattle.ble_packet.specs.Reader.{read_of}
use Rattle.ble_slot.specs.declared.answer.Accepted.{Accepted}
use Rattle.ble_slot.specs.Answer.{told}
use Rattle.ble_slot_steps.specs.declared.Step.{Step}
use Rattle.ble_receiver.specs.Receiver.{Result, result, PacketLeft, acted, ready, leaves, read_in, accept_of}
use Rattle.ble_receiver.specs.Outcome.{left_by}
use Rattle.ble_receiver.proofs.Accepting.{SlotsFit, ready-next}
use Rattle.capture_report.specs.declared.CostReport.{CostReport}
use Rattle.capture_report.specs.Costs.{heard}
use Rattle.capture_report.specs.Report.{call_for, CaptureAdded, capture_added}
use Rattle.capture_report.specs.Turns.{report_with, on_top, open_report, added_from}
use Rattle.capture_tally.specs.declared.Tally.{Tally}
use Rattle.capture_tally.specs.Tally.{told_sum, tallied, gave_of, turn_of, passed_of}

-- ---- one packet

module _ (limit : ℕ) (slots : List Slot) (bytes p : List ℕ) where
  -- a row that is ready is not judged again
  pub unjudged : ready limit slots (length bytes) ≡ true
      → leaves 0 (replicate ack_size 0) (acted limit slots bytes p (read_of limit p)) ≡ accept_of limit slots bytes (call_for p)
  unfolding accept_of read_in
  unjudged r = rw r

  -- what the rules decide is what the link does
  pub given_is : (d : Step) (after out : List ℕ) → left_by slots d after out ≡ accept_of limit slots bytes (call_for p)
      → result (told d.answer) (set slots d.index d.slot) after ≡ gave_of limit slots bytes p
  unfolding gave_of
  given_is d after out h = ap (λ (l : PacketLeft). result l.told l.slots l.bytes) h

-- and counted
pub counted_is : (t : ToldAt CostReport) (limit : ℕ) (slots : List Slot) (bytes p : List ℕ) (answer : Told Accepted) (row : List Slot) (after : List ℕ)
    → result answer row after ≡ gave_of limit slots bytes p → capture_added (on_top t (report_with (heard p answer))) row after ≡ turn_of t limit slots bytes p
unfolding turn_of
counted_is t limit slots bytes p answer row after e = ap (λ (r : Result). capture_added (on_top t (report_with (heard p r.told))) r.slots r.bytes) e

-- the row and the buffer that a packet leaves are ready for the next
stay-fit : (t : ToldAt CostReport) (limit : ℕ) (slots : List Slot) (bytes p : List ℕ) (next : Tally) (left : List ℕ) → tallied next left ≡ turn_of t limit slots bytes p
    → SlotsFit limit slots bytes → SlotsFit limit next.slots left
unfolding turn_of gave_of
stay-fit t limit slots bytes p next left e r =
    let n = ready-next limit slots bytes (call_for p) r in
    record {
      range = r.range;
      law = ap (λ (a : CaptureAdded). lawful limit a.slots) e ∙ n.law;
      size = ap (λ (a : CaptureAdded). length a.bytes) e ∙ n.size;
    }

-- ---- all of them

module _ (limit : ℕ) (start : Tally) (lent capture : List ℕ) where
  -- from a place on, the packets that are left and what was counted so far give what all do
  pub record Passing (at : ℕ) (t : Tally) (bytes : List ℕ) : Type 0 where
    pub walk : PacketWalk capture (passed_of (told_sum start.sum) limit start.slots lent capture) at (λ ps. given (added_from (told_sum t.sum) limit t.slots bytes ps))
    pub size : length bytes ≡ length lent
    pub fits : SlotsFit limit t.slots bytes

  had_by : (t : ToldAt (List (List ℕ))) → packets_of capture ≡ t → checked_of capture ≡ given tt
      → (x : CaptureAdded) × (passed_of (told_sum start.sum) limit start.slots lent capture ≡ given x)
  unfolding passed_of checked_of
  had_by (given ps) e h = (added_from (told_sum start.sum) limit start.slots lent ps, rw e)
  had_by (refused why) e h = let z : ◌≡◌ {A = ℕ} 0 1 = cc (rw e at h) in absurd (omega arith)

  had : checked_of capture ≡ given tt → (x : CaptureAdded) × (passed_of (told_sum start.sum) limit start.slots lent capture ≡ given x)
  had h = had_by (packets_of capture) refl h

  version-by : (b : Bool) → other_version capture ≡ b → checked_of capture ≡ given tt → other_version capture ≡ false
  version-by true e h = cc (check-refused capture e)
  version-by false e h = e

  module _ (h : checked_of capture ≡ given tt) where
    pub passing_begins : SlotsFit limit start.slots lent → Passing 1 start lent
    unfolding passed_of
    passing_begins r =
        record {
          walk = walk_begins capture (λ ps. given (added_from (told_sum start.sum) limit start.slots lent ps)) (version-by (other_version capture) refl h);
          size = refl;
          fits = r;
        }

    module _ {at : ℕ} {t : Tally} {bytes : List ℕ} (j : Passing at t bytes) where
      pub passing-ends : length capture ≤ at
          → given (capture_added (on_top (told_sum t.sum) (open_report t.slots)) t.slots bytes) ≡ passed_of (told_sum start.sum) limit start.slots lent capture
      unfolding added_from
      passing-ends l = sym (walk_ends capture j.walk l)

      module _ (l : at < length capture) where
        front : front_of (drop at capture) ≡ given (length_in (drop at capture))
        front = let x = had h in walk-front capture j.walk l x.0 x.1

        -- the length as it is read
        pub length-is : length_in (drop at capture) ≡ pair_of (get_or capture at 0) (get_or capture (at + 1) 0)
        length-is =
            let z : at + 0 ≡ at = omega arith in
            rw (get_or-drop at capture 0 0, get_or-drop at capture 1 0, z)

        -- the packet lies within the capture
        pub packet-lies : at + width + length_in (drop at capture) ≤ length capture
        packet-lies = omega (arith, (front-within (drop at capture) (length_in (drop at capture)) front).0, length-drop at capture, l)

        pub passing-goes : (n : ℕ) (p : List ℕ) (next : Tally) (left : List ℕ) → n ≡ length_in (drop at capture) → p ≡ take n (drop (at + width) capture)
            → tallied next left ≡ turn_of (told_sum t.sum) limit t.slots bytes p → length left ≡ length bytes → Passing (at + width + n) next left
        unfolding added_from turn_of gave_of
        passing-goes n p next left ne pe te le =
            record {
              walk =
                  walk-goes capture j.walk l n p (λ ps. given (added_from (told_sum next.sum) limit next.slots left ps)) (front ∙ ap given (sym ne)) pe
                  (λ ps. ap given (sym (ap (λ (a : CaptureAdded). added_from a.told limit a.slots a.bytes ps) te)));
              size = le ∙ j.size;
              fits = stay-fit (told_sum t.sum) limit t.slots bytes p next left te j.fits;
            }
