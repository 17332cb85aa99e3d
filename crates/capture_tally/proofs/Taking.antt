-- What is refused before any packet is taken, and what the packets come to.
use Prim.Native.Nat.{ℕ, ◌*◌}
use native.Mathlib.Omega.{arith}
use mathlib.Core.Path.{◌≡◌, refl, sym, ap, ◌∙◌}
use mathlib.Core.List.{List}
use mathlib.Core.Bool.{Bool, true, false, ◌&&◌}
use lib.Dec.{eqb}
use lib.ListN.{length}
use borrow.Author.Tests.{eqb-true}
use Rattle.wire.specs.Limit.{limit_fits}
use Rattle.wire.proofs.Tests.{and_right}
use Rattle.wire.specs.Told.{given, refused}
use Rattle.capture_reader.specs.Capture.{ToldAt, packets_of, checked_of}
use Rattle.ble_slot.specs.declared.Slot.{Slot}
use Rattle.ble_slot.specs.Slot.{slot_count, idles}
use Rattle.capture_report.specs.declared.CostReport.{CostReport}
use Rattle.ble_receiver.specs.Receiver.{ready}
use Rattle.ble_receiver.specs.Outcome.{first_twelve}
use Rattle.capture_report.proofs.Runs.{idles-lawful}
use Rattle.ble_link.specs.Row.{saved_row}
use Rattle.ble_link.proofs.Rows.{saved-loaded, saved-twelve}
use Rattle.capture_report.specs.Report.{CaptureAdded, capture_added, taken_of, added_by, added_of}
use Rattle.capture_report.specs.Turns.{added_from}
use Rattle.capture_report.proofs.Turning.{turns-add}
use Rattle.capture_tally.specs.Tally.{passed_of}

module _ (limit count size : ℕ) (capture : List ℕ) where
  pub limit-refused : limit_fits limit ≡ false → taken_of limit count size capture ≡ refused (17, 0)
  unfolding taken_of
  limit-refused f = rw f

  module _ (f : limit_fits limit ≡ true) where
    pub lent-refused : (eqb count slot_count && eqb size (slot_count * limit)) ≡ false → taken_of limit count size capture ≡ refused (1, 0)
    unfolding taken_of
    lent-refused l = rw (f, l)

    pub taken_is : (eqb count slot_count && eqb size (slot_count * limit)) ≡ true → taken_of limit count size capture ≡ packets_of capture
    unfolding taken_of
    taken_is l = rw (f, l)

-- a fresh link over what was lent
pub fresh-ready : (limit count size : ℕ) → limit_fits limit ≡ true → (eqb count slot_count && eqb size (slot_count * limit)) ≡ true → ready limit idles size ≡ true
unfolding ready
fresh-ready limit count size f l = rw (f, and_right (eqb count slot_count) _ l, idles-lawful limit)

unsound-by : (capture : List ℕ) (t : ToldAt (List (List ℕ))) (why : ℕ × ℕ) → packets_of capture ≡ t → checked_of capture ≡ refused why → packets_of capture ≡ refused why
unfolding checked_of
unsound-by capture (given ps) why e h = let z : ◌≡◌ {A = ℕ} 0 1 = cc (rw e at h) in absurd (omega arith)
unsound-by capture (refused n) why e h = let same : n ≡ why = cc (rw e at h) in e ∙ ap refused same

pub unsound : (capture : List ℕ) (why : ℕ × ℕ) → checked_of capture ≡ refused why → packets_of capture ≡ refused why
unsound capture why h = unsound-by capture (packets_of capture) why refl h

module _ (report : CostReport) (limit : ℕ) (slots : List Slot) (bytes capture : List ℕ) (a : CaptureAdded) where
  sound-by : (t : ToldAt (List (List ℕ))) → packets_of capture ≡ t → given a ≡ passed_of (given report) limit idles bytes capture
      → a ≡ added_by report limit slots bytes (packets_of capture)
  unfolding passed_of
  sound-by (given ps) e h =
      let z : given a ≡ given (added_from (given report) limit idles bytes ps) = rw e at h in
      let same : a ≡ added_from (given report) limit idles bytes ps = cc in
      rw e (same ∙ sym (turns-add report limit slots bytes ps))
  sound-by (refused n) e h = let z : ◌≡◌ {A = ℕ} 0 1 = cc (rw e at h) in absurd (omega arith)

  -- the packets of a capture that can be read, passed
  pub sound : given a ≡ passed_of (given report) limit idles bytes capture → a ≡ added_by report limit slots bytes (packets_of capture)
  sound h = sound-by (packets_of capture) refl h

-- ---- over a lent row, of which the first twelve slots were loaded, and all twelve are stored

count_by : (limit count size : ℕ) (capture : List ℕ) (ps : List (List ℕ)) (f c : Bool) → limit_fits limit ≡ f → eqb count slot_count ≡ c
    → taken_of limit count size capture ≡ given ps → count ≡ slot_count
unfolding taken_of
count_by limit count size capture ps false c fe ce h = cc (rw fe at h)
count_by limit count size capture ps true false fe ce h = cc (rw (fe, ce) at h)
count_by limit count size capture ps true true fe ce h = eqb-true count slot_count ce

-- packets are taken over a row of twelve slots only
taken-count : (limit count size : ℕ) (capture : List ℕ) (ps : List (List ℕ)) → taken_of limit count size capture ≡ given ps → count ≡ slot_count
taken-count limit count size capture ps h = count_by limit count size capture ps (limit_fits limit) (eqb count slot_count) refl refl h

module _ (report : CostReport) (limit : ℕ) (row : List Slot) (bytes capture : List ℕ) (t : ToldAt CostReport) (slots : List Slot) (after : List ℕ) (twelve : length slots ≡ slot_count) where
  saved-by : (x : ToldAt (List (List ℕ))) → taken_of limit (length row) (length bytes) capture ≡ x
      → capture_added t slots after ≡ added_by report limit (first_twelve row) bytes x → capture_added t (saved_row row slots) after ≡ added_by report limit row bytes x
  saved-by (refused why) e h =
      ap (λ (a : CaptureAdded). capture_added a.told (saved_row row a.slots) a.bytes) h
      ∙ ap (λ (l : List Slot). capture_added (refused why) l bytes) (saved-loaded row)
  saved-by (given ps) e h =
      ap (λ (l : List Slot). capture_added t l after) (saved-twelve row slots (taken-count limit (length row) (length bytes) capture ps e) twelve) ∙ h

  pub saved-added : capture_added t slots after ≡ added_by report limit (first_twelve row) bytes (taken_of limit (length row) (length bytes) capture)
      → capture_added t (saved_row row slots) after ≡ added_of report limit row bytes capture
  unfolding added_of
  saved-added h = saved-by (taken_of limit (length row) (length bytes) capture) refl h
