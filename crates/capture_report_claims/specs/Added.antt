-- Which captures are added, and which are refused, in the rules' own numbers; and which packets a stream's numbers are of.
use Rattle.std.specs.Prelude.{ℕ, ◌+◌, ◌*◌, ◌≤◌, ◌<◌, ◌≡◌, ◌⊎◌, List, [], length}
use Rattle.wire.specs.Bytes.{AllBytes}
use Rattle.wire.specs.Those.{those}
use Rattle.wire.specs.Told.{given, refused}
use Rattle.wire.specs.Stream.{stream_number}
use Rattle.wire.specs.declared.stream.Stream.{Stream}
use Rattle.ble_packet.specs.Header.{is_of}
use Rattle.capture_reader.specs.Capture.{packets_of}
use Rattle.capture_reader.specs.Captured.{captured, Sizes}
use Rattle.ble_slot.specs.declared.Slot.{Slot}
use Rattle.capture_report.specs.declared.Costs.{Costs}
use Rattle.capture_report.specs.declared.CostReport.{CostReport}
use Rattle.capture_report.specs.Costs.{costs_of}
use Rattle.capture_report.specs.Report.{fresh_run, costs_for, no_costs, capture_added, added_of}
use Rattle.capture_report_claims.specs.Captures.{InBits}

-- a limit of 1 to 65,535, a row of twelve slots and a buffer of twelve times the limit, whatever is in them
pub record LentRight (limit : ℕ) (slots : List Slot) (bytes : List ℕ) : Type 0 where
  pub some : 1 ≤ limit
  pub most : limit ≤ 65535
  pub row : length slots ≡ 12
  pub buffer : length bytes ≡ 12 * limit

-- seven sums
pub record CostsSum (a b sum : Costs) : Type 0 where
  pub firsts-are : sum.firsts ≡ a.firsts + b.firsts
  pub finished-are : sum.finished ≡ a.finished + b.finished
  pub replaced-are : sum.replaced ≡ a.replaced + b.replaced
  pub dropped-are : sum.dropped ≡ a.dropped + b.dropped
  pub pending-are : sum.pending ≡ a.pending + b.pending
  pub payload-is : sum.payload ≡ a.payload + b.payload
  pub bytes-are : sum.bytes ≡ a.bytes + b.bytes

-- on each stream: a report's numbers and those of packets that a fresh link is given
abbrev pub ReportSum : CostReport → ℕ → List ℕ → List (List ℕ) → CostReport → Type 0
ReportSum report limit bytes ps sum =
    (s : Stream) → CostsSum (costs_for report s) (costs_of s (fresh_run limit bytes ps).heards) (costs_for sum s)

-- Of each capture, one of these: it is added, or refused by 19, by 17, by 1 or by the capture's own refusal.
pub record CapturesAdd : Type 0 where
  -- Any packets of 1 to 65,535 bytes are added where each sum has 64 bits.
  pub is-added : (report : CostReport) (limit : ℕ) (slots : List Slot) (bytes : List ℕ) (ps : List (List ℕ)) (sum : CostReport)
      → LentRight limit slots bytes
      → Sizes ps
      → ReportSum report limit bytes ps sum
      → ((s : Stream) → InBits (costs_for sum s))
      → added_of report limit slots bytes (captured ps) ≡ capture_added (given sum) (fresh_run limit bytes ps).slots (fresh_run limit bytes ps).bytes
  -- One sum that has more is enough for 19, which leaves row and buffer as after the last packet.
  pub is-over : (report : CostReport) (limit : ℕ) (slots : List Slot) (bytes : List ℕ) (ps : List (List ℕ)) (sum : CostReport) (s : Stream)
      → LentRight limit slots bytes
      → Sizes ps
      → ReportSum report limit bytes ps sum
      → (InBits (costs_for sum s) → ⊥)
      → added_of report limit slots bytes (captured ps) ≡ capture_added (refused (19, 0)) (fresh_run limit bytes ps).slots (fresh_run limit bytes ps).bytes
  -- 17 before all else, then 1, then what is told of the capture: each leaves row and buffer.
  pub limit-out : (report : CostReport) (limit : ℕ) (slots : List Slot) (bytes capture : List ℕ)
      → (limit < 1) ⊎ (65535 < limit)
      → added_of report limit slots bytes capture ≡ capture_added (refused (17, 0)) slots bytes
  pub lent-wrong : (report : CostReport) (limit : ℕ) (slots : List Slot) (bytes capture : List ℕ)
      → 1 ≤ limit
      → limit ≤ 65535
      → (length slots ≡ 12 → ⊥) ⊎ (length bytes ≡ 12 * limit → ⊥)
      → added_of report limit slots bytes capture ≡ capture_added (refused (1, 0)) slots bytes
  pub own-refusal : (report : CostReport) (limit : ℕ) (slots : List Slot) (bytes capture : List ℕ) (why : ℕ × ℕ)
      → LentRight limit slots bytes
      → packets_of capture ≡ refused why
      → added_of report limit slots bytes capture ≡ capture_added (refused why) slots bytes

-- every limit, whatever is lent and every capture is one of these
pub data CaptureCase (limit : ℕ) (slots : List Slot) (bytes capture : List ℕ) : Type 0 where
  of-limit : (limit < 1) ⊎ (65535 < limit) → CaptureCase limit slots bytes capture
  of-lent : 1 ≤ limit → limit ≤ 65535 → (length slots ≡ 12 → ⊥) ⊎ (length bytes ≡ 12 * limit → ⊥) → CaptureCase limit slots bytes capture
  of-capture : (why : ℕ × ℕ) → LentRight limit slots bytes → packets_of capture ≡ refused why → CaptureCase limit slots bytes capture
  of-packets : (ps : List (List ℕ)) → LentRight limit slots bytes → Sizes ps → capture ≡ captured ps → CaptureCase limit slots bytes capture

-- The premises of CapturesAdd ask for no more: there is nothing else.
abbrev pub AnyCapture : Type 0
AnyCapture = (limit : ℕ) (slots : List Slot) (bytes capture : List ℕ) → AllBytes capture → CaptureCase limit slots bytes capture

-- Whatever is told of them, the bytes of a stream are those of its packets: a capture of these alone has, besides, two bytes for each
-- length and one for the version.
abbrev pub BytesCount : Type 0
BytesCount =
    (limit : ℕ) (bytes : List ℕ) (ps : List (List ℕ)) (s : Stream)
    → (costs_of s (fresh_run limit bytes ps).heards).bytes + 2 * length (those (is_of (stream_number s)) ps) + 1
    ≡ length (captured (those (is_of (stream_number s)) ps))

-- A stream that has no packet costs nothing.
abbrev pub NoneElsewhere : Type 0
NoneElsewhere =
    (limit : ℕ) (bytes : List ℕ) (ps : List (List ℕ)) (s : Stream)
    → those (is_of (stream_number s)) ps ≡ []
    → costs_of s (fresh_run limit bytes ps).heards ≡ no_costs
