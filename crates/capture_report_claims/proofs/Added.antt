-- A capture is added, or refused by the first line that holds; and the bytes of a stream are those of its packets.
use Prim.Native.Nat.{ℕ, ◌+◌, ◌*◌, ◌≤◌, ◌<◌}
use native.Mathlib.Omega.{arith}
use mathlib.Core.Path.{◌≡◌, refl, sym, ap, ◌∙◌}
use mathlib.Core.Logic.{◌⊎◌, inl, inr}
use mathlib.Core.List.{List, [], ◌∷◌, map}
use mathlib.Core.Bool.{Bool, true, false, cond, ◌&&◌}
use lib.ListN.{length, length-append}
use lib.Dec.{eqb, leb}
use borrow.Author.Tests.{eq-eqb, ne_eqb, eqb-true, eqb-false, leb-true, leb-false, lt-leb}
use Rattle.wire.specs.Bytes.{AllBytes}
use Rattle.wire.specs.Those.{those}
use Rattle.wire.specs.Told.{given, refused}
use Rattle.wire.specs.Limit.{limit_fits}
use Rattle.wire.specs.Stream.{stream_number}
use Rattle.wire.specs.declared.stream.Stream.{Stream}
use Rattle.wire.specs.declared.stream.Stream.TheVariants.{Control, Ota, Alexa}
use Rattle.wire.proofs.Limits.{range-limit}
use Rattle.ble_packet.specs.Header.{is_of}
use Rattle.capture_reader.specs.Capture.{ToldAt, packets_of}
use Rattle.capture_reader.specs.Captured.{framed, captured, Sizes}
use Rattle.capture_reader.proofs.Captured.{captures-hold, captures-only}
use Rattle.ble_slot.specs.declared.Slot.{Slot}
use Rattle.ble_slot.specs.Slot.{idles}
use Rattle.ble_receiver.specs.Receiver.{PacketLeft, accept_of}
use Rattle.capture_report.specs.declared.Costs.{Costs}
use Rattle.capture_report.specs.declared.CostReport.{CostReport}
use Rattle.capture_report.specs.Costs.{Heard, Followed, followed_in, costs_in, costs_of}
use Rattle.capture_report.specs.Report.{call_for, link_run, fresh_run, no_costs, costs_for, report_of, costs_plus, plus, report_fits, taken_of, summed, capture_added, added_by, added_of}
use Rattle.capture_report.proofs.Counting.{sum-cons}
use Rattle.capture_report_claims.specs.Captures.{InBits}
use Rattle.capture_report_claims.specs.Added.{LentRight, CostsSum, ReportSum, CapturesAdd, CaptureCase, of-limit, of-lent, of-capture, of-packets, AnyCapture, BytesCount, NoneElsewhere}
use Rattle.capture_report_claims.proofs.Ordering.{fits_all, fits-only}

-- ---- what is lent

taken-right : (limit : ℕ) (slots : List Slot) (bytes capture : List ℕ) → LentRight limit slots bytes
    → taken_of limit (length slots) (length bytes) capture ≡ packets_of capture
unfolding taken_of
taken-right limit slots bytes capture r =
    rw (range-limit limit r.some r.most, eq-eqb (length slots) 12 r.row, eq-eqb (length bytes) (12 * limit) r.buffer)

and-not : (a b : Bool) → b ≡ false → (a && b) ≡ false
and-not true b e = e
and-not false b e = refl

limit-not : (limit : ℕ) → (limit < 1) ⊎ (65535 < limit) → limit_fits limit ≡ false
unfolding limit_fits
limit-not limit (inl low) = rw (lt-leb 1 limit low)
limit-not limit (inr high) = and-not (leb 1 limit) (leb limit 65535) (lt-leb limit 65535 high)

lent-not : (limit count size : ℕ) → (count ≡ 12 → ⊥) ⊎ (size ≡ 12 * limit → ⊥) → (eqb count 12 && eqb size (12 * limit)) ≡ false
lent-not limit count size (inl n) = rw (ne_eqb count 12 n)
lent-not limit count size (inr n) = and-not (eqb count 12) (eqb size (12 * limit)) (ne_eqb size (12 * limit) n)

-- ---- sums

sum_is : (a b sum : Costs) → CostsSum a b sum → sum ≡ costs_plus a b
unfolding costs_plus
sum_is a b sum e =
    rw (sym e.firsts-are, sym e.finished-are, sym e.replaced-are, sym e.dropped-are, sym e.pending-are, sym e.payload-is, sym e.bytes-are)

report-is : (report : CostReport) (limit : ℕ) (bytes : List ℕ) (ps : List (List ℕ)) (sum : CostReport) → ReportSum report limit bytes ps sum
    → sum ≡ plus report (report_of (fresh_run limit bytes ps).heards)
unfolding report_of
report-is report limit bytes ps sum e =
    let hs : List Heard = (fresh_run limit bytes ps).heards in
    rw (
      sym (sum_is report.control (costs_of Control hs) sum.control (e Control)),
      sym (sum_is report.ota (costs_of Ota hs) sum.ota (e Ota)),
      sym (sum_is report.alexa (costs_of Alexa hs) sum.alexa (e Alexa)),
    )

summed-fits : (q : CostReport) → report_fits q ≡ true → summed q ≡ given q
summed-fits q e = rw e

summed-not : (q : CostReport) (s : Stream) (b : Bool) → report_fits q ≡ b → (InBits (costs_for q s) → ⊥) → summed q ≡ refused (19, 0)
summed-not q s true e n = absurd (n (fits-only q s e))
summed-not q s false e n = rw e

-- ---- a capture

module _ (report : CostReport) (limit : ℕ) (slots : List Slot) (bytes : List ℕ) where
  by-taken : (capture : List ℕ) → LentRight limit slots bytes → added_of report limit slots bytes capture ≡ added_by report limit slots bytes (packets_of capture)
  unfolding added_of
  by-taken capture r = ap (added_by report limit slots bytes) (taken-right limit slots bytes capture r)

  by-packets : (ps : List (List ℕ)) (sum : CostReport) → LentRight limit slots bytes → Sizes ps → ReportSum report limit bytes ps sum
      → added_of report limit slots bytes (captured ps) ≡ capture_added (summed sum) (fresh_run limit bytes ps).slots (fresh_run limit bytes ps).bytes
  by-packets ps sum r z e =
      by-taken (captured ps) r
      ∙ ap (added_by report limit slots bytes) (captures-hold ps z)
      ∙ ap (λ (q : CostReport). capture_added (summed q) (fresh_run limit bytes ps).slots (fresh_run limit bytes ps).bytes) (sym (report-is report limit bytes ps sum e))

pub captures-add : CapturesAdd
unfolding added_of taken_of
captures-add =
    record {
      is-added = λ report limit slots bytes ps sum r z e b.
          by-packets report limit slots bytes ps sum r z e
          ∙ ap (λ t. capture_added t (fresh_run limit bytes ps).slots (fresh_run limit bytes ps).bytes) (summed-fits sum (fits_all sum b));
      is-over = λ report limit slots bytes ps sum s r z e n.
          by-packets report limit slots bytes ps sum r z e
          ∙ ap (λ t. capture_added t (fresh_run limit bytes ps).slots (fresh_run limit bytes ps).bytes) (summed-not sum s (report_fits sum) refl n);
      limit-out = λ report limit slots bytes capture n. rw (limit-not limit n);
      lent-wrong = λ report limit slots bytes capture some most n. rw (range-limit limit some most, lent-not limit (length slots) (length bytes) n);
      own-refusal = λ report limit slots bytes capture why r e. by-taken report limit slots bytes capture r ∙ ap (added_by report limit slots bytes) e;
    }

-- ---- every capture

module _ (limit : ℕ) (slots : List Slot) (bytes capture : List ℕ) (all : AllBytes capture) where
  case-packets : LentRight limit slots bytes → (t : ToldAt (List (List ℕ))) → packets_of capture ≡ t → CaptureCase limit slots bytes capture
  case-packets r (refused why) e = of-capture why r e
  case-packets r (given ps) e = let o = captures-only capture ps all e in of-packets ps r o.1 o.0

  case_lent : 1 ≤ limit → limit ≤ 65535 → (a b : Bool) → eqb (length slots) 12 ≡ a → eqb (length bytes) (12 * limit) ≡ b → CaptureCase limit slots bytes capture
  case_lent low high true true e f =
      case-packets (record { some = low; most = high; row = eqb-true (length slots) 12 e; buffer = eqb-true (length bytes) (12 * limit) f }) (packets_of capture) refl
  case_lent low high true false e f = of-lent low high (inr (eqb-false (length bytes) (12 * limit) f))
  case_lent low high false b e f = of-lent low high (inl (eqb-false (length slots) 12 e))

  case-limit : (a b : Bool) → leb 1 limit ≡ a → leb limit 65535 ≡ b → CaptureCase limit slots bytes capture
  case-limit true true e f =
      case_lent (leb-true 1 limit e) (leb-true limit 65535 f) (eqb (length slots) 12) (eqb (length bytes) (12 * limit)) refl refl
  case-limit true false e f = of-limit (inr (leb-false limit 65535 f))
  case-limit false b e f = of-limit (inl (leb-false 1 limit e))

pub any-capture : AnyCapture
any-capture limit slots bytes capture all = case-limit limit slots bytes capture all (leb 1 limit) (leb limit 65535) refl refl

-- ---- bytes

heard-packets : (limit : ℕ) (slots : List Slot) (bytes : List ℕ) (ps : List (List ℕ)) → map (λ (h : Heard). h.packet) (link_run limit slots bytes ps).heards ≡ ps
unfolding link_run
heard-packets limit slots bytes [] = refl
heard-packets limit slots bytes (p ∷ ps) =
    let l : PacketLeft = accept_of limit slots bytes (call_for p) in
    ap (λ (qs : List (List ℕ)). p ∷ qs) (heard-packets limit l.slots l.bytes ps)

-- the bytes of packets, and the two of each length
framed-by : (b : Bool) (p : List ℕ) (ps : List (List ℕ)) (n : ℕ) → n + 2 * length ps ≡ length (framed ps)
    → cond (b && true) (length p) 0 + n + 2 * length (cond b (p ∷ ps) ps) ≡ length (framed (cond b (p ∷ ps) ps))
framed-by true p ps n e =
    let l = length-append p (framed ps) in
    omega (arith, e, l)
framed-by false p ps n e = omega (arith, e)

bytes-framed : (s : Stream) (hs : List Heard)
    → (costs_in s (followed_in hs)).bytes + 2 * length (those (is_of (stream_number s)) (map (λ (h : Heard). h.packet) hs))
    ≡ length (framed (those (is_of (stream_number s)) (map (λ (h : Heard). h.packet) hs)))
bytes-framed s [] = refl
bytes-framed s (h ∷ hs) =
    let m : Followed = record { it = h; later = hs } in
    let c = sum-cons (λ (f : Followed). length f.it.packet) (λ (f : Followed). is_of (stream_number s) f.it.packet && true) m (followed_in hs) in
    let e = framed-by (is_of (stream_number s) h.packet) h.packet (those (is_of (stream_number s)) (map (λ (h : Heard). h.packet) hs)) (costs_in s (followed_in hs)).bytes (bytes-framed s hs) in
    omega (arith, c, e)

pub bytes_count : BytesCount
unfolding costs_of
bytes_count limit bytes ps s =
    let e = bytes-framed s (fresh_run limit bytes ps).heards in
    let q = heard-packets limit idles bytes ps in
    let k : (costs_in s (followed_in (fresh_run limit bytes ps).heards)).bytes + 2 * length (those (is_of (stream_number s)) ps) ≡ length (framed (those (is_of (stream_number s)) ps))
    = rw q at e in
    omega (arith, k)

-- ---- a stream without packets

none-by : (s : Stream) (h : Heard) (hs : List Heard) (b : Bool) → is_of (stream_number s) h.packet ≡ b
    → those (is_of (stream_number s)) (h.packet ∷ map (λ (h : Heard). h.packet) hs) ≡ []
    → (those (is_of (stream_number s)) (map (λ (h : Heard). h.packet) hs) ≡ [] → costs_in s (followed_in hs) ≡ no_costs)
    → costs_in s (followed_in (h ∷ hs)) ≡ no_costs
none-by s h hs true e n later =
    let z : length (those (is_of (stream_number s)) (h.packet ∷ map (λ (h : Heard). h.packet) hs)) ≡ 0 = ap length n in
    absurd (omega (arith, rw e at z))
none-by s h hs false e n later = rw e (later (rw e at n))

none-heard : (s : Stream) (hs : List Heard) → those (is_of (stream_number s)) (map (λ (h : Heard). h.packet) hs) ≡ [] → costs_in s (followed_in hs) ≡ no_costs
none-heard s [] n = refl
none-heard s (h ∷ hs) n = none-by s h hs (is_of (stream_number s) h.packet) refl n (none-heard s hs)

pub none_elsewhere : NoneElsewhere
unfolding costs_of
none_elsewhere limit bytes ps s n =
    none-heard s (fresh_run limit bytes ps).heards (ap (those (is_of (stream_number s))) (heard-packets limit idles bytes ps) ∙ n)
