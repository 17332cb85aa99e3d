-- Sums of 64 bits.
use Prim.Native.Nat.{ℕ, ◌+◌, ◌≤◌}
use native.Mathlib.Omega.{arith}
use mathlib.Core.Path.{◌≡◌, refl}
use mathlib.Core.Bool.{Bool, true, false, cond}
use Rattle.wire.specs.Told.{given, refused}
use Rattle.ble_packet.specs.Header.{stream_bits, is_of}
use Rattle.wire.specs.Stream.{is_stream, stream_of}
use Rattle.wire.specs.declared.stream.Stream.TheVariants.{Control, Ota, Alexa}
use Rattle.std.specs.Prelude.{Option, Some, None}
use mathlib.Core.List.{List, [], ◌∷◌}
use Rattle.capture_reader.specs.Capture.{ToldAt}
use lib.Dec.{eqb}
use lib.ListN.{length}
use borrow.Author.Tests.{lt-ltb, eqb-true}
use Rattle.capture_report.specs.declared.Costs.{Costs}
use Rattle.capture_report.specs.declared.CostReport.{CostReport}
use Rattle.capture_report.specs.Report.{costs_plus, plus, past64, costs_fit, no_costs, summed}
use Rattle.capture_report.specs.Costs.{Heard, begins, finishes, replaces, drops, payload_in}
use Rattle.capture_report.specs.Turns.{costs_by, report_with}
use Rattle.capture_tally.specs.Count.{stream_in, only, only_for}

-- ---- one stream's numbers added alone

zero_more : (n : ℕ) → n + 0 ≡ n
zero_more n = omega arith

none-on : (a b c d e f g : ℕ)
    → ◌≡◌ {A = Costs} (record { firsts = a + 0; finished = b + 0; replaced = c + 0; dropped = d + 0; pending = e + 0; payload = f + 0; bytes = g + 0 })
    (record { firsts = a; finished = b; replaced = c; dropped = d; pending = e; payload = f; bytes = g })
none-on a b c d e f g = rw (zero_more a, zero_more b, zero_more c, zero_more d, zero_more e, zero_more f, zero_more g)

none_more : (a : Costs) → costs_plus a no_costs ≡ a
unfolding costs_plus
none_more a = none-on a.firsts a.finished a.replaced a.dropped a.pending a.payload a.bytes

-- the numbers that the machine has
pub fits-already : (a : Costs) → a.firsts ≤ 18446744073709551615 → a.finished ≤ 18446744073709551615 → a.replaced ≤ 18446744073709551615
    → a.dropped ≤ 18446744073709551615 → a.pending ≤ 18446744073709551615 → a.payload ≤ 18446744073709551615 → a.bytes ≤ 18446744073709551615
    → costs_fit a ≡ true
unfolding costs_fit
fits-already a f g r d p y b =
    rw (
      lt-ltb a.firsts past64 (omega arith),
      lt-ltb a.finished past64 (omega arith),
      lt-ltb a.replaced past64 (omega arith),
      lt-ltb a.dropped past64 (omega arith),
      lt-ltb a.pending past64 (omega arith),
      lt-ltb a.payload past64 (omega arith),
      lt-ltb a.bytes past64 (omega arith),
    )

-- a sum that is there fits
pub sum-fits : (b : Bool) (x y : Costs) (r : Option Costs) → r ≡ cond b (Some x) None → r ≡ Some y → (b ≡ true) × (y ≡ x)
sum-fits true x y r e f = let z : y ≡ x = cc in (refl, z)
sum-fits false x y r e f = cc

-- what is told where one stream's sums decide
abbrev pub told_by : Bool → CostReport → ToldAt CostReport
told_by t r = cond t (given r) (refused (19, 0))

module _ (r : CostReport) (more : Costs) (c : costs_fit r.control ≡ true) (o : costs_fit r.ota ≡ true) (a : costs_fit r.alexa ≡ true) where
  pub on-control : (t : Bool) → costs_fit (costs_plus r.control more) ≡ t
      → told_by t (record { control = costs_plus r.control more; ota = r.ota; alexa = r.alexa }) ≡ summed (plus r (only_for (Some Control) more))
  on-control true f = rw (none_more r.ota, none_more r.alexa, f, o, a)
  on-control false f = rw (none_more r.ota, none_more r.alexa, f)

  pub on-ota : (t : Bool) → costs_fit (costs_plus r.ota more) ≡ t
      → told_by t (record { control = r.control; ota = costs_plus r.ota more; alexa = r.alexa }) ≡ summed (plus r (only_for (Some Ota) more))
  on-ota true f = rw (none_more r.control, none_more r.alexa, f, c, a)
  on-ota false f = rw (none_more r.control, none_more r.alexa, f, c)

  pub on-alexa : (t : Bool) → costs_fit (costs_plus r.alexa more) ≡ t
      → told_by t (record { control = r.control; ota = r.ota; alexa = costs_plus r.alexa more }) ≡ summed (plus r (only_for (Some Alexa) more))
  on-alexa true f = rw (none_more r.control, none_more r.ota, f, c, o)
  on-alexa false f = rw (none_more r.control, none_more r.ota, f, c, o)

  pub on_none : given r ≡ summed (plus r (only_for None more))
  on_none = rw (none_more r.control, none_more r.ota, none_more r.alexa, c, o, a)

-- ---- what a packet adds is its own stream's

mine-alone : (mine begun finished replaced dropped : Bool) (payload size : ℕ)
    → costs_by mine begun finished replaced dropped payload size ≡ cond mine (costs_by true begun finished replaced dropped payload size) no_costs
mine-alone true begun finished replaced dropped payload size = refl
mine-alone false begun finished replaced dropped payload size = refl

-- a packet's own costs
abbrev own : Heard → Costs
own h = costs_by true (begins h) (finishes h.told) (replaces h.told) (drops h.told) (payload_in h.told) (length h.packet)

alone : (h : Heard) (mine : Bool)
    → costs_by mine (begins h) (finishes h.told) (replaces h.told) (drops h.told) (payload_in h.told) (length h.packet) ≡ cond mine (own h) no_costs
alone h mine = mine-alone mine (begins h) (finishes h.told) (replaces h.told) (drops h.told) (payload_in h.told) (length h.packet)

by-streams : (n : ℕ) (c : Costs) (zero two six : Bool) → eqb n 0 ≡ zero → eqb n 2 ≡ two → eqb n 6 ≡ six
    → ◌≡◌ {A = CostReport} (record { control = cond (eqb n 0) c no_costs; ota = cond (eqb n 2) c no_costs; alexa = cond (eqb n 6) c no_costs })
    (only_for (cond (is_stream n) (Some (stream_of n)) None) c)
unfolding is_stream stream_of
by-streams n c true two six z t s = let e : n ≡ 0 = eqb-true n 0 z in rw e
by-streams n c false true six z t s = let e : n ≡ 2 = eqb-true n 2 t in rw e
by-streams n c false false true z t s = let e : n ≡ 6 = eqb-true n 6 s in rw e
by-streams n c false false false z t s = rw (z, t, s)

-- the costs of the stream with a number are those of the stream that it is
pub only-numbered : (n : ℕ) (c : Costs) → only n c ≡ only_for (cond (is_stream n) (Some (stream_of n)) None) c
only-numbered n c = by-streams n c (eqb n 0) (eqb n 2) (eqb n 6) refl refl refl

of-packet : (p : List ℕ) (c : Costs)
    → ◌≡◌ {A = CostReport} (record { control = cond (is_of 0 p) c no_costs; ota = cond (is_of 2 p) c no_costs; alexa = cond (is_of 6 p) c no_costs })
    (only_for (stream_in p) c)
of-packet [] c = refl
of-packet (b ∷ p) c =
    by-streams (stream_bits b) c (eqb (stream_bits b) 0) (eqb (stream_bits b) 2) (eqb (stream_bits b) 6) refl refl refl

pub own_alone : (h : Heard)
    → report_with h
    ≡ only_for (stream_in h.packet) (costs_by true (begins h) (finishes h.told) (replaces h.told) (drops h.told) (payload_in h.told) (length h.packet))
unfolding report_with
own_alone h =
    rw (alone h (is_of 0 h.packet), alone h (is_of 2 h.packet), alone h (is_of 6 h.packet)) (of-packet h.packet (own h))
