-- 40, 15 and the end by their tests; then what stands at the front of what is left is what the definition reads there.
use Prim.Native.Nat.{◌+◌, ◌≤◌}
use mathlib.Core.Path.{◌≡◌, sym, ap, ◌∙◌}
use native.Mathlib.Omega.{arith}
use lib.ListN.{length, drop}
use Rattle.wire.proofs.Parts.{rest-lent}
use Rattle.std.specs.Prelude.{Option}
use Rattle.wire.specs.Told.{given, and_then}
use Rattle.capture_reader.specs.Capture.{width, ToldAt, located, front_of, told_at}
use Rattle.capture_reader.proofs.Placed.{found-at, passed-on, given-there}
use Rattle.capture_packet.specs.declared.Refusal.TheVariants.{Capture}
use Rattle.capture_packet.specs.declared.FoundPacket.{FoundPacket}
use Rattle.capture_packet.specs.Place.{packet_at, number_of, item_of}
use Rattle.capture_packet.proofs.Places.{place-within, at-end, at-given, at-refused, packet-within}
use Rattle.capture_packet.proofs.read_at.Goals.{After-located, Else-place-capture, In_ok-size}
use Rattle.capture_packet.proofs.read_at.Goals as goal

pub returns-then-other_version : goal.returns-then-other_version
unfolding packet_at
returns-then-other_version c = rw (sym c.other_version.ensures ∙ c.if-other_version.true)

pub returns-then-bad_place : goal.returns-then-bad_place
unfolding packet_at
returns-then-bad_place c =
    rw (
      sym c.other_version.ensures ∙ c.if-other_version.false,
      sym c.bad_place.ensures ∙ c.if-bad_place.true,
    )

pub returns-then-place-capture : goal.returns-then-place-capture
returns-then-place-capture c =
    sym
    (at-end c.args.capture.now c.args.place
    (sym c.other_version.ensures ∙ c.if-other_version.false)
    (sym c.bad_place.ensures ∙ c.if-bad_place.false) c.if-place-capture.true)

pub slice_bounds-front_of-count : goal.slice_bounds-front_of-count
slice_bounds-front_of-count c = (place-within c.args.capture.now _ (sym c.bad_place.ensures ∙ c.if-bad_place.false)).1

pub slice_bounds-front_of-start : goal.slice_bounds-front_of-start
slice_bounds-front_of-start c = slice_bounds-front_of-count c

-- what was found is what stands there
stands : (c : After-located)
    → told_at number_of c.located.result ≡ located c.args.place (front_of (drop c.args.place c.args.capture.now))
stands c =
    found-at number_of Capture c.args.place c.front_of.result c.located.result c.located.ensures
    ∙ ap (located c.args.place) (c.front_of.ensures ∙ ap front_of (rest-lent c.args.capture.now c.args.place))

stood : (c : In_ok-size) → front_of (drop c.args.place c.args.capture.now) ≡ given c.in_ok-size.size
stood c =
    given-there c.args.place _ c.in_ok-size.size
    (sym (stands (goal.at.overflow_add-start c).After-located) ∙ ap (told_at number_of) c.in_ok-size.was)

-- a packet ends within the capture
within : (c : In_ok-size) → c.args.place + width + c.in_ok-size.size ≤ length c.args.capture.now
within c =
    packet-within c.args.capture.now c.args.place _ (slice_bounds-front_of-count (goal.at.overflow_add-start c).Else-place-capture) (stood c)

pub overflow_add-start : goal.overflow_add-start
overflow_add-start c = omega (arith, within c)

pub overflow_add-next : goal.overflow_add-next
overflow_add-next c = omega (arith, within c)

pub returns-in_err-size : goal.returns-in_err-size
returns-in_err-size c =
    let e = c.in_err-size.field-0.0 in
    ap (λ (t : ToldAt (Option FoundPacket)). and_then t (λ standing. given (item_of standing)))
    (passed-on number_of e c.from_residual.result c.from_residual.ensures.1)
    ∙ sym
    (at-refused c.args.capture.now c.args.place
    (sym c.other_version.ensures ∙ c.if-other_version.false)
    (sym c.bad_place.ensures ∙ c.if-bad_place.false) c.if-place-capture.false (number_of e.why, e.at)
    (sym (stands (goal.at.returns-in_err-size c).After-located) ∙ ap (told_at number_of) c.in_err-size.was))

pub returns : goal.returns
returns c =
    sym
    (at-given c.args.capture.now c.args.place
    (sym c.other_version.ensures ∙ c.if-other_version.false)
    (sym c.bad_place.ensures ∙ c.if-bad_place.false) c.if-place-capture.false _ (stood (goal.at.returns c).In_ok-size))
