-- Bytes 0 and 1 choose the table; each way out is the table from its first line that holds.
use mathlib.Core.Path.{◌≡◌, sym, ap, ◌∙◌}
use mathlib.Core.Bool.{cond, true}
use native.Mathlib.Omega.{arith}
use lib.ListN.{length, get_or}
use lib.Dec.{eqb}
use Rattle.std.specs.Prelude.{Err, is_ok}
use Rattle.wire.specs.Stream.{is_stream, stream_of, stream_given}
use Rattle.wire.proofs.Streams.{given-known, given-stream}
use Rattle.ble_packet.specs.declared.reader.Refusal.TheVariants.{UnknownStream}
use Rattle.ble_packet.specs.Header.{type_first, type_continuation, type_last, type_control, type_bits, extender_bit, stream_bits}
use Rattle.ble_packet.specs.Reader.{start_bits_of, told}
use Rattle.ble_packet.proofs.Reading.{headless, read-from, no_start, no_header, no_stream, first-long, next-long, kind-next}
use Rattle.ble_packet.proofs.reader.read.Goals.{After-both, After-type_bits-kind, After-extender_bit-extended, After-start_bits-s}
use Rattle.ble_packet.proofs.reader.read.Goals as goal

kind_at : (c : After-type_bits-kind) → c.type_bits-kind.result ≡ type_bits (get_or c.args.packet.now 1 0)
kind_at c = rw c.byte_at-second.ensures at c.type_bits-kind.ensures

extended-at : (c : After-extender_bit-extended) → c.extender_bit-extended.result ≡ extender_bit (get_or c.args.packet.now 1 0)
extended-at c = rw c.byte_at-second.ensures at c.extender_bit-extended.ensures

-- the stream that byte 0 says is known
known-at : (c : After-start_bits-s) → is_stream (stream_bits (get_or c.args.packet.now 0 0)) ≡ true
known-at c =
    let n = stream_bits (get_or c.args.packet.now 0 0) in
    let given : c.try_from.result ≡ stream_given n = rw (c.stream_bits.ensures, c.byte_at-first.ensures) at c.try_from.ensures in
    given-known n c.try_from.result given ∙ ap is_ok c.in_ok-stream.was

start-at : (c : After-start_bits-s)
    → (c.start_bits-s.result ≡ start_bits_of (stream_of (stream_bits (get_or c.args.packet.now 0 0))) (get_or c.args.packet.now 0 0) (get_or c.args.packet.now 1 0))
start-at c =
    let n = stream_bits (get_or c.args.packet.now 0 0) in
    let given : c.try_from.result ≡ stream_given n = rw (c.stream_bits.ensures, c.byte_at-first.ensures) at c.try_from.ensures in
    let stream : c.in_ok-stream.stream ≡ stream_of n = given-stream n c.in_ok-stream.stream (sym c.in_ok-stream.was ∙ given) in
    rw (c.byte_at-first.ensures, c.byte_at-second.ensures, stream) at c.start_bits-s.ensures

-- whether it is too short for its header
short-at : (c : After-both)
    → c.both.result ≡ headless (length c.args.packet.now) c.type_bits-kind.result c.extender_bit-extended.result
short-at c = rw c.header_size-size.ensures.0 at c.both.ensures

pub returns-then-packet-lt-START_SIZE : goal.returns-then-packet-lt-START_SIZE
returns-then-packet-lt-START_SIZE c =
    sym (no_start c.args.limit c.args.packet.now c.if-packet-lt-START_SIZE.true)

pub returns-then-both : goal.returns-then-both
returns-then-both c =
    sym
    (no_header c.args.limit c.args.packet.now c.type_bits-kind.result c.extender_bit-extended.result (kind_at (goal.at.returns-then-both c).After-type_bits-kind)
    (extended-at (goal.at.returns-then-both c).After-extender_bit-extended) c.if-packet-lt-START_SIZE.false
    (sym (short-at (goal.at.returns-then-both c).After-both) ∙ c.if-both.true))

pub returns-in_err-stream : goal.returns-in_err-stream
returns-in_err-stream c =
    let n = stream_bits (get_or c.args.packet.now 0 0) in
    let given : c.try_from.result ≡ stream_given n = rw (c.stream_bits.ensures, c.byte_at-first.ensures) at c.try_from.ensures in
    let passed : c.from_residual.result ≡ Err UnknownStream = grind arith in
    ap told passed
    ∙ sym
    (no_stream c.args.limit c.args.packet.now c.type_bits-kind.result c.extender_bit-extended.result (kind_at (goal.at.returns-in_err-stream c).After-type_bits-kind)
    (extended-at (goal.at.returns-in_err-stream c).After-extender_bit-extended) c.if-packet-lt-START_SIZE.false
    (sym (short-at (goal.at.returns-in_err-stream c).After-both) ∙ c.if-both.false)
    (given-known n c.try_from.result given ∙ ap is_ok c.in_err-stream.was))

pub returns-then-kind-eq-TYPE_CONTROL : goal.returns-then-kind-eq-TYPE_CONTROL
returns-then-kind-eq-TYPE_CONTROL c =
    let here = goal.at.returns-then-kind-eq-TYPE_CONTROL c in
    c.read_control.ensures c.args.limit
    ∙ sym (read-from c.args.limit c.args.packet.now type_control c.start_bits-s.result (sym c.if-kind-eq-TYPE_CONTROL.true ∙ kind_at here.After-type_bits-kind) (known-at here.After-start_bits-s) (start-at here.After-start_bits-s))

pub read_first-requires : goal.read_first-requires
read_first-requires c =
    let here = goal.at.read_first-requires c in
    rw (ap (λ s. s.extended) c.start_bits-s.ensures ∙ sym c.extender_bit-extended.ensures)
    (first-long _ c.type_bits-kind.result c.extender_bit-extended.result c.if-kind-eq-TYPE_FIRST.true (sym (short-at here.After-both) ∙ c.if-both.false))

pub returns-then-kind-eq-TYPE_FIRST : goal.returns-then-kind-eq-TYPE_FIRST
returns-then-kind-eq-TYPE_FIRST c =
    let here = goal.at.returns-then-kind-eq-TYPE_FIRST c in
    c.read_first.ensures
    ∙ sym (read-from c.args.limit c.args.packet.now type_first c.start_bits-s.result (sym c.if-kind-eq-TYPE_FIRST.true ∙ kind_at here.After-type_bits-kind) (known-at here.After-start_bits-s) (start-at here.After-start_bits-s))

pub read_next-requires : goal.read_next-requires
read_next-requires c =
    let here = goal.at.read_next-requires c in
    rw (ap (λ s. s.extended) c.start_bits-s.ensures ∙ sym c.extender_bit-extended.ensures)
    (next-long _ c.type_bits-kind.result c.extender_bit-extended.result c.if-kind-eq-TYPE_CONTROL.false c.if-kind-eq-TYPE_FIRST.false (sym (short-at here.After-both) ∙ c.if-both.false))

pub returns : goal.returns
returns c =
    let here = goal.at.returns c in
    let second = get_or c.args.packet.now 1 0 in
    let kind = kind_at here.After-type_bits-kind in
    let last : cond (eqb c.type_bits-kind.result type_last) type_last type_continuation ≡ type_bits second
    = rw kind (kind-next second (rw kind at c.if-kind-eq-TYPE_CONTROL.false) (rw kind at c.if-kind-eq-TYPE_FIRST.false)) in
    c.read_next.ensures c.args.limit
    ∙ sym (read-from c.args.limit c.args.packet.now _ c.start_bits-s.result last (known-at here.After-start_bits-s) (start-at here.After-start_bits-s))
