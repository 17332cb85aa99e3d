use mathlib.Core.Path.{sym, ◌∙◌}
use native.Mathlib.Omega.{arith}
use lib.Seq.{length-take-le}
use Rattle.ble_packet_end.proofs.Ends.{front-within, front-beyond}
use Rattle.ble_packet_end.proofs.read_front.Goals as goal

pub slice_bounds-read-end : goal.slice_bounds-read-end
slice_bounds-read-end c = sym (length-take-le _ _ (omega (arith, c.if-end-bytes.true)))

pub returns-then-end-bytes : goal.returns-then-end-bytes
returns-then-end-bytes c =
    c.read.ensures ∙ front-within c.args.limit c.args.bytes.now c.end_of-end.result c.end_of-end.ensures

pub returns : goal.returns
returns c =
    c.read-2.ensures ∙ front-beyond c.args.limit c.args.bytes.now c.end_of-end.result c.end_of-end.ensures (omega (arith, c.if-end-bytes.false))
