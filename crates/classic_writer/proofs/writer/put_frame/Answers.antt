-- Six stores, each behind the one before; `frame-length` says that all fit.
use mathlib.Core.Path.{sym, ◌∙◌}
use lib.ListN.{length-set}
use native.Mathlib.Omega.{arith}
use Rattle.classic_frame.specs.Mark.{end_mark}
use Rattle.classic_writer.proofs.Escaping.{frame-length, frame-sets}
use Rattle.classic_writer.proofs.writer.put_frame.Goals as goal

pub put_header-requires : goal.put_header-requires
put_header-requires c =
    omega (arith, frame-length c.args.sequence c.args.payload.now c.args.sum.high c.args.sum.low)

pub put_all-after_payload-requires : goal.put_all-after_payload-requires
put_all-after_payload-requires c =
    omega (arith, frame-length c.args.sequence c.args.payload.now c.args.sum.high c.args.sum.low)

pub put_escaped-after_high-requires : goal.put_escaped-after_high-requires
put_escaped-after_high-requires c =
    omega (arith, frame-length c.args.sequence c.args.payload.now c.args.sum.high c.args.sum.low)

pub put_escaped-after_low-requires : goal.put_escaped-after_low-requires
put_escaped-after_low-requires c =
    omega (arith, frame-length c.args.sequence c.args.payload.now c.args.sum.high c.args.sum.low)

pub bounds-out-after_low : goal.bounds-out-after_low
bounds-out-after_low c =
    omega (arith, frame-length c.args.sequence c.args.payload.now c.args.sum.high c.args.sum.low)

pub overflow_add-result : goal.overflow_add-result
overflow_add-result c =
    omega (arith, frame-length c.args.sequence c.args.payload.now c.args.sum.high c.args.sum.low)

pub shape_of-out : goal.shape_of-out
shape_of-out c =
    length-set c.put_escaped-after_low.new.out c.put_escaped-after_low.result end_mark ∙ c.put_escaped-after_low.auto.out ∙ c.put_escaped-after_high.auto.out ∙ c.put_all-after_payload.auto.out ∙ c.put_header.auto.out

pub returns : goal.returns
returns c = (
  omega (arith, frame-length c.args.sequence c.args.payload.now c.args.sum.high c.args.sum.low),
  rw (
    c.put_escaped-after_low.ensures.1,
    c.put_escaped-after_low.ensures.0,
    c.put_escaped-after_high.ensures.1,
    c.put_escaped-after_high.ensures.0,
    c.put_all-after_payload.ensures.1,
    c.put_all-after_payload.ensures.0,
    c.put_header.ensures,
  )
      (sym (frame-sets c.args.sequence c.args.payload.now c.args.sum.high c.args.sum.low c.args.out.now)),
)
