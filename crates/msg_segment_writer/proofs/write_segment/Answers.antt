use mathlib.Core.Path.{sym}
use Rattle.std.proofs.lemmas.Result.{err_from_is_err_and}
use Rattle.msg_segment_writer.proofs.Segments.{segment-faulted, segment-clean}
use Rattle.msg_segment_writer.proofs.write_segment.Goals as goal

pub returns-in_err-segment_fault : goal.returns-in_err-segment_fault
returns-in_err-segment_fault c =
    let p = err_from_is_err_and c.from_residual.result c.from_residual.ensures.1 in
    rw (p.1, p.2)
    (segment-faulted c.args.component_name.now c.args.component_offset c.args.segment_size c.args.segment_signature.now c.args.out.now _ (sym c.in_err-segment_fault.ensures))

pub returns : goal.returns
returns c =
    segment-clean c.args.component_name.now c.args.component_offset c.args.segment_size c.args.segment_signature.now c.args.out.now (sym c.in_ok-segment_fault.ensures) c.fill_segment.ensures
