use Rattle.std.proofs.Common.{ap, ◌∙◌}
use Rattle.capture_report.specs.Report.{CaptureAdded, capture_added}
use Rattle.capture_tally.specs.Tally.{told}
use Rattle.c_report.specs.Calls.{told_rows}
use Rattle.c_report.proofs.Adding.{called_by, told-left}
use Rattle.c_report.proofs.calls.pito_report_add.Goals as goal

pub returns : goal.returns
returns c =
    let a = c.args in
    let d = c.add-done in
    let e = rw c.adding_to-to.ensures at d.ensures in
    ap (called_by (capture_added (told d.result) d.new.row d.new.buffer)) c.tell_added.ensures
    ∙ (ap (λ (l : CaptureAdded). called_by l (told_rows a.report.now a.answer.now l.told)) e
    ∙ told-left a.report.now a.limit a.row.now a.buffer.now a.capture.now a.answer.now)
