use Rattle.c_report.specs.Convert.{report_at}
use Rattle.c_report.proofs.convert.report_at.Goals as goal

pub returns : goal.returns
unfolding report_at
returns c = rw (c.costs_at-alexa.ensures, c.costs_at-ota.ensures, c.costs_at-control.ensures)
