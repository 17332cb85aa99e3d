use Rattle.capture_report.specs.Turns.{open_report}
use Rattle.capture_tally.proofs.count.open_report.Goals as goal

pub returns : goal.returns
unfolding open_report
returns c =
    rw (
      c.open_costs-alexa.ensures,
      c.open_among-3.ensures,
      c.lane_of-3.ensures,
      c.open_costs-ota.ensures,
      c.open_among-2.ensures,
      c.lane_of-2.ensures,
      c.open_costs-control.ensures,
      c.open_among.ensures,
      c.lane_of.ensures,
    )
