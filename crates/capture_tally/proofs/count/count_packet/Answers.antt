use Rattle.capture_report.specs.Costs.{heard}
use Rattle.capture_tally.proofs.Fitting.{own_alone}
use Rattle.capture_tally.proofs.count.count_packet.Goals as goal

pub returns : goal.returns
returns c =
    rw (
      c.in_ok-sum.was,
      c.add_to.ensures,
      c.costs_with.ensures,
      c.stream_field.ensures,
      own_alone (heard _ _),
    )
