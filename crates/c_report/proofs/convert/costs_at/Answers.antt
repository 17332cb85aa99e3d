use Rattle.c_report.proofs.convert.costs_at.Goals as goal

pub returns : goal.returns
returns c =
    rw (
      c.number_at-bytes.ensures,
      c.number_at-payload.ensures,
      c.number_at-pending.ensures,
      c.number_at-dropped.ensures,
      c.number_at-replaced.ensures,
      c.number_at-finished.ensures,
      c.number_at-firsts.ensures,
    )
