use Rattle.c_receiving.proofs.convert.accepted_row.Goals as goal

pub returns-in-Taken : goal.returns-in-Taken
returns-in-Taken c =
    rw (
      c.in-Taken.is,
      c.stream_number.ensures,
      c.wide64.ensures.0,
      c.wide64-in-Taken.ensures.0,
      c.bit.ensures.0,
    )

pub returns-in-Finished : goal.returns-in-Finished
returns-in-Finished c =
    rw (
      c.in-Finished.is,
      c.stream_number-in-Finished.ensures,
      c.wide64-in-Finished.ensures.0,
      c.wide64-in-Finished-2.ensures.0,
      c.bit-in-Finished.ensures.0,
      c.wide64-in-Finished-3.ensures.0,
      c.bit-in-Finished-2.ensures.0,
    )

pub returns-in-Acked : goal.returns-in-Acked
returns-in-Acked c = rw c.in-Acked.is c.head_row.ensures

pub returns-in-Nacked : goal.returns-in-Nacked
returns-in-Nacked c = rw c.in-Nacked.is c.head_row-in-Nacked.ensures
