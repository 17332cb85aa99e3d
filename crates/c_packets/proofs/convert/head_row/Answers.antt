use Rattle.c_packets.proofs.convert.head_row.Goals as goal

pub returns : goal.returns
returns c =
    rw (
      c.stream_number.ensures,
      c.wide64.ensures.0,
      c.wide64-2.ensures.0,
      c.wide64-3.ensures.0,
      c.bit64.ensures.0,
      c.bit64-2.ensures.0,
    )
