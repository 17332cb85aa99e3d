use Rattle.c_sending.specs.Convert.{sending_of}
use Rattle.c_sending.proofs.convert.sending.Goals as goal

pub returns : goal.returns
unfolding sending_of
returns c =
    rw (
      c.byte_or-2.ensures,
      c.byte_or.ensures,
      c.stream_with.ensures,
    )
