use Rattle.c_reply.specs.Convert.{link_of}
use Rattle.c_reply.proofs.convert.link_for.Goals as goal

pub returns : goal.returns
unfolding link_of
returns c = rw (c.byte_or-2.ensures, c.byte_or.ensures)
