use Rattle.c_classic_parts.proofs.States.{state-long}
use Rattle.c_classic_parts.proofs.calls.part_fitting.Goals as goal

pub keep-requires : goal.keep-requires
keep-requires c = rw c.state_row-numbers.ensures (state-long _ c.requires.0)

pub returns : goal.returns
returns c =
    rw (
      ← c.state_of.ensures,
      ← c.write-done.ensures.0,
      c.put.ensures,
      c.keep.ensures,
      c.state_row-numbers.ensures,
      c.write-done.ensures.1,
      c.part_reply-reply.ensures,
    )
