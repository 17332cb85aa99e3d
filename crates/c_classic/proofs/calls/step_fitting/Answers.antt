use Rattle.c_classic.proofs.States.{limit-of, state-long}
use Rattle.c_classic.proofs.calls.step_fitting.Goals as goal

pub put_progress-requires : goal.put_progress-requires
put_progress-requires c = state-long _ c.requires.0

pub returns : goal.returns
returns c =
    rw (
      c.put.ensures,
      c.put_progress.ensures,
      ← (limit-of c.args.state.now),
      ← c.extractor_of.ensures,
      ← c.step-done.ensures.0,
      c.step_reply-reply.ensures,
    )
