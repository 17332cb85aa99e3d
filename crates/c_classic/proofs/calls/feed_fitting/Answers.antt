use Rattle.c_classic.proofs.States.{limit-of, state-long}
use Rattle.c_classic.proofs.calls.feed_fitting.Goals as goal

pub put_progress-requires : goal.put_progress-requires
put_progress-requires c = state-long _ c.requires.0

pub put_progress-requires-in-Ok-Some : goal.put_progress-requires-in-Ok-Some
put_progress-requires-in-Ok-Some c = state-long _ c.requires.0

pub put_progress-requires-in-Err : goal.put_progress-requires-in-Err
put_progress-requires-in-Err c = state-long _ c.requires.0

pub returns-in-Ok-None : goal.returns-in-Ok-None
returns-in-Ok-None c =
    let none = rw c.in-Ok-None.is at c.in-Ok-None.field-0-is in
    rw (c.write_row.ensures, c.put_progress.ensures, ← (limit-of c.args.state.now), ← c.extractor_of.ensures, ← c.feed-done.ensures.0, c.in-Ok-None.is, none)

pub returns-in-Ok-Some : goal.returns-in-Ok-Some
returns-in-Ok-Some c =
    let some = rw c.in-Ok-Some.is at c.in-Ok-Some.field-0-is in
    rw (c.write_row-in-Ok-Some.ensures, c.put_progress-in-Ok-Some.ensures, ← (limit-of c.args.state.now), ← c.extractor_of.ensures, ← c.feed-done.ensures.0, c.in-Ok-Some.is, some, c.wide64.ensures.0)

pub returns-in-Err : goal.returns-in-Err
returns-in-Err c = rw (c.write_row-in-Err.ensures, c.put_progress-in-Err.ensures, ← (limit-of c.args.state.now), ← c.extractor_of.ensures, ← c.feed-done.ensures.0, c.wide64-number.ensures.0, c.number.ensures, c.in-Err.is)
