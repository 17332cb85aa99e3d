use mathlib.Core.Path.{sym, ◌∙◌}
use native.Mathlib.Omega.{arith}
use Rattle.classic_extractor.proofs.States.{ready-fits}
use Rattle.classic_extractor.proofs.state.Progress.take.Goals as goal

pub advance-requires : goal.advance-requires
advance-requires c =
    let fits = ready-fits {l = c.args.buffer.now} (sym c.is_ready.ensures ∙ c.if-is_ready.true) in
    omega (arith, fits.room, fits.size)

pub returns-then-is_ready : goal.returns-then-is_ready
returns-then-is_ready c =
    let yes = sym c.is_ready.ensures ∙ c.if-is_ready.true in
    rw yes (c.advance.ensures c.args.limit (ready-fits {l = c.args.buffer.now} yes).size)

pub returns-else-is_ready : goal.returns-else-is_ready
returns-else-is_ready c = rw (sym c.is_ready.ensures ∙ c.if-is_ready.false, c.refuse.ensures)
