use Rattle.capture_tally.specs.Tally.{told}
use Rattle.capture_tally.proofs.Taking.{saved-added}
use Rattle.capture_tally.proofs.add.Goals as goal

pub returns : goal.returns
returns c =
    let a = c.args in
    let d = c.add_by_value-done in
    rw c.store.ensures.0
    (saved-added a.report a.limit a.row.now a.buffer.now a.capture.now (told d.result.answer) d.result.slots d.new.buffer
    c.store.ensures.1 (rw (← c.load-slots.ensures) d.ensures))
