use Rattle.ble_sender.proofs.writer.sent_for.Goals as goal

pub returns-then-last : goal.returns-then-last
returns-then-last c = simp c.if-last.true

pub returns-else-last : goal.returns-else-last
returns-else-last c = simp c.if-last.false
