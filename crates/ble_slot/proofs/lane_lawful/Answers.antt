use mathlib.Core.Path.{sym, ◌∙◌}
use Rattle.ble_slot.proofs.Lanes.{law-four, idle-four}
use Rattle.ble_slot.proofs.lane_lawful.Goals as goal

pub returns-then-are_idle : goal.returns-then-are_idle
returns-then-are_idle c =
    sym (idle-four c.args.limit c.args.lane c.well_formed.1.0.1.0.1 (sym c.are_idle.ensures ∙ c.if-are_idle.true))

pub returns-then-each_lawful : goal.returns-then-each_lawful
returns-then-each_lawful c =
    rw (law-four c.args.limit c.args.lane c.well_formed.1.0.1.0.1, ← c.each_lawful.ensures, c.if-each_lawful.true) c.are_distinct.ensures

pub returns-else-each_lawful : goal.returns-else-each_lawful
returns-else-each_lawful c =
    rw (law-four c.args.limit c.args.lane c.well_formed.1.0.1.0.1, ← c.each_lawful.ensures, c.if-each_lawful.false)
