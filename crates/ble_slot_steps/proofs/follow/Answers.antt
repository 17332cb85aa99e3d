use Rattle.ble_slot_steps.proofs.Steps.{open-below}
use native.Mathlib.Omega.{arith}
use Rattle.ble_slot_steps.proofs.follow.Goals as goal

pub offset_bounds-lane-spot : goal.offset_bounds-lane-spot
offset_bounds-lane-spot c =
    let e = rw c.in-Some.is at c.find_open-found.ensures in
    let l = open-below c.args.lane c.args.head.id c.in-Some.spot c.well_formed.1.0.1.0.1 e in
    omega (arith, l)

pub bounds-lane-spot : goal.bounds-lane-spot
bounds-lane-spot c =
    let e = rw c.in-Some.is at c.find_open-found.ensures in
    let l = open-below c.args.lane c.args.head.id c.in-Some.spot c.well_formed.1.0.1.0.1 e in
    l

pub overflow_add-first : goal.overflow_add-first
overflow_add-first c =
    let e = rw c.in-Some.is at c.find_open-found.ensures in
    let l = open-below c.args.lane c.args.head.id c.in-Some.spot c.well_formed.1.0.1.0.1 e in
    omega (arith, l, c.requires.0)

pub returns-in-None : goal.returns-in-None
returns-in-None c = rw (← c.find_open-found.ensures, c.in-None.is) c.stay.ensures

pub returns-in-Some : goal.returns-in-Some
returns-in-Some c =
    rw (← c.find_open-found.ensures, c.in-Some.is) c.on_next.ensures
