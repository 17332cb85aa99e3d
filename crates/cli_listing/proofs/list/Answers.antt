-- What is carried over begins within the part.
use Rattle.std.proofs.Common.{take, arith}
use Rattle.outbox.specs.Format.{format_of}
use Rattle.cli_listing.proofs.Parts.{told-within, carried-within}
use Rattle.cli_listing.proofs.list.Goals as goal

pub overflow_sub-place : goal.overflow_sub-place
overflow_sub-place g c =
    let part = c.refill.new.buffer in
    let held = c.in-Ok.filled.held in
    (told-within (format_of (take held part)) _ part held c.in-Ok.ensures.came.0 c.list_part-shown.ensures c.if-listed.false).0

pub carry_over-kept-requires : goal.carry_over-kept-requires
carry_over-kept-requires g c =
    let part = c.refill.new.buffer in
    let held = c.in-Ok.filled.held in
    let within = told-within (format_of (take held part)) _ part held c.in-Ok.ensures.came.0 c.list_part-shown.ensures c.if-listed.false in
    (within.0, within.1, c.in-Ok.ensures.came.0)

pub loop-turn-preserved : goal.loop-turn-preserved
loop-turn-preserved g c =
    let part = c.refill.new.buffer in
    let held = c.in-Ok.filled.held in
    let within = told-within (format_of (take held part)) _ part held c.in-Ok.ensures.came.0 c.list_part-shown.ensures c.if-listed.false in
    let kept = carried-within part c.list_part-shown.result.listed.place held c.carry_over-kept.ensures within.0 within.1 in
    omega (arith, kept, c.carry_over-kept.auto.buffer, c.in-Ok.ensures.came.0)
