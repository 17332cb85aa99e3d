-- What is carried over begins within the part.
use Rattle.std.proofs.Common.{take, sym, ap, ◌∙◌, arith}
use Rattle.outbox.specs.Format.{format_of}
use Rattle.cli_listing.specs.Listing.{told_part}
use Rattle.cli_listing.proofs.Parts.{told-within, carried-within}
use Rattle.move_outbox.proofs.pass_over.Goals as goal

pub overflow_sub-place : goal.overflow_sub-place
overflow_sub-place g c =
    let l = c.loop-turn in
    (told-within (format_of (take l.held l.buffer)) _ l.buffer l.held l.invariant (sym (ap told_part c.in-Ok.is) ∙ c.judge_part.ensures) c.if-listed.false).0

pub carry_over-kept-requires : goal.carry_over-kept-requires
carry_over-kept-requires g c =
    let l = c.loop-turn in
    let within = told-within (format_of (take l.held l.buffer)) _ l.buffer l.held l.invariant (sym (ap told_part c.in-Ok.is) ∙ c.judge_part.ensures) c.if-listed.false in
    (within.0, within.1, l.invariant)

pub refill-requires : goal.refill-requires
refill-requires g c =
    let l = c.loop-turn in
    let within = told-within (format_of (take l.held l.buffer)) _ l.buffer l.held l.invariant (sym (ap told_part c.in-Ok.is) ∙ c.judge_part.ensures) c.if-listed.false in
    let kept = carried-within l.buffer c.in-Ok.part.place l.held c.carry_over-kept.ensures within.0 within.1 in
    omega (arith, kept, c.carry_over-kept.auto.buffer, l.invariant)
