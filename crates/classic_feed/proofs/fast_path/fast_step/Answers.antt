use mathlib.Core.Path.{◌∙◌}
use Rattle.classic_extractor.specs.declared.state.Phase.TheVariants.{Outside, PacketId, ErrorId, Sequence, Body, Escaped}
use Rattle.classic_extractor.proofs.States.{by-phase}
use Rattle.classic_feed.proofs.Decisions.{start-advance}
use Rattle.classic_feed.proofs.fast_path.fast_step.Goals as goal

pub returns-then-b-eq-START : goal.returns-then-b-eq-START
returns-then-b-eq-START c =
    rw (c.if-b-eq-START.true, c.at_start.ensures.0, c.at_start.ensures.1) (start-advance c.args.limit c.args.state c.args.buffer.now)

pub returns-in-Outside : goal.returns-in-Outside
returns-in-Outside c =
    c.at_outside.ensures c.args.limit c.args.buffer.now c.args.b
    ∙ by-phase c.args.limit c.args.state c.args.buffer.now c.args.b Outside c.in-Outside.is c.kind_of-kind.ensures

pub returns-in-PacketId : goal.returns-in-PacketId
returns-in-PacketId c =
    c.at_header.ensures c.args.limit c.args.buffer.now
    ∙ by-phase c.args.limit c.args.state c.args.buffer.now c.args.b PacketId c.in-PacketId.is c.kind_of-kind.ensures

pub returns-in-ErrorId : goal.returns-in-ErrorId
returns-in-ErrorId c =
    c.at_header-in-ErrorId.ensures c.args.limit c.args.buffer.now
    ∙ by-phase c.args.limit c.args.state c.args.buffer.now c.args.b ErrorId c.in-ErrorId.is c.kind_of-kind.ensures

pub returns-in-Sequence : goal.returns-in-Sequence
returns-in-Sequence c =
    c.at_sequence.ensures c.args.limit c.args.buffer.now
    ∙ by-phase c.args.limit c.args.state c.args.buffer.now c.args.b Sequence c.in-Sequence.is c.kind_of-kind.ensures

pub returns-in-Body : goal.returns-in-Body
returns-in-Body c =
    c.at_body.ensures c.args.limit c.requires.size
    ∙ by-phase c.args.limit c.args.state c.args.buffer.now c.args.b Body c.in-Body.is c.kind_of-kind.ensures

pub returns-in-Escaped : goal.returns-in-Escaped
returns-in-Escaped c =
    c.at_escaped.ensures c.args.limit c.requires.size
    ∙ by-phase c.args.limit c.args.state c.args.buffer.now c.args.b Escaped c.in-Escaped.is c.kind_of-kind.ensures
