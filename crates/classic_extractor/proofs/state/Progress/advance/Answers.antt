use mathlib.Core.Path.{◌∙◌}
use Rattle.classic_extractor.specs.declared.state.Phase.TheVariants.{Outside, PacketId, ErrorId, Sequence, Body, Escaped}
use Rattle.classic_extractor.proofs.States.{by-phase}
use Rattle.classic_extractor.proofs.state.Progress.advance.Goals as goal

pub returns-in-Outside : goal.returns-in-Outside
returns-in-Outside c = λ limit e.
    c.at_outside.ensures limit c.args.buffer.now c.args.b
    ∙ by-phase limit c.args.self c.args.buffer.now c.args.b Outside c.in-Outside.is c.kind_of-kind.ensures

pub returns-in-PacketId : goal.returns-in-PacketId
returns-in-PacketId c = λ limit e.
    c.at_header.ensures limit c.args.buffer.now
    ∙ by-phase limit c.args.self c.args.buffer.now c.args.b PacketId c.in-PacketId.is c.kind_of-kind.ensures

pub returns-in-ErrorId : goal.returns-in-ErrorId
returns-in-ErrorId c = λ limit e.
    c.at_header-in-ErrorId.ensures limit c.args.buffer.now
    ∙ by-phase limit c.args.self c.args.buffer.now c.args.b ErrorId c.in-ErrorId.is c.kind_of-kind.ensures

pub returns-in-Sequence : goal.returns-in-Sequence
returns-in-Sequence c = λ limit e.
    c.at_sequence.ensures limit c.args.buffer.now
    ∙ by-phase limit c.args.self c.args.buffer.now c.args.b Sequence c.in-Sequence.is c.kind_of-kind.ensures

pub returns-in-Body : goal.returns-in-Body
returns-in-Body c = λ limit e.
    c.at_body.ensures limit e
    ∙ by-phase limit c.args.self c.args.buffer.now c.args.b Body c.in-Body.is c.kind_of-kind.ensures

pub returns-in-Escaped : goal.returns-in-Escaped
returns-in-Escaped c = λ limit e.
    c.at_escaped.ensures limit e
    ∙ by-phase limit c.args.self c.args.buffer.now c.args.b Escaped c.in-Escaped.is c.kind_of-kind.ensures
