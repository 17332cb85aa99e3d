use native.Mathlib.Omega.{arith}
use Rattle.proto_reader.proofs.Strings.{part-taken}
use Rattle.msg_component_writer.proofs.Inside.{lies-inside}
use Rattle.msg_component_writer.proofs.part_of.Goals as goal

pub overflow_add-end : goal.overflow_add-end
overflow_add-end c = omega (arith, lies-inside c.args.texts.now c.args.part c.requires)

pub slice_bounds-result-end : goal.slice_bounds-result-end
slice_bounds-result-end c = omega (arith, lies-inside c.args.texts.now c.args.part c.requires)

pub returns : goal.returns
returns c = part-taken c.args.texts.now c.args.part
