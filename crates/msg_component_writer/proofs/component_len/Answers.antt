use native.Mathlib.Omega.{arith}
use Rattle.msg_component_writer.proofs.Inside.{component-fine, component-length}
use borrow.Author.Rules.{rules}
use Rattle.msg_component_writer.proofs.component_len.Goals as goal

pub text_part_len-second-requires : goal.text_part_len-second-requires
text_part_len-second-requires c =
    (search rules, (component-fine c.args.texts.now c.args.component c.requires.0).0)

pub text_part_len-fourth-requires : goal.text_part_len-fourth-requires
text_part_len-fourth-requires c =
    (search rules, (component-fine c.args.texts.now c.args.component c.requires.0).1)

pub overflow_add-result : goal.overflow_add-result
overflow_add-result c =
    omega (arith, c.requires.1, component-length c.args.texts.now c.args.component, c.scalar_len-first.ensures.0, c.text_part_len-second.ensures, c.scalar_len-third.ensures.0, c.text_part_len-fourth.ensures)

pub overflow_add-result-2 : goal.overflow_add-result-2
overflow_add-result-2 c =
    omega (arith, c.requires.1, component-length c.args.texts.now c.args.component, c.scalar_len-first.ensures.0, c.text_part_len-second.ensures, c.scalar_len-third.ensures.0, c.text_part_len-fourth.ensures)

pub overflow_add-result-3 : goal.overflow_add-result-3
overflow_add-result-3 c =
    omega (arith, c.requires.1, component-length c.args.texts.now c.args.component, c.scalar_len-first.ensures.0, c.text_part_len-second.ensures, c.scalar_len-third.ensures.0, c.text_part_len-fourth.ensures)

pub returns : goal.returns
returns c =
    omega (arith, c.requires.1, component-length c.args.texts.now c.args.component, c.scalar_len-first.ensures.0, c.text_part_len-second.ensures, c.scalar_len-third.ensures.0, c.text_part_len-fourth.ensures)
