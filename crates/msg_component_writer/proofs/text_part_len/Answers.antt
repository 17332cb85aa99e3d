use mathlib.Core.Path.{ap, ◌∙◌}
use lib.ListN.{length}
use Rattle.proto_writer.specs.Writer.{text, field_bytes}
use Rattle.msg_component_writer.proofs.text_part_len.Goals as goal

pub returns : goal.returns
returns c =
    c.text_len.ensures.0 ∙ ap (λ l. length (field_bytes (text c.args.field l))) c.part_of.ensures
