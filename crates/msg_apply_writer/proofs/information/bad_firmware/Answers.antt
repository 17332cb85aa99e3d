use mathlib.Core.Path.{sym, ◌∙◌}
use borrow.Author.Tests.{lt-ltb, le-ltb}
use Rattle.msg_apply_writer.specs.Information.{bad_firmware}
use Rattle.msg_apply_writer.proofs.information.bad_firmware.Goals as goal

pub returns-then-count-gt-MOST_REPEATED : goal.returns-then-count-gt-MOST_REPEATED
unfolding bad_firmware
returns-then-count-gt-MOST_REPEATED c = rw (lt-ltb _ _ c.if-count-gt-MOST_REPEATED.true)

pub returns-then-is_outside : goal.returns-then-is_outside
unfolding bad_firmware
returns-then-is_outside c = rw (le-ltb _ _ c.if-count-gt-MOST_REPEATED.false, sym c.is_outside.ensures ∙ c.if-is_outside.true)

pub returns-then-bad_components : goal.returns-then-bad_components
unfolding bad_firmware
returns-then-bad_components c = rw (le-ltb _ _ c.if-count-gt-MOST_REPEATED.false, sym c.is_outside.ensures ∙ c.if-is_outside.false, sym c.bad_components.ensures ∙ c.if-bad_components.true)

pub returns-then-is_outside-2 : goal.returns-then-is_outside-2
unfolding bad_firmware
returns-then-is_outside-2 c = rw (le-ltb _ _ c.if-count-gt-MOST_REPEATED.false, sym c.is_outside.ensures ∙ c.if-is_outside.false, sym c.bad_components.ensures ∙ c.if-bad_components.false, sym c.is_outside-2.ensures ∙ c.if-is_outside-2.true)

pub returns : goal.returns
unfolding bad_firmware
returns c = rw (le-ltb _ _ c.if-count-gt-MOST_REPEATED.false, sym c.is_outside.ensures ∙ c.if-is_outside.false, sym c.bad_components.ensures ∙ c.if-bad_components.false, sym c.is_outside-2.ensures ∙ c.if-is_outside-2.false) c.is_outside-3.ensures
