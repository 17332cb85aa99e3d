use Rattle.std.proofs.Common.{◌≡◌}
use Rattle.proto_field.specs.Fields.{told_found}
use Rattle.msg_firmware.proofs.Reached.{Reached, left_of}
use Rattle.msg_firmware.proofs.information.next_component.Given as goal

abbrev pub invariant-loop-step : goal.invariant-loop-step
invariant-loop-step l = record {
  same_message : l.step.rest.message.now ≡ l.message;
  reached : Reached l.message l.from (told_found l.step.found) l.step.rest.at;
}

abbrev pub decreases-loop-step : goal.decreases-loop-step
decreases-loop-step l = left_of l.message (told_found l.step.found) l.step.rest.at
