use Rattle.std.proofs.Common.{◌≡◌, true, false}
use Rattle.proto_field.specs.Fields.{told_found, found_at}
use Rattle.msg_firmware.specs.Information.{is_other}
use Rattle.msg_firmware.proofs.Reached.{reached_next, reached_less, reached_found}
use Rattle.msg_firmware.proofs.information.next_component.Goals as goal

pub loop-step-smaller : goal.loop-step-smaller
loop-step-smaller c =
    let e = c.next-step-in-loop-step.ensures in
    let other : is_other (told_found c.loop-step.step.found) ≡ true = cc in
    let found : told_found c.next-step-in-loop-step.result.found ≡ found_at c.args.message.now c.loop-step.step.rest.at = cc in
    reached_less _ (told_found c.loop-step.step.found) _ _ _ other found e.2

pub loop-step-preserved : goal.loop-step-preserved
loop-step-preserved c =
    let e = c.next-step-in-loop-step.ensures in
    let other : is_other (told_found c.loop-step.step.found) ≡ true = cc in
    let found : told_found c.next-step-in-loop-step.result.found ≡ found_at c.args.message.now c.loop-step.step.rest.at = cc in
    let same : c.next-step-in-loop-step.result.rest.message.now ≡ c.args.message.now = cc in
    record {
      same_message = same;
      reached = reached_next _ _ _ _ _ _ c.loop-step.invariant.reached other found e.2;
    }

pub returns : goal.returns
returns c =
    let other : is_other (told_found c.loop-step.step.found) ≡ false = cc in
    rw c.component_found.ensures (reached_found _ _ _ _ c.loop-step.invariant.reached other)
