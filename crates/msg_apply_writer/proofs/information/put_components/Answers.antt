use Prim.Native.Nat.{ℕ, ◌+◌}
use mathlib.Core.Path.{refl, sym, ap, ◌∙◌}
use mathlib.Core.List.{List, map}
use native.Mathlib.Omega.{arith}
use lib.ListN.{length, drop, get_or}
use lib.Seq.{sets}
use Rattle.wire.proofs.Stores.{sets_then}
use Rattle.proto_writer.specs.Writer.{field_bytes, message_bytes}
use Rattle.proto_writer.proofs.Runs.{message-length}
use Rattle.msg_firmware.specs.Component.{no_component}
use Rattle.msg_component_writer.specs.Component.{component_field}
use Rattle.msg_apply_writer.proofs.Texts.{components-fine}
use Rattle.msg_apply_writer.proofs.Listed.{listed_here, listed-end}
use borrow.Author.Rules.{rules}
use Rattle.msg_apply_writer.proofs.information.put_components.Invariants.{fields_at}
use Rattle.msg_apply_writer.proofs.information.put_components.Goals as goal

pub loop-component-init : goal.loop-component-init
loop-component-init c = record { inside = search rules; fine = c.requires.0; long = refl; place = refl; target = refl }

pub put_component-at-requires : goal.put_component-at-requires
put_component-at-requires c =
    let here = listed_here c.args.components.now c.loop-component.component-index c.loop-component-test.true in
    let f = component_field c.args.texts.now (get_or c.args.components.now c.loop-component.component-index no_component) in
    let e = ap (λ cs. length (message_bytes (map (component_field c.args.texts.now) cs))) here in (
      (components-fine c.args.texts.now (get_or c.args.components.now c.loop-component.component-index no_component) (drop (c.loop-component.component-index + 1) c.args.components.now) (rw here at c.loop-component.invariant.fine)).0,
      omega (arith, c.requires.1, c.loop-component.invariant.place, c.loop-component.invariant.long, e, message-length f (fields_at c.args.texts.now c.args.components.now (c.loop-component.component-index + 1))),
    )

pub loop-component-preserved : goal.loop-component-preserved
loop-component-preserved c =
    let here = listed_here c.args.components.now c.loop-component.component-index c.loop-component-test.true in
    let f = component_field c.args.texts.now (get_or c.args.components.now c.loop-component.component-index no_component) in
    let fs = fields_at c.args.texts.now c.args.components.now (c.loop-component.component-index + 1) in
    let e = ap (λ cs. message_bytes (map (component_field c.args.texts.now) cs)) here in
    record {
      inside = omega (arith, c.loop-component-test.true);
      fine = (components-fine c.args.texts.now (get_or c.args.components.now c.loop-component.component-index no_component) (drop (c.loop-component.component-index + 1) c.args.components.now) (rw here at c.loop-component.invariant.fine)).1;
      long = c.put_component-at.auto.out ∙ c.loop-component.invariant.long;
      place = omega (arith, c.loop-component.invariant.place, c.put_component-at.ensures.place, ap length e, message-length f fs);
      target =
          c.loop-component.invariant.target ∙ ap (sets c.loop-component.out c.loop-component.at) e ∙ sym (sets_then c.loop-component.out c.loop-component.at c.put_component-at.result (field_bytes f) (message_bytes fs) c.put_component-at.ensures.place)
          ∙ ap (λ (x : List ℕ). sets x c.put_component-at.result (message_bytes fs)) (sym c.put_component-at.ensures.stored);
    }

pub shape_of-out : goal.shape_of-out
shape_of-out c = c.loop-component.invariant.long

pub returns : goal.returns
returns c =
    let e = ap (λ cs. message_bytes (map (component_field c.args.texts.now) cs)) (listed-end c.args.components.now c.loop-component.component-index c.loop-component-test.false) in
    record { place = omega (arith, c.loop-component.invariant.place, ap length e); stored = sym (c.loop-component.invariant.target ∙ ap (sets c.loop-component.out c.loop-component.at) e) }
