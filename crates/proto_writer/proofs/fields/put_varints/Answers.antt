use Prim.Native.Nat.{ℕ, ◌+◌}
use mathlib.Core.Path.{◌≡◌, refl, sym, ap, ◌∙◌}
use mathlib.Core.List.{List}
use native.Mathlib.Omega.{arith}
use borrow.Author.Rules.{rules}
use lib.IntN.{pos}
use lib.ListN.{length, get_or}
use lib.Seq.{sets}
use Rattle.wire.proofs.Stores.{sets_then}
use Rattle.wire.specs.Put.{Put}
use Rattle.proto_field.specs.Signed.{extended}
use Rattle.proto_writer.specs.Varint.{varint_bytes}
use Rattle.proto_field.proofs.SignedNumbers.{entry_read}
use Rattle.proto_writer.proofs.Runs.{varints_from, varints-next, varints-end, joined_length}
use Rattle.proto_writer.proofs.fields.put_varints.Goals.{After-sign_extended}
use Rattle.proto_writer.proofs.fields.put_varints.Goals as goal

pub loop-value-init : goal.loop-value-init
loop-value-init c = record { inside = search rules; long = refl; place = refl; target = refl }

-- the entry as the varint's value
value : (c : After-sign_extended) → c.sign_extended.result ≡ extended (get_or c.args.list.now c.loop-value.value-index (pos 0))
value c = c.sign_extended.ensures ∙ entry_read (get_or c.args.list.now c.loop-value.value-index (pos 0)) c.sign_extended-arg-1.given

pub put_varint-next-requires : goal.put_varint-next-requires
put_varint-next-requires c =
    let s = c.args.list.now in
    let e = varints-next s c.loop-value.value-index (search rules) in
    rw (value c)
    (omega (arith, c.loop-value.invariant.place, c.loop-value.invariant.long, c.requires, joined_length (varint_bytes (extended (get_or s c.loop-value.value-index (pos 0)))) (varints_from s (c.loop-value.value-index + 1)) (sym e)))

pub loop-value-preserved : goal.loop-value-preserved
loop-value-preserved c =
    let s = c.args.list.now in
    let v = varint_bytes (extended (get_or s c.loop-value.value-index (pos 0))) in
    let e = varints-next s c.loop-value.value-index (search rules) in
    let p : Put c.loop-value.out c.loop-value.next v c.put_varint-next.result c.put_varint-next.new.out =
    rw (value (goal.at.loop-value-preserved c).After-sign_extended) at c.put_varint-next.ensures in
    record {
      inside = search rules;
      long = c.put_varint-next.auto.out ∙ c.loop-value.invariant.long;
      place = omega (arith, c.loop-value.invariant.place, p.place, joined_length v (varints_from s (c.loop-value.value-index + 1)) (sym e));
      target =
          c.loop-value.invariant.target ∙ ap (sets c.loop-value.out c.loop-value.next) e ∙ sym (sets_then c.loop-value.out c.loop-value.next c.put_varint-next.result v (varints_from s (c.loop-value.value-index + 1)) p.place)
          ∙ ap (λ (x : List ℕ). sets x c.put_varint-next.result (varints_from s (c.loop-value.value-index + 1))) (sym p.stored);
    }

pub shape_of-out : goal.shape_of-out
shape_of-out c = c.loop-value.invariant.long

pub returns : goal.returns
returns c =
    let e = varints-end c.args.list.now c.loop-value.value-index c.loop-value-test.false in
    record { place = omega (arith, c.loop-value.invariant.place, ap length e); stored = sym (c.loop-value.invariant.target ∙ ap (sets c.loop-value.out c.loop-value.next) e) }
