use Prim.Native.Nat.{◌+◌}
use mathlib.Core.Path.{◌≡◌, sym, ap, ◌∙◌}
use native.Mathlib.Omega.{arith}
use borrow.Author.Rules.{rules}
use lib.ListN.{length, get_or}
use Rattle.proto_field.specs.Signed.{extended}
use Rattle.proto_writer.specs.Varint.{varint_bytes}
use lib.IntN.{pos}
use Rattle.proto_field.proofs.SignedNumbers.{entry_read}
use Rattle.proto_writer.proofs.Runs.{varints_from, varints-next, varints-end, joined_length}
use Rattle.proto_writer.proofs.fields.varints_len.Goals.{After-varint_len-n}
use Rattle.proto_writer.proofs.fields.varints_len.Goals as goal

pub loop-value-init : goal.loop-value-init
loop-value-init c = (search rules, search rules, search rules)

-- what was counted: the varint of the entry
counted : (c : After-varint_len-n) → c.varint_len-n.result ≡ length (varint_bytes (extended (get_or c.args.list.now c.loop-value.value-index (pos 0))))
counted c =
    c.varint_len-n.ensures.0 ∙ ap (λ v. length (varint_bytes v)) (c.sign_extended.ensures ∙ entry_read (get_or c.args.list.now c.loop-value.value-index (pos 0)) c.sign_extended-arg-1.given)

pub loop-value-preserved : goal.loop-value-preserved
loop-value-preserved c =
    let s = c.args.list.now in
    let e = varints-next s c.loop-value.value-index (search rules) in
    (omega arith, omega arith, omega (arith, c.loop-value.invariant.2, joined_length (varint_bytes (extended (get_or s c.loop-value.value-index (pos 0)))) (varints_from s (c.loop-value.value-index + 1)) (sym e), counted c))

pub returns : goal.returns
returns c =
    let e = ap length (varints-end c.args.list.now c.loop-value.value-index c.loop-value-test.false) in
    (omega (arith, c.loop-value.invariant.2, e), omega arith)
