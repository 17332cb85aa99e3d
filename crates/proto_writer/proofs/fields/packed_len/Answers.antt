use native.Mathlib.Omega.{arith}
use mathlib.Core.Path.{ap, sym, ◌∙◌}
use mathlib.Core.List.{map}
use lib.ListN.{length}
use Rattle.proto_field.specs.Signed.{extended}
use Rattle.proto_writer.specs.Writer.{head_bytes, varints_bytes}
use Rattle.proto_writer.proofs.Runs.{joined_length, packed_none, packed-some}
use Rattle.proto_writer.proofs.fields.packed_len.Goals as goal

pub returns-then-list-eq0 : goal.returns-then-list-eq0
returns-then-list-eq0 c = sym (ap length (packed_none c.args.field c.args.list.now c.if-list-eq0.true))

pub returns : goal.returns
returns c =
    let b = varints_bytes (map extended c.args.list.now) in
    omega (
      arith,
      c.head_len.ensures.0 ∙ ap (λ k. length (head_bytes c.args.field k)) c.varints_len-len.ensures.0,
      c.varints_len-len.ensures.0,
      joined_length (head_bytes c.args.field (length b)) b (packed-some c.args.field c.args.list.now c.if-list-eq0.false),
    )
