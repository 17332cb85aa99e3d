use native.Mathlib.Omega.{arith}
use Prim.Native.Nat.{◌+◌, ◌*◌}
use mathlib.Core.Path.{ap, sym}
use lib.ListN.{length}
use Rattle.proto_writer.specs.Varint.{varint_bytes}
use Rattle.proto_writer.proofs.Runs.{joined_length, scalar-none, scalar-some}
use Rattle.proto_writer.proofs.fields.scalar_len.Goals as goal

pub returns-then-value-eq0 : goal.returns-then-value-eq0
returns-then-value-eq0 c =
    let e = ap length (scalar-none c.args.field c.args.value c.if-value-eq0.true) in
    (sym e, omega arith)

pub returns : goal.returns
returns c =
    let e = joined_length (varint_bytes (c.args.field * 8 + 0)) (varint_bytes c.args.value) (scalar-some c.args.field c.args.value c.if-value-eq0.false) in
    (omega (arith, e), omega arith)
