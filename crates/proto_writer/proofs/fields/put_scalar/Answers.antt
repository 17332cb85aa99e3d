use native.Mathlib.Omega.{arith}
use Prim.Native.Nat.{◌+◌, ◌*◌}
use Rattle.proto_writer.specs.Varint.{varint_bytes}
use Rattle.proto_writer.proofs.Runs.{put-none, put_then, joined_length, scalar-none, scalar-some}
use Rattle.proto_writer.proofs.fields.put_scalar.Goals as goal

pub returns-then-value-eq0 : goal.returns-then-value-eq0
returns-then-value-eq0 c =
    put-none c.args.out.now c.args.at (scalar-none c.args.field c.args.value c.if-value-eq0.true)

pub put_varint-next-requires : goal.put_varint-next-requires
put_varint-next-requires c =
    omega (arith, c.requires, joined_length (varint_bytes (c.args.field * 8 + 0)) (varint_bytes c.args.value) (scalar-some c.args.field c.args.value c.if-value-eq0.false))

pub put_varint-requires : goal.put_varint-requires
put_varint-requires c =
    omega (
      arith,
      c.requires,
      joined_length (varint_bytes (c.args.field * 8 + 0)) (varint_bytes c.args.value) (scalar-some c.args.field c.args.value c.if-value-eq0.false),
      c.put_varint-next.ensures.place,
      c.put_varint-next.auto.out,
    )

pub returns : goal.returns
returns c =
    put_then (varint_bytes (c.args.field * 8 + 0)) (varint_bytes c.args.value) (scalar-some c.args.field c.args.value c.if-value-eq0.false)
    c.put_varint-next.ensures c.put_varint.ensures
