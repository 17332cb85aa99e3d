use native.Mathlib.Omega.{arith}
use Prim.Native.Nat.{◌+◌, ◌*◌}
use Rattle.proto_writer.specs.Varint.{varint_bytes}
use Rattle.proto_writer.proofs.Runs.{put_then, joined_length, head-is}
use Rattle.proto_writer.proofs.fields.put_head.Goals as goal

pub put_varint-next-requires : goal.put_varint-next-requires
put_varint-next-requires c =
    omega (arith, c.requires, joined_length (varint_bytes (c.args.field * 8 + 2)) (varint_bytes c.args.len) (head-is c.args.field c.args.len))

pub put_varint-requires : goal.put_varint-requires
put_varint-requires c =
    omega (
      arith,
      c.requires,
      joined_length (varint_bytes (c.args.field * 8 + 2)) (varint_bytes c.args.len) (head-is c.args.field c.args.len),
      c.put_varint-next.ensures.place,
      c.put_varint-next.auto.out,
    )

pub returns : goal.returns
returns c =
    put_then (varint_bytes (c.args.field * 8 + 2)) (varint_bytes c.args.len) (head-is c.args.field c.args.len)
    c.put_varint-next.ensures c.put_varint.ensures
