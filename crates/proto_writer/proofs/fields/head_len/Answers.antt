use native.Mathlib.Omega.{arith}
use Prim.Native.Nat.{◌+◌, ◌*◌}
use Rattle.proto_writer.specs.Varint.{varint_bytes}
use Rattle.proto_writer.proofs.Runs.{joined_length, head-is}
use Rattle.proto_writer.proofs.fields.head_len.Goals as goal

pub returns : goal.returns
returns c =
    (omega (arith, joined_length (varint_bytes (c.args.field * 8 + 2)) (varint_bytes c.args.len) (head-is c.args.field c.args.len)), omega arith)
