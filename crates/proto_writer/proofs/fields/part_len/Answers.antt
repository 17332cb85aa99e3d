use native.Mathlib.Omega.{arith}
use lib.ListN.{length}
use Rattle.proto_writer.specs.Writer.{head_bytes}
use Rattle.proto_writer.proofs.Runs.{joined_length, part-is}
use Rattle.proto_writer.proofs.fields.part_len.Goals as goal

pub returns : goal.returns
returns c =
    let s = c.args.bytes.now in
    (omega (arith, joined_length (head_bytes c.args.field (length s)) s (part-is c.args.field s)), omega arith)
