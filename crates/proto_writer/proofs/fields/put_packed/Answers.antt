use native.Mathlib.Omega.{arith}
use mathlib.Core.List.{map}
use lib.ListN.{length}
use Rattle.proto_field.specs.Signed.{extended}
use Rattle.proto_writer.specs.Writer.{head_bytes, varints_bytes}
use Rattle.proto_writer.proofs.Runs.{put-none, put_then, joined_length, packed_none, packed-some}
use Rattle.proto_writer.proofs.fields.put_packed.Goals as goal

pub returns-then-list-eq0 : goal.returns-then-list-eq0
returns-then-list-eq0 c =
    put-none c.args.out.now c.args.at (packed_none c.args.field c.args.list.now c.if-list-eq0.true)

pub put_head-start-requires : goal.put_head-start-requires
put_head-start-requires c =
    let b = varints_bytes (map extended c.args.list.now) in (
      c.requires.0,
      rw c.varints_len-len.ensures.0
          (omega (arith, c.requires.2, joined_length (head_bytes c.args.field (length b)) b (packed-some c.args.field c.args.list.now c.if-list-eq0.false))),
    )

pub put_varints-requires : goal.put_varints-requires
put_varints-requires c =
    let b = varints_bytes (map extended c.args.list.now) in
    omega (
      arith,
      c.requires.2,
      joined_length (head_bytes c.args.field (length b)) b (packed-some c.args.field c.args.list.now c.if-list-eq0.false),
      rw c.varints_len-len.ensures.0 at c.put_head-start.ensures.place,
      c.put_head-start.auto.out,
    )

pub returns : goal.returns
returns c =
    let b = varints_bytes (map extended c.args.list.now) in
    put_then (head_bytes c.args.field (length b)) b (packed-some c.args.field c.args.list.now c.if-list-eq0.false)
    (rw c.varints_len-len.ensures.0 at c.put_head-start.ensures) c.put_varints.ensures
