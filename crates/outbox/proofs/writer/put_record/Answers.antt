use Prim.Native.Nat.{◌+◌}
use mathlib.Core.Path.{◌∙◌}
use native.Mathlib.Omega.{arith}
use lib.ListN.{length-set}
use Rattle.outbox.specs.Format.{format_for}
use Rattle.outbox.proofs.Stored.{record-stored}
use Rattle.outbox.proofs.writer.put_record.Goals as goal

pub copy-requires : goal.copy-requires
copy-requires c = simp length-set (omega arith)

pub shape_of-buffer : goal.shape_of-buffer
shape_of-buffer c =
    c.copy.auto.out ∙ length-set c.put_length.new.buffer (c.args.at + c.width-width.result) c.args.stream ∙ c.put_length.auto.buffer

pub returns : goal.returns
returns c =
    c.copy.ensures
    ∙ rw (c.put_length.ensures, c.width-width.ensures) (record-stored (format_for c.args.version) c.args.stream c.args.payload.now c.args.buffer.now c.args.at)
