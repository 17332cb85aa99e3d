use native.Mathlib.Omega.{arith}
use Rattle.classic_writer.proofs.Escaping.{rest-short, left-run}
use Rattle.classic_writer.proofs.writer.put_plain.Goals as goal

pub copy_clear-requires : goal.copy_clear-requires
copy_clear-requires c =
    omega (arith, rest-short c.args.bytes.now c.args.i c.requires.i_in_bounds, c.requires.bytes_in_bounds)

pub returns : goal.returns
returns c =
    left-run c.args.bytes.now c.args.i c.requires.i_in_bounds c.copy_clear.ensures
