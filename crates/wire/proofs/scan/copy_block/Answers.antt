use mathlib.Core.Path.{ap, ◌∙◌}
use lib.ListN.{replicate}
use lib.Seq.{sets}
use Rattle.wire.proofs.Stores.{sets-all}
use Rattle.wire.proofs.scan.copy_block.Goals as goal

pub returns : goal.returns
returns c =
    c.copy-2.ensures ∙ ap (sets c.args.out.now c.args.at) (sets-all (replicate 16 0) c.args.run.now c.copy.ensures c.requires.0)
