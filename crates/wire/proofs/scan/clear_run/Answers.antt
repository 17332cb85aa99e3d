use Rattle.wire.proofs.scan.clear_run.Goals as goal

pub clear_from-requires : goal.clear_from-requires
clear_from-requires c = c.clear_blocks.ensures

pub returns : goal.returns
returns c = c.clear_from.ensures
