-- The node is the block that stands as far in the run as the node behind the run's first.
use Rattle.std.proofs.Common.{sym}
use Rattle.hfs_blocks.specs.declared.run.Run.{Run}
use Rattle.hfs_blocks.proofs.FileRuns.{block-is}
use Rattle.hfs_blocks.proofs.run.block_of.Goals as goal

abbrev none : Run
none = record { first = 0; count = 0; before = 0 }

pub returns-clause-number : goal.returns-clause-number
returns-clause-number c =
    sym (block-is c.args.runs.now c.args.n c.place_of.result none c.requires.small.counted c.place_of.ensures.within (c.place_of.ensures.begins none) (c.place_of.ensures.ends none))
