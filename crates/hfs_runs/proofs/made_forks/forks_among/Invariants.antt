-- The forks of the first records.
use Rattle.std.specs.Prelude.{take}
use Rattle.hfs_blocks.specs.Blocks.{block_at, block_count}
use Rattle.hfs_runs.specs.NamedForks.{AreForksOf, IsScriptFile}
use Rattle.hfs_runs.proofs.made_forks.forks_among.Given as goal

abbrev pub invariant-loop-entry : goal.invariant-loop-entry
invariant-loop-entry l =
    AreForksOf (block_at l.volume.current) (IsScriptFile l.files) (block_count l.volume.current) (take l.entry-index l.records) l.runs.items
