-- Both forks lie in the volume.
use Rattle.hfs_blocks.specs.Blocks.{block_at, block_count}
use Rattle.hfs_fields.proofs.OutcomeLemmas.{on_ok}
use Rattle.hfs_model.specs.declared.call.Fork.TheVariants.{DataFork, ResFork}
use Rattle.hfs_check.specs.Parts.{mdb_in}
use Rattle.hfs_runs.proofs.MadeForks.{area-few, forks-within, made-forks}
use Rattle.hfs_runs.proofs.made_forks.push_forks.Goals as goal

pub push_fork-requires-clause-area : goal.push_fork-requires-clause-area
push_fork-requires-clause-area c =
    area-few (mdb_in (block_at c.args.volume.now.current)) c.args.volume.now.current c.requires.sound.len c.requires.sound.blocks.mdb.area

pub push_fork-requires-clause-extents : goal.push_fork-requires-clause-extents
push_fork-requires-clause-extents c = forks-within (block_at c.args.volume.now.current) c.args.file.now c.requires.forks DataFork

pub push_fork-requires-2-clause-area : goal.push_fork-requires-2-clause-area
push_fork-requires-2-clause-area c =
    area-few (mdb_in (block_at c.args.volume.now.current)) c.args.volume.now.current c.requires.sound.len c.requires.sound.blocks.mdb.area

pub push_fork-requires-2-clause-extents : goal.push_fork-requires-2-clause-extents
push_fork-requires-2-clause-extents c = forks-within (block_at c.args.volume.now.current) c.args.file.now c.requires.forks ResFork

pub returns : goal.returns
returns c =
    on_ok c.push_fork-2.result _ _
    (made-forks (block_at c.args.volume.now.current) c.args.file.now (block_count c.args.volume.now.current) c.args.runs.now.items c.push_fork.new.runs.items
    c.push_fork-2.new.runs.items c.requires.sound.blocks.mdb.area c.in_ok-push_fork.ensures) c.push_fork-2.ensures
