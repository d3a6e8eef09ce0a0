-- What mounting finds out of a volume, and its calls keep.
use Rattle.std.specs.Prelude.{◌≡◌, List}
use Rattle.std.specs.List.{flat_map}
use Rattle.hfs_fields.specs.declared.file_record.FileRecord.{FileRecord}
use Rattle.hfs_fields.specs.declared.file_record.ForkRecord.{ForkRecord}
use Rattle.hfs_fields.specs.declared.mdb.Mdb.{Mdb}
use Rattle.hfs_blocks.specs.declared.run.Run.{Run}
use Rattle.hfs_blocks.specs.Blocks.{block_at, block_count, run_of, nodes_in, AreRunsWithin}
use Rattle.hfs_fields.specs.Each.{Each}
use Rattle.hfs_model.specs.declared.call.Fork.{Fork}
use Rattle.hfs_model.specs.declared.call.Fork.TheVariants.{DataFork, ResFork}
use Rattle.hfs_space.specs.declared.fork_kind.ForkKind.{ForkKind}
use Rattle.hfs_space.specs.declared.fork_kind.ForkKind.TheVariants.{Data, Resource}
use Rattle.hfs_space.specs.Owners.{forks_of_file}
use Rattle.hfs_space.specs.Sound.{IsForkSound}
use Rattle.hfs_check.specs.Parts.{Blocks, mdb_in, extents_blocks, extents_nodes, overflow_in, catalog_blocks, catalog_nodes}
use Rattle.hfs_check.specs.Agree.{AgreesBut}
use Rattle.hfs_check.specs.Sound.{IsSound}
use Rattle.hfs_volume.specs.Image.{ImageValue}

-- the base is sound, and the current image agrees with it except for the blocks of forks that were written, and so is sound, too; this is its master directory block, and in these runs of blocks, which are those
-- with the right numbers, lie the nodes of its extents tree and of its catalog
pub record IsMounted (image : ImageValue) (mdb : Mdb) (extents catalog : List Run) : Type 0 where
  pub base : IsSound image.base
  pub agrees : AgreesBut image.written image.base image.current
  pub directory : mdb ≡ mdb_in (block_at image.current)
  pub extents_within : AreRunsWithin extents (block_count image.current)
  pub extents_blocks : flat_map run_of extents ≡ extents_blocks (block_at image.current)
  pub extents_nodes : nodes_in (block_at image.current) extents ≡ extents_nodes (block_at image.current)
  pub catalog_within : AreRunsWithin catalog (block_count image.current)
  pub catalog_blocks : flat_map run_of catalog ≡ catalog_blocks (block_at image.current)
  pub catalog_nodes : nodes_in (block_at image.current) catalog ≡ catalog_nodes (block_at image.current)

-- the extents of both forks of a file lie in the volume, and have room for its bytes
abbrev pub AreForksIn : Blocks → FileRecord → Type 0
AreForksIn blocks file = Each (IsForkSound (mdb_in blocks) (overflow_in blocks)) (forks_of_file file)

-- what a file's record says about one of its forks
abbrev pub fork_record : Fork → FileRecord → ForkKind × ForkRecord
fork_record DataFork file = (Data, file.«data»)
fork_record ResFork file = (Resource, file.resource)
