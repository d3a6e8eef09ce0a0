-- A fork of which only the first blocks stay.
use Rattle.std.specs.Prelude.{◌≡◌, ℕ, ◌≤◌, List, ◌++◌, take, drop}
use Rattle.hfs_fields.specs.declared.extent.Extent.{Extent}
use Rattle.hfs_btree.specs.Tree.{Store}
use Rattle.hfs_btree.specs.Header.{free_nodes}
use Rattle.hfs_space.specs.Extents.{block_total, extent_blocks, AreExtentsWithin, fork_extents}
use Rattle.hfs_space.specs.TreeKeys.{overflow_of}
use Rattle.hfs_record_edits.specs.Cuts.{cut, surplus}
use Rattle.hfs_record_edits.specs.Whole.{IsWhole, EditsFork}
use Rattle.hfs_record_edits.specs.declared.shortening.ShortFork.{ShortFork}

-- they are the first n blocks of these extents, except for places at the end that have none
pub record IsCutTo (n : ℕ) (was now : List Extent) : Type 0 where
  pub rest : List Extent
  pub is : now ++ rest ≡ cut n was
  pub none : block_total rest ≡ 0

-- The fork goes on with each record of it that is left, and each of these has a block. Its blocks are the first n that it had, and the
-- others are the surplus.
pub record HasShortened (file fork : ℕ) (first : List Extent) (n : ℕ) (short : ShortFork) (old new : Store) : Type 0 where
  pub edits : EditsFork file fork old new
  pub whole : IsWhole file fork short.first new
  pub now : short.first ≡ cut n first
  pub extents : IsCutTo n (fork_extents (overflow_of old) file fork first) (fork_extents (overflow_of new) file fork short.first)
  pub blocks : extent_blocks (fork_extents (overflow_of new) file fork short.first) ≡ take n (extent_blocks (fork_extents (overflow_of old) file fork first))
  pub lost : extent_blocks short.surplus.items ≡ drop n (extent_blocks (fork_extents (overflow_of old) file fork first))
  pub rest : short.surplus.items ≡ surplus n (fork_extents (overflow_of old) file fork first)
  pub within : (m : ℕ) → AreExtentsWithin m (fork_extents (overflow_of old) file fork first) → AreExtentsWithin m short.surplus.items
  pub free : free_nodes old ≤ free_nodes new
