-- What of a volume stays as it was, whatever calls change it.
use Rattle.std.specs.Prelude.{◌≡◌, ℕ, ◌*◌, ◌<◌, ◌≤◌, Bool, List, [], ◌∷◌, ◌++◌, length, take}
use Rattle.std.specs.List.{range_with_len}
use Rattle.hfs_fields.specs.declared.mdb.Mdb.{Mdb}
use Rattle.hfs_fields.specs.declared.extent.Extent.{Extent}
use Rattle.hfs_fields.specs.Counts.{SameBesideCounts}
use Rattle.hfs_fields.specs.Each.{Each}
use Rattle.hfs_btree.specs.Tree.{Store}
use Rattle.hfs_btree.specs.Header.{header_in}
use Rattle.hfs_blocks.specs.Blocks.{block_at}
use Rattle.hfs_btree.specs.Sound.{IsOther, KeepsFrame}
use Rattle.hfs_space.specs.Bitmap.{bitmap_len}
use Rattle.hfs_space.specs.ForkLaws.{block_numbers}
use Rattle.hfs_space.specs.Owners.{is_stray_block}
use Rattle.hfs_space.specs.TreeKeys.{ext_keys}
use Rattle.hfs_catalog.specs.Tree.{cat_keys}
use Rattle.hfs_check.specs.Parts.{Blocks, mdb_in, extents_nodes, catalog_extents, catalog_nodes, owned_in, is_marked_in}
use Rattle.hfs_check.specs.Sound.{IsSound}

-- ---- the blocks that calls change

abbrev pub bitmap_blocks : Mdb → List ℕ
bitmap_blocks mdb = range_with_len mdb.bitmap_start (bitmap_len mdb.allocation_blocks)

-- the blocks of a tree's nodes in a file with these extents; the file may have more blocks, which are no nodes
abbrev pub node_blocks : Mdb → List Extent → Store → List ℕ
node_blocks mdb extents nodes = take (header_in nodes).nodes (block_numbers mdb extents)

-- the master directory block, the bitmap, and the nodes of both trees
unfoldable pub changing_blocks : Blocks → List ℕ
changing_blocks blocks =
    2 ∷ bitmap_blocks (mdb_in blocks) ++ node_blocks (mdb_in blocks) (mdb_in blocks).extents_file (extents_nodes blocks)
    ++ node_blocks (mdb_in blocks) (catalog_extents blocks) (catalog_nodes blocks)

-- no call changes this block
abbrev pub IsBeside : Blocks → ℕ → Type 0
IsBeside blocks n = Each (IsOther n) (changing_blocks blocks)

-- ---- what stays in them

-- bit i of the bitmap's blocks is of no allocation block
pub record IsSpareBit (mdb : Mdb) (i : ℕ) : Type 0 where
  pub past : mdb.allocation_blocks ≤ i
  pub within : i < 4096 * bitmap_len mdb.allocation_blocks

-- allocation block b is marked, and nobody owns it
abbrev pub is_stray_in : Blocks → ℕ → Bool
is_stray_in blocks b = is_stray_block blocks (mdb_in blocks) (owned_in blocks) b

-- ---- the whole

-- none of these blocks is this one, and no other call changes it
abbrev pub IsBesideAll : List ℕ → Blocks → ℕ → Type 0
IsBesideAll written blocks n = Each (IsOther n) (written ++ changing_blocks blocks)

-- all stays that calls leave, except for these blocks, which calls wrote
pub record KeepsBut (written : List ℕ) (old new : Blocks) : Type 0 where
  -- of the master directory block all but the counts
  pub mdb : SameBesideCounts (old 2) (new 2)
  pub bits : (i : ℕ) → IsSpareBit (mdb_in old) i → is_marked_in new i ≡ is_marked_in old i
  pub others : (n : ℕ) → IsBesideAll written old n → new n ≡ old n
  pub extents : KeepsFrame ext_keys (extents_nodes old) (extents_nodes new)
  pub catalog : KeepsFrame cat_keys (catalog_nodes old) (catalog_nodes new)
  pub catalog_file : catalog_extents new ≡ catalog_extents old
  pub stray : (b : ℕ) → b < (mdb_in old).allocation_blocks → is_stray_in new b ≡ is_stray_in old b

-- trees, bitmap, counts and valences agree, and the rest is the base's, except for these blocks. What follows the last whole block counts
-- as a shorter block, so `others` says that it stays, too.
pub record AgreesBut (written : List ℕ) (base image : List ℕ) : Type 0 where
  pub sound : IsSound image
  pub len : length image ≡ length base
  pub kept : KeepsBut written (block_at base) (block_at image)

-- of calls that write no block of a fork
abbrev pub Agrees : List ℕ → List ℕ → Type 0
Agrees base image = AgreesBut [] base image
