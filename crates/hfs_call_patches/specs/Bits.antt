-- The bits of extents' blocks, over a patch.
use Rattle.std.specs.Prelude.{ℕ, List}
use Rattle.hfs_fields.specs.declared.extent.Extent.{Extent}
use Rattle.hfs_fields.specs.declared.mdb.Mdb.{Mdb}
use Rattle.hfs_blocks.specs.Layers.{Numbered}
use Rattle.hfs_space.specs.Claimed.{HasClaimedOver}
use Rattle.hfs_record_edits.specs.Released.{HasReleasedOver}

-- over these blocks, new shows the extents' blocks marked
abbrev pub ClaimsOver : (ℕ → List ℕ) → Mdb → List Extent → Numbered → Numbered → Type 0
ClaimsOver blocks mdb extents old new = HasClaimedOver blocks mdb.bitmap_start mdb.allocation_blocks extents old new

-- over these blocks, new shows the extents' blocks free
abbrev pub ReleasesOver : (ℕ → List ℕ) → Mdb → List Extent → Numbered → Numbered → Type 0
ReleasesOver blocks mdb extents old new = HasReleasedOver blocks mdb.bitmap_start mdb.allocation_blocks extents old new
