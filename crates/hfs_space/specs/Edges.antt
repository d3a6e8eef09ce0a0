-- The edges of extents: a block has as many owners as extents began up to it and did not end.
use Rattle.std.specs.Prelude.{ℕ, ◌+◌, ◌==◌, List, count_by, map}
use Rattle.hfs_fields.specs.declared.extent.Extent.{Extent}
use Rattle.hfs_space.specs.declared.owners.Edge.{Edge}
use Rattle.hfs_space.specs.declared.owners.Edge.TheVariants.{First, Behind}
use Rattle.std.specs.List.{range_with_len}

-- the first block of an extent, or the one after its last
abbrev pub block_at : Edge → Extent → ℕ
block_at First e = e.first
block_at Behind e = e.first + e.count

-- how many extents have the edge at this block
abbrev pub edge_count : Edge → List Extent → ℕ → ℕ
edge_count edge extents block = count_by (λ e. block_at edge e == block) extents

-- for each of the first n blocks, how many extents have the edge there
abbrev pub edge_counts : Edge → List Extent → ℕ → List ℕ
edge_counts edge extents n = map (edge_count edge extents) (range_with_len 0 n)
