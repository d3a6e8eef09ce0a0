-- Lemmas about the definitions of specs/Edges.antt.
use Rattle.std.specs.Prelude.{ℕ, nat_lt, List, count_by}
use Rattle.hfs_fields.specs.declared.extent.Extent.{Extent}
use Rattle.hfs_space.specs.declared.owners.Edge.{Edge}
use Rattle.hfs_space.specs.Edges.{block_at}

-- how many extents have the edge before this block
abbrev pub edges_before : Edge → List Extent → ℕ → ℕ
edges_before edge extents block = count_by (λ e. nat_lt (block_at edge e) block) extents
