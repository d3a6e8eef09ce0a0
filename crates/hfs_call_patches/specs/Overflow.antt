-- The extents tree over a patch, in which a fork got or lost blocks.
use Rattle.std.specs.Prelude.{◌≡◌, ℕ, List, Result}
use Rattle.std.specs.Result.{MatchResult}
use Rattle.std.specs.List.{flat_map}
use Rattle.hfs_fields.specs.declared.extent.Extent.{Extent}
use Rattle.hfs_blocks.specs.declared.run.Run.{Run}
use Rattle.hfs_blocks.specs.Blocks.{run_of}
use Rattle.hfs_blocks.specs.Layers.{Numbered}
use Rattle.hfs_btree_edits.specs.Files.{beside}
use Rattle.hfs_space.specs.declared.fork_kind.ForkKind.{ForkKind}
use Rattle.hfs_space.specs.Extents.{fork_byte}
use Rattle.hfs_space.specs.TreeKeys.{extents_through}
use Rattle.hfs_record_edits.specs.Growing.{records_coming, HasGrown, IsWantOfNodes}
use Rattle.hfs_record_edits.specs.Shortening.{HasShortened}
use Rattle.hfs_record_edits.specs.declared.growing.NodesWanted.{NodesWanted}
use Rattle.hfs_call_patches.specs.Patches.{patched, patched_nodes}
use Rattle.hfs_call_patches.specs.declared.overflow.Lengthened.{Lengthened}
use Rattle.hfs_call_patches.specs.declared.overflow.Shortened.{Shortened}

-- outside the blocks of these runs, new shows the same over these blocks as old
abbrev pub KeepsBesideRuns : List Run → (ℕ → List ℕ) → Numbered → Numbered → Type 0
KeepsBesideRuns runs blocks old new = beside (flat_map run_of runs) (patched blocks new) ≡ beside (flat_map run_of runs) (patched blocks old)

-- the pieces were added to the fork; or, exactly where the tree has too few free nodes, how many it has
abbrev pub GivesGrownOver : ℕ → ForkKind → List Extent → List Extent → (ℕ → List ℕ) → List Run → Numbered → Result Lengthened NodesWanted → Type 0
GivesGrownOver file fork first pieces blocks runs patch answer =
    MatchResult answer
    (λ grown. HasGrown file (fork_byte fork) first grown.first pieces (patched_nodes blocks patch runs) (patched_nodes blocks grown.patch runs))
    (IsWantOfNodes (records_coming (extents_through (patched_nodes blocks patch runs) file fork first) pieces) (patched_nodes blocks patch runs))

-- the fork has its first blocks
abbrev pub GivesShortOver : ℕ → ForkKind → List Extent → ℕ → (ℕ → List ℕ) → List Run → Numbered → Shortened → Type 0
GivesShortOver file fork first count blocks runs patch short =
    HasShortened file (fork_byte fork) first count short.fork (patched_nodes blocks patch runs) (patched_nodes blocks short.patch runs)
