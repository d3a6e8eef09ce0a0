-- The edits by which a fork gets other blocks, over whose blocks zeros and bytes were laid already.
use Rattle.std.specs.Prelude.{◌≡◌, ℕ, ℤ, List, length, Result, MatchResult}
use Rattle.hfs_fields.specs.declared.extent.Extent.{Extent}
use Rattle.hfs_fields.specs.declared.file_record.FileRecord.{FileRecord}
use Rattle.hfs_fields.specs.Counts.{with_counts}
use Rattle.hfs_blocks.specs.Layers.{Numbered, changes, AreWithin}
use Rattle.hfs_fields.specs.Each.{Each}
use Rattle.hfs_btree.specs.Sound.{IsOther}
use Rattle.hfs_space.specs.ForkLaws.{block_numbers}
use Rattle.hfs_record_edits.specs.Need.{HasNodesFor}
use Rattle.hfs_model.specs.declared.call.Fork.{Fork}
use Rattle.hfs_model.specs.declared.journal.Want.{Want}
use Rattle.hfs_model.specs.declared.journal.Want.TheVariants as want
use Rattle.hfs_model.specs.Volume.{Entry}
use Rattle.hfs_check.specs.Parts.{Blocks, mdb_in, extents_nodes}
use Rattle.hfs_call_patches.specs.Patches.{patched}
use Rattle.hfs_model.specs.Forks.{blocks}
use Rattle.hfs_record_edits.specs.Growing.{grown, records_coming, IsWantOfNodes}
use Rattle.hfs_record_edits.specs.declared.growing.NodesWanted.{NodesWanted}
use Rattle.hfs_call_patches.specs.Files.{fork_of}
use Rattle.hfs_call_patches.specs.Edits.{extents_of, blocks_of}
use Rattle.hfs_call_patches.specs.Laid.{AreZeros, AreWritten}
use Rattle.hfs_call_patches.specs.CallEdits.{SetsFork}
use Rattle.hfs_call_patches.specs.Found.{IsFoundFile}
use Rattle.hfs_call_patches.specs.Laying.{LaysBoth}
use Rattle.hfs_call_patches.specs.declared.choosing.FoundFile.{FoundFile}
use Rattle.hfs_call_patches.specs.declared.volume.Settled.{Settled}

-- ---- what was laid

-- besides these blocks, none has changed
abbrev pub KeepsBesideBlocks : List ℕ → Blocks → Blocks → Type 0
KeepsBesideBlocks numbers old new = (n : ℕ) → Each (IsOther n) numbers → new n ≡ old n

-- zeros and bytes were laid over these extents, as the fork needs that had this record and gets `len` bytes; these blocks were written
pub record IsLaidFor (fork : Fork) (was : FileRecord) (len : ℕ) (all : List Extent) (from count offset : ℕ) (part written : List ℕ) (old laid : Blocks) : Type 0 where
  pub are_zeros : AreZeros (mdb_in old).allocation_block_size (fork_of fork was).length (length (blocks_of old fork was)) len (blocks (mdb_in old).allocation_block_size len) offset (length part) from count
  pub lays : LaysBoth (mdb_in old) all from count offset part old laid
  pub are_written : AreWritten (block_numbers (mdb_in old) all) from count offset (length part) written

-- ---- what is edited then

-- whatever was laid so over these extents, all edits together are those of the law, wherever a call chooses the file
abbrev pub SetsLaid : FoundFile → Fork → ℕ → ℕ → List Extent → Blocks → Blocks → Blocks → Type 0
SetsLaid f fork len now all old laid new =
    (from count offset : ℕ) (part written : List ℕ) → IsLaidFor fork f.file len all from count offset part written old laid
    → (chosen : Result Entry ℤ) (is : IsFoundFile old chosen f) → SetsFork fork is.choice.of len now offset part written old new

-- the patch and the counts are right: over the blocks below, in which the fork has these extents, they make the edits of the law
pub record HasSettled (f : FoundFile) (fork : Fork) (len now : ℕ) (all : List Extent) (total : ℕ) (old below : Blocks) (laid : Numbered) (made : Settled) : Type 0 where
  pub within : AreWithin (changes made.patch) total
  pub directory : mdb_in (patched below made.patch) ≡ with_counts made.counts (mdb_in old)
  pub sets : SetsLaid f fork len now all old (patched below laid) (patched below made.patch)

-- the pieces were added to the fork, and the extents tree had nodes enough for the records that were added
pub record HasGained (f : FoundFile) (fork : Fork) (len now : ℕ) (pieces : List Extent) (total : ℕ) (old below : Blocks) (laid : Numbered) (made : Settled) : Type 0 where
  pub settled : HasSettled f fork len now (grown (extents_of old fork f.file) pieces) total old below laid made
  pub enough : HasNodesFor (records_coming (extents_of old fork f.file) pieces) (extents_nodes old)

-- the tree has too few free nodes for that, and it is said how many
pub record IsNodesWanted (f : FoundFile) (fork : Fork) (pieces : List Extent) (old : Blocks) (told : Want) : Type 0 where
  pub nodes : NodesWanted
  pub is : IsWantOfNodes (records_coming (extents_of old fork f.file) pieces) (extents_nodes old) nodes
  pub same : told ≡ want.ExtentNodes nodes.free nodes.depth

-- the one or the other
abbrev pub GivesGained : FoundFile → Fork → ℕ → ℕ → List Extent → ℕ → Blocks → Blocks → Numbered → Result Settled Want → Type 0
GivesGained f fork len now pieces total old below laid answer =
    MatchResult answer
    (λ made. HasGained f fork len now pieces total old below laid made)
    (λ told. IsNodesWanted f fork pieces old told)
