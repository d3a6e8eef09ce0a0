-- The change that a call makes of a volume's blocks.
use Rattle.std.specs.Prelude.{◌≡◌, ℕ, ⊤, false, List, [], Option, Some, None, Result, IfOk}
use Rattle.std.specs.List.{flat_map}
use Rattle.hfs_fields.specs.Counts.{with_counts}
use Rattle.hfs_blocks.specs.Blocks.{run_of}
use Rattle.hfs_blocks.specs.Layers.{Numbered, changes, over, AreWithin}
use Rattle.hfs_space.specs.Clearing.{patched}
use Rattle.hfs_space.specs.Zeros.{AreAmong}
use Rattle.hfs_model.specs.declared.call.Call.{Call}
use Rattle.hfs_model.specs.Replies.{success}
use Rattle.hfs_model.specs.Step.{step, is_writing}
use Rattle.hfs_check.specs.Parts.{Blocks, mdb_in}
use Rattle.hfs_check.specs.VolumeOf.{volume_in}
use Rattle.hfs_record_edits.specs.Laws.{IsSteppedBut}
use Rattle.hfs_call_patches.specs.declared.change.Change.{Change}
use Rattle.hfs_call_patches.specs.declared.change.ForkBlocks.{ForkBlocks}

-- the blocks of a fork that are written
abbrev pub written_blocks : Option ForkBlocks → List ℕ
written_blocks None = []
written_blocks (Some fork) = flat_map run_of fork.runs.items

-- the zeros of a fork, where one is written, are among so many blocks
abbrev pub AreZerosAmong : Option ForkBlocks → ℕ → Type 0
AreZerosAmong None total = ⊤
AreZerosAmong (Some fork) total = AreAmong fork.zeros total

-- a patch over these blocks, with the zeros of a fork between, where one is written
abbrev pub laid_with : Option ForkBlocks → Numbered → Blocks → Blocks
laid_with None patch old = over (changes patch) old
laid_with (Some fork) patch old = patched patch fork.zeros old

-- the blocks with the change laid over them
abbrev pub changed : Blocks → Change → Blocks
changed old change = laid_with change.written change.patch old

-- laid over the volume, it makes the call's step, with its reply; only a call that writes a fork writes a block of one
pub record IsChangeOf (c : Call) (total : ℕ) (old : Blocks) (change : Change) : Type 0 where
  pub within : AreWithin (changes change.patch) total
  pub zeros : AreZerosAmong change.written total
  pub stepped : IsSteppedBut (written_blocks change.written) c total old (changed old change)
  pub unwritten : is_writing c ≡ false → change.written ≡ None
  pub directory : mdb_in (changed old change) ≡ with_counts change.counts (mdb_in old)
  pub reply : (step (volume_in old) c).1 ≡ success change.value

-- where the result is Ok, the fact holds of these blocks and of what was made
abbrev pub Makes : {R E B : Type 0} → Result R E → (ℕ → Blocks → R → Type 0) → (B → ℕ) → (B → Blocks) → B → Type 0
Makes result Fact total blocks b = IfOk result (Fact (total b) (blocks b))
