-- The bytes of a fork lie where its runs say, and are as many as its record says.
use Rattle.std.proofs.Common.{◌≡◌, ℕ, List, length, take, Option, Some, None, sym, ap, ◌∙◌}
use Rattle.std.specs.List.{flat_map}
use Rattle.hfs_fields.specs.declared.file_record.ForkRecord.{ForkRecord}
use Rattle.hfs_blocks.specs.Blocks.{block_at, run_of}
use Rattle.hfs_blocks.specs.Layers.{Numbered}
use Rattle.hfs_space.specs.declared.fork_kind.ForkKind.{ForkKind}
use Rattle.hfs_space.specs.Extents.{fork_extents, fork_byte}
use Rattle.hfs_space.proofs.ForkLengthLemmas.{length-fork_bytes}
use Rattle.hfs_check.specs.Parts.{mdb_in, overflow_in}
use Rattle.hfs_check.specs.Sound.{AreBlocksSound}
use Rattle.hfs_source.specs.Sparse.{sparse}
use Rattle.hfs_source.specs.Writing.{blocks_of}
use Rattle.hfs_image.specs.declared.fork_runs.ForkRuns.{ForkRuns}
use Rattle.hfs_image.specs.ForkRuns.{IsForkBytes, run_bytes}
use Rattle.hfs_image.specs.Forks.{AreForkRuns, HasWhole, IsForkIn, OfFork, bytes_by}
use Rattle.hfs_image.proofs.ForkBytes.{fork-of-runs}

module _ (read : Numbered) (total : ℕ) (sound : AreBlocksSound total (sparse read)) (file : ℕ) (kind : ForkKind) (fork : ForkRecord) (is : IsForkIn (sparse read) file kind fork)
    (found : ForkRuns) (lie : AreForkRuns read total file kind fork found.runs.items) (len : found.length ≡ fork.length) where
  bytes-there : (image : List ℕ) → HasWhole total image → bytes_by read image file kind fork ≡ run_bytes found image
  bytes-there image whole =
      sym (fork-of-runs (block_at image) total whole found.runs.items lie.within (mdb_in (sparse read))
      (fork_extents (overflow_in (sparse read)) file (fork_byte kind) fork.extents) fork.length lie.numbers)
      ∙ ap (λ (n : ℕ). take n (blocks_of image (flat_map run_of found.runs.items))) (sym len)

  length-there : (image : List ℕ) → HasWhole total image → length (bytes_by read image file kind fork) ≡ found.length
  length-there image whole =
      length-fork_bytes (block_at image) total whole (mdb_in (sparse read)) sound.mdb.area
      (fork_extents (overflow_in (sparse read)) file (fork_byte kind) fork.extents) fork.length sound.mdb.whole_size is.within is.room
      ∙ sym len

  pub lies-known : (known : Option (List ℕ)) → OfFork known total read file kind fork (IsForkBytes known found)
  lies-known None = tt
  lies-known (Some image) = λ whole. (bytes-there image whole, length-there image whole)
