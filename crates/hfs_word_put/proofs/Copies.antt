-- What was read of an image is a copy of each that has it.
use Rattle.std.proofs.Common.{◌≡◌, ◌≤◌, ℕ, ◌/◌, List, length, Some, None, sym, ◌∙◌, ap, subst}
use Rattle.hfs_blocks.specs.Blocks.{block_count}
use Rattle.hfs_check.specs.Sound.{IsImageLength, IsSound}
use Rattle.hfs_source.specs.Seen.{IsSeen}
use Rattle.hfs_copy.specs.Opened.{IsRunnable}
use Rattle.hfs_source.specs.Sparse.{IsOf}
use Rattle.hfs_volume.specs.Image.{copy_of}
use Rattle.hfs_volume.proofs.CopyLemmas.{length-copy}
use Rattle.hfs_copy.specs.declared.opening.WorkingVolume.{WorkingVolume}
use Rattle.hfs_copy.specs.Opened.{IsWorkingOf}
use Rattle.hfs_copy.proofs.ReadWork.{opened-copy}
use Rattle.hfs_word_put.specs.Put.{IsCopyOfEach}

module _ (Holds : List ℕ → Type 0) (len : ℕ) (working : WorkingVolume) (is : IsRunnable Holds len working) where
  right : IsImageLength len
  right = subst IsImageLength (length-copy working.read len is.is.within) is.sound.len

  -- an image that has what was read, as the one whose bytes are known
  working-of : (image : List ℕ) → IsOf image working.read → IsWorkingOf (Some image) (len / 512) working
  working-of image of = record {
    whole = is.is.whole;
    working = is.is.working;
    within = is.is.within;
    of = of;
    sound = is.is.sound;
    directory = is.is.directory;
    trees = is.is.trees;
  }

  read-copy : IsCopyOfEach Holds len (copy_of working.read len)
  read-copy = record {
    small = is.small;
    count = ap (λ (n : ℕ). n / 512) (length-copy working.read len is.is.within);
    same = λ image holds long. opened-copy (Some image) len right working (working-of image (is.seen image holds)) long;
  }

pub copy_of_each : (Holds : List ℕ → Type 0) (len : ℕ) (working : WorkingVolume) (base : List ℕ) → base ≡ copy_of working.read len → IsRunnable Holds len working
    → IsCopyOfEach Holds len base
copy_of_each Holds len working base e is = subst (IsCopyOfEach Holds len) (sym e) (read-copy Holds len working is)

-- what was read of an image that was opened is a volume on which calls can be made
pub runnable : (Holds : List ℕ → Type 0) (len : ℕ) (working : WorkingVolume) → IsWorkingOf None (len / 512) working → IsSeen Holds working.read
    → IsSound (copy_of working.read len) → IsRunnable Holds len working
runnable Holds len working is seen sound = record {
  is = is;
  seen = seen;
  sound = sound;
  small = subst (λ (n : ℕ). n ≤ 2147483648) (length-copy working.read len is.within) sound.len.most;
}
