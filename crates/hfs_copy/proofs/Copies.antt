-- What was read, with zeros elsewhere, as a copy of the image.
use Rattle.std.proofs.Common.{◌≡◌, ℕ, ◌/◌, ◌<◌, List, [], ◌∷◌, length, Option, Some, None, IsSome, refl, sym, ap, subst, ◌∙◌, true≢false}
use Rattle.hfs_blocks.specs.Blocks.{block_at, block_count}
use Rattle.hfs_blocks.specs.Layers.{Numbered, changes, AreWithin}
use Rattle.hfs_check.specs.declared.trees.VolumeTrees.{VolumeTrees}
use Rattle.hfs_check.specs.Parts.{mdb_in}
use Rattle.hfs_check.specs.Sound.{IsImageLength, AreBlocksSound, IsSound}
use Rattle.hfs_check.specs.Trees.{HasTrees, HasTreesOf}
use Rattle.hfs_image.specs.Needed.{AgreeOn}
use Rattle.hfs_source.specs.Sparse.{sparse, HasEach, IsOf}
use Rattle.hfs_source.proofs.SparseLemmas.{each-of}
use Rattle.hfs_volume.specs.Image.{copy_of}
use Rattle.hfs_volume.proofs.CopyLemmas.{length-copy, block-copy}
use Rattle.hfs_copy.specs.Working.{working_blocks, IsWorkingCopy, HasWorking}
use Rattle.hfs_copy.proofs.SameWork as work
use Rattle.hfs_copy.proofs.SameTrees.{trees-same}

module _ (read : Numbered) (len : ℕ) (within : AreWithin (changes read) (len / 512)) where
  abbrev copy : List ℕ
  copy = copy_of read len

  long : length copy ≡ len
  long = length-copy read len within

  -- a block that was read
  read-block : (n : ℕ) → IsSome (changes read n) → block_at copy n ≡ sparse read n
  read-block n some = block-copy read len within n (by (changes read n) refl some)
    where
      by : (o : Option (List ℕ)) → changes read n ≡ o → IsSome o → n < len / 512
      by None e some = absurd (true≢false (sym some))
      by (Some b) e some = (within n b e).0

  each-copy : (numbers : List ℕ) → HasEach read numbers → AgreeOn numbers (sparse read) (block_at copy)
  each-copy [] h = tt
  each-copy (n ∷ numbers) h = (read-block n h.0, each-copy numbers h.1)

  pub each-image : (image : List ℕ) → IsOf image read → (numbers : List ℕ) → HasEach read numbers → AgreeOn numbers (block_at copy) (block_at image)
  each-image image of [] h = tt
  each-image image of (n ∷ numbers) h = ((each-of image read of (n ∷ []) (h.0, tt)).0 ∙ sym (read-block n h.0), each-image image of numbers h.1)

  module _ (has : HasWorking (len / 512) read) (sound : AreBlocksSound (len / 512) (sparse read)) (right : IsImageLength len) where
    agree : AgreeOn (working_blocks (len / 512) (sparse read)) (sparse read) (block_at copy)
    agree = each-copy (working_blocks (len / 512) (sparse read)) has

    pub copy-sound : IsSound copy
    copy-sound = record {
      len = subst IsImageLength (sym long) right;
      blocks = subst (λ (n : ℕ). AreBlocksSound (n / 512) (block_at copy)) (sym long)
          (work.sound-is (len / 512) (sparse read) (block_at copy) agree sound);
    }

    pub places : working_blocks (block_count copy) (block_at copy) ≡ working_blocks (len / 512) (sparse read)
    places =
        ap (λ (n : ℕ). working_blocks (n / 512) (block_at copy)) long ∙ work.working-is (len / 512) (sparse read) (block_at copy) agree

    -- the trees lie where they were found
    pub directory-copy : mdb_in (block_at copy) ≡ mdb_in (sparse read)
    directory-copy = work.mdb-is (len / 512) (sparse read) (block_at copy) agree

    pub trees-copy : (trees : VolumeTrees) → HasTrees (len / 512) (sparse read) trees → HasTreesOf copy trees
    trees-copy trees are =
        subst (λ (n : ℕ). HasTrees (n / 512) (block_at copy) trees) (sym long)
        (trees-same (len / 512) (sparse read) (block_at copy) trees directory-copy (work.file-is (len / 512) (sparse read) (block_at copy) agree) are)

    pub is-copy : (image : List ℕ) → length image ≡ len → IsOf image read → IsWorkingCopy copy image
    is-copy image whole of = record {
      sound = copy-sound;
      len = whole ∙ sym long;
      same = subst (λ (numbers : List ℕ). AgreeOn numbers (block_at copy) (block_at image)) (sym places)
          (each-image image of (working_blocks (len / 512) (sparse read)) has);
    }
