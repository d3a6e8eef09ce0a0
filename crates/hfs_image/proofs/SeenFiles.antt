-- What the blocks that were read tell of a file is so in each image that has them.
use Rattle.std.proofs.Common.{◌≡◌, ℕ, ◌/◌, List, length, Option, Some, Ok, Err, refl, sym, subst}
use Rattle.hfs_fields.specs.declared.file_record.FileRecord.{FileRecord}
use Rattle.hfs_blocks.specs.Blocks.{block_count}
use Rattle.hfs_model.specs.declared.call.Fork.{Fork}
use Rattle.hfs_model.specs.declared.reply.Reply.{Reply}
use Rattle.hfs_model.specs.Children.{entries_of}
use Rattle.hfs_model.specs.Reading.{get_cat_info}
use Rattle.hfs_check.proofs.LawTypes.{NoBlocksFault}
use Rattle.hfs_check.specs.Parts.{catalog_in}
use Rattle.hfs_check.specs.Sound.{AreBlocksSound}
use Rattle.hfs_check.specs.VolumeOf.{volume_of}
use Rattle.hfs_items.proofs.QueriesLaws.{RecordsAreEntries}
use Rattle.hfs_items.specs.Told.{cat_info, file_named}
use Rattle.hfs_source.specs.Sparse.{sparse}
use Rattle.hfs_image.specs.declared.opening.NeededVolume.{NeededVolume}
use Rattle.hfs_image.specs.Forks.{HasWhole, fork_by}
use Rattle.hfs_image.specs.Gathered.{HasNeeded}
use Rattle.hfs_image.specs.Opened.{IsOpenedOf}
use Rattle.hfs_image.specs.Seen.{IsSeenAs}
use Rattle.hfs_image.specs.SeenFiles.{HasFork, HasForkOf, IsReadOfEach, RefusesFork}
use Rattle.hfs_image.proofs.GatheredLaws.{GatheredIsEnough}
use Rattle.hfs_image.proofs.Named.{bytes-known, fact-known, unread-known}
use Rattle.hfs_image.proofs.ToldFiles.{told-known}

-- what was opened is read of each image that holds
pub read_of_each : (Holds : List ℕ → Type 0) (len : ℕ) (volume : NeededVolume) → IsSeenAs Holds len volume → IsReadOfEach Holds volume
read_of_each Holds len volume is = record {
  seen = is.seen;
  blocks = λ image h.
      subst (λ (n : ℕ). block_count image ≡ n) (sym is.opened.whole) (subst (λ (n : ℕ). n / 512 ≡ len / 512) (sym (is.long image h)) refl);
}

module _ (law : NoBlocksFault) (enough : GatheredIsEnough) (answers : RecordsAreEntries) (Holds : List ℕ → Type 0) (volume : NeededVolume) (known : Option (List ℕ))
    (opened : IsOpenedOf known volume.count volume) (is : IsReadOfEach Holds volume) (image : List ℕ) (holds : Holds image) (dir : ℕ) (name : List ℕ) where
  needed : HasNeeded (length image / 512) volume.read
  needed = subst (λ (n : ℕ). HasNeeded n volume.read) (sym (is.blocks image holds)) opened.needed

  sound : AreBlocksSound (length image / 512) (sparse volume.read)
  sound = subst (λ (n : ℕ). AreBlocksSound n (sparse volume.read)) (sym (is.blocks image holds)) opened.sound

  pub told-seen : (reply : Reply) → reply ≡ cat_info (catalog_in (sparse volume.read)) dir name → reply ≡ get_cat_info (entries_of (volume_of image)) dir name
  told-seen reply e = told-known law enough answers (Some image) (length image) volume.read needed (is.seen image holds) sound dir name reply e refl

  module _ (fork : Fork) where
    pub refuses-seen : (reply : Reply) → Err reply ≡ file_named (catalog_in (sparse volume.read)) dir name → RefusesFork dir name fork reply image
    refuses-seen reply found =
        unread-known law enough answers (length image) volume.read needed sound dir name fork (Some image) (is.seen image holds) reply found refl

    module _ (file : FileRecord) (found : Ok file ≡ file_named (catalog_in (sparse volume.read)) dir name) where
      pub fork-seen : (content : List ℕ) → (HasWhole volume.count image → content ≡ fork_by volume.read image file fork) → HasFork dir name fork content image
      fork-seen content own =
          bytes-known law enough answers (length image) volume.read needed sound dir name fork (Some image) (Some image) refl (is.seen image holds)
          volume.count (sym (is.blocks image holds)) file found content own refl

      pub fact-seen : (Fact : List ℕ → Type 0) → (HasWhole volume.count image → Fact (fork_by volume.read image file fork)) → HasForkOf dir name fork Fact image
      fact-seen Fact own =
          let of : (bytes : List ℕ) × HasFork dir name fork bytes image × Fact bytes =
          fact-known law enough answers (length image) volume.read needed sound dir name fork (Some image) (Some image) refl (is.seen image holds)
          volume.count (sym (is.blocks image holds)) file found Fact own refl in
          record { bytes = of.0; has = of.1; so = of.2 }
