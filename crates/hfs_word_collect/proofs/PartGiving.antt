-- What is given of a part of an image is given of what the part is of the picked one.
use Rattle.std.proofs.Common.{◌≡◌, ◌++◌, ◌∷◌, ℕ, Bool, List, length, Some, None, Result, Ok, Err, subst}
use Rattle.std.specs.Prelude.{IfErr, IfOk}
use Rattle.hfs_bag.specs.Parts.{IsPartOf, PartValue}
use Rattle.hfs_bag.proofs.Picking.{picked}
use Rattle.hfs_check.specs.declared.mount_fault.MountFault.{MountFault}
use Rattle.hfs_blocks.specs.Blocks.{block_at}
use Rattle.hfs_check.specs.Faults.{fault_of}
use Rattle.hfs_check.specs.Parts.{mdb_in}
use Rattle.hfs_check.specs.VolumeOf.{volume_of}
use Rattle.hfs_fields.specs.declared.mdb.Mdb.{Mdb}
use Rattle.hfs_remains_forks.specs.Finds.{found_directory}
use Rattle.hfs_remains_forks.specs.Looks.{HasFault}
use Rattle.hfs_items.specs.ToldRows.{told_rows}
use Rattle.hfs_model.specs.Children.{entries_of}
use Rattle.hfs_image.specs.Seen.{HasNoFault}
use Rattle.hfs_database.specs.declared.value.Table.TheVariants.{Volume}
use Rattle.hfs_database.specs.Taken.{TakenRow, row_of}
use Rattle.hfs_source.specs.Images.{HasLength, OfEach}
use Rattle.hfs_word_collect.specs.declared.counts.ImageCounts.{ImageCounts}
use Rattle.hfs_word_collect.specs.declared.places.VolumePlace.{VolumePlace}
use Rattle.hfs_word_collect.specs.Counts.{counts_by_directory, fault_counts, file_total, lost_counts, no_volumes, sound_volume, volume_counts}
use Rattle.hfs_word_collect.specs.Items.{item_rows}
use Rattle.hfs_word_collect.specs.Volumes.{fault_rows, lost_rows, rows_by_directory, volume_rows, volume_values}
use Rattle.hfs_word_collect.proofs.VolumeCounting.{lost_refused_counted, lost_sound_counted, refused_counted, sound_counted}
use Rattle.hfs_word_collect.proofs.VolumeGiving.{lost_given, lost_sound, refused_given, sound_given}

-- by what a look answered
pub looked_ok : {A B : Type 0} (r : Result A B) (x : A) (P : A → Type 0) → r ≡ Ok x → IfOk r P → P x
looked_ok {A = A} {B = B} r x P is p = subst (λ (o : Result A B). IfOk o P) is p

pub looked_err : {A B : Type 0} (r : Result A B) (x : B) (P : B → Type 0) → r ≡ Err x → IfErr r P → P x
looked_err {A = A} {B = B} r x P is p = subst (λ (o : Result A B). IfErr o P) is p

module _ {S : Type 0} (Holds : S → List ℕ → Type 0) (image wanted : List ℕ) (part : PartValue S) (h : Holds part.source image) (is : OfEach (IsPartOf Holds image part) (λ bytes. bytes ≡ wanted)) where
  -- ---- a volume

  pub sound_picked : (taken : Bool) (place : VolumePlace) (mdb : Mdb) (Fact : List TakenRow → Type 0) → OfEach (IsPartOf Holds image part) HasNoFault → OfEach (IsPartOf Holds image part) (λ bytes. mdb ≡ mdb_in (block_at bytes))
      → OfEach (IsPartOf Holds image part) (λ bytes. Fact (row_of Volume (volume_values place None (Some mdb)) ∷ item_rows taken (entries_of (volume_of bytes)))) → Fact (volume_rows taken place wanted)
  sound_picked taken place mdb Fact sound directory given =
      picked Holds image wanted part (λ bytes. Fact (volume_rows taken place bytes)) h is
      (λ bytes own. sound_given bytes taken place Fact mdb (sound bytes own) (directory bytes own) (given bytes own))

  pub sound_told : (files : ℕ) (counts : ImageCounts) → OfEach (IsPartOf Holds image part) HasNoFault → OfEach (IsPartOf Holds image part) (λ bytes. files ≡ file_total (told_rows (entries_of (volume_of bytes))))
      → counts ≡ sound_volume files → counts ≡ volume_counts wanted
  sound_told files counts sound told counts_are =
      picked Holds image wanted part (λ bytes. counts ≡ volume_counts bytes) h is (λ bytes own. sound_counted bytes counts files (sound bytes own) (told bytes own) counts_are)

  pub refused_picked : (taken : Bool) (place : VolumePlace) (why : MountFault) (Fact : List TakenRow → Type 0) → OfEach (IsPartOf Holds image part) (HasFault why)
      → OfEach (IsPartOf Holds image part) (λ bytes. Fact (fault_rows taken place (Some why) bytes)) → Fact (volume_rows taken place wanted)
  refused_picked taken place why Fact refused given =
      picked Holds image wanted part (λ bytes. Fact (volume_rows taken place bytes)) h is (λ bytes own. refused_given bytes taken place Fact why (refused bytes own) (given bytes own))

  pub refused_told : (why : MountFault) (counts : ImageCounts) → OfEach (IsPartOf Holds image part) (HasFault why) → OfEach (IsPartOf Holds image part) (λ bytes. counts ≡ fault_counts (Some why) bytes)
      → counts ≡ volume_counts wanted
  refused_told why counts refused told =
      picked Holds image wanted part (λ bytes. counts ≡ volume_counts bytes) h is (λ bytes own. refused_counted bytes counts why (refused bytes own) (told bytes own))

  -- ---- the one that is lost

  pub lost_long : (len : ℕ) → OfEach (IsPartOf Holds image part) (HasLength len) → length wanted ≡ len
  lost_long len long = picked Holds image wanted part (HasLength len) h is long

  pub lost_none : (taken : Bool) (place : VolumePlace) (old new : List TakenRow) → OfEach (IsPartOf Holds image part) HasNoFault → new ≡ old → new ≡ old ++ lost_rows taken place (fault_of wanted) wanted
  lost_none taken place old new sound same =
      picked Holds image wanted part (λ bytes. new ≡ old ++ lost_rows taken place (fault_of bytes) bytes) h is (λ bytes own. lost_sound bytes taken place old new (sound bytes own) same)

  pub lost_none_told : (counts : ImageCounts) → OfEach (IsPartOf Holds image part) HasNoFault → counts ≡ no_volumes → counts ≡ lost_counts (fault_of wanted) wanted
  lost_none_told counts sound none =
      picked Holds image wanted part (λ bytes. counts ≡ lost_counts (fault_of bytes) bytes) h is (λ bytes own. lost_sound_counted bytes counts (sound bytes own) none)

  pub lost_picked : (taken : Bool) (place : VolumePlace) (why : MountFault) (Fact : List TakenRow → Type 0) → OfEach (IsPartOf Holds image part) (HasFault why)
      → OfEach (IsPartOf Holds image part) (λ bytes. Fact (rows_by_directory taken place why (found_directory bytes) bytes)) → Fact (lost_rows taken place (fault_of wanted) wanted)
  lost_picked taken place why Fact refused given =
      picked Holds image wanted part (λ bytes. Fact (lost_rows taken place (fault_of bytes) bytes)) h is (λ bytes own. lost_given bytes taken place Fact why (refused bytes own) (given bytes own))

  pub lost_told : (why : MountFault) (counts : ImageCounts) → OfEach (IsPartOf Holds image part) (HasFault why)
      → OfEach (IsPartOf Holds image part) (λ bytes. counts ≡ counts_by_directory (found_directory bytes) bytes) → counts ≡ lost_counts (fault_of wanted) wanted
  lost_told why counts refused told =
      picked Holds image wanted part (λ bytes. counts ≡ lost_counts (fault_of bytes) bytes) h is (λ bytes own. lost_refused_counted bytes counts why (refused bytes own) (told bytes own))
