-- How much a volume holds, by what its image was found to be.
use Rattle.std.proofs.Common.{◌≡◌, ◌∙◌, ℕ, List, [], ◌∷◌, Option, Some, None, ap, sym}
use Rattle.hfs_check.specs.declared.mount_fault.MountFault.{MountFault}
use Rattle.hfs_check.specs.Faults.{fault_of}
use Rattle.hfs_check.specs.VolumeOf.{volume_of}
use Rattle.hfs_model.specs.Children.{entries_of}
use Rattle.hfs_source.specs.declared.ranges.FoundRange.{FoundRange}
use Rattle.hfs_fields.specs.declared.mdb.Mdb.{Mdb}
use Rattle.hfs_items.specs.ToldRows.{told_rows}
use Rattle.hfs_remains_forks.specs.declared.finds.Finds.{Finds}
use Rattle.hfs_remains_forks.specs.Finds.{found_directory}
use Rattle.hfs_word_collect.specs.declared.counts.FileCounts.{FileCounts}
use Rattle.hfs_word_collect.specs.declared.counts.ImageCounts.{ImageCounts}
use Rattle.hfs_word_collect.specs.Counts.{all_volume_counts, counts_by_directory, fault_counts, file_total, files_by, lost_counts, no_files, no_volumes, refused_volume, sound_volume, volume_counts, volume_counts_from}

module _ (bytes : List ℕ) (counts : ImageCounts) where
  -- ---- a volume

  pub sound_counted : (files : ℕ) → fault_of bytes ≡ None → files ≡ file_total (told_rows (entries_of (volume_of bytes))) → counts ≡ sound_volume files → counts ≡ volume_counts bytes
  unfolding volume_counts
  sound_counted files sound told is = is ∙ ap sound_volume told ∙ ap (λ (fault : Option MountFault). fault_counts fault bytes) (sym sound)

  pub refused_counted : (why : MountFault) → fault_of bytes ≡ Some why → counts ≡ fault_counts (Some why) bytes → counts ≡ volume_counts bytes
  unfolding volume_counts
  refused_counted why refused told = told ∙ ap (λ (fault : Option MountFault). fault_counts fault bytes) (sym refused)

  -- ---- a whole file

  pub lost_sound_counted : fault_of bytes ≡ None → counts ≡ no_volumes → counts ≡ lost_counts (fault_of bytes) bytes
  lost_sound_counted sound is = is ∙ ap (λ (fault : Option MountFault). lost_counts fault bytes) (sym sound)

  pub lost_refused_counted : (why : MountFault) → fault_of bytes ≡ Some why → counts ≡ counts_by_directory (found_directory bytes) bytes → counts ≡ lost_counts (fault_of bytes) bytes
  lost_refused_counted why refused told = told ∙ ap (λ (fault : Option MountFault). lost_counts fault bytes) (sym refused)

  -- ---- what was found of a refused one

  pub found_counted : (why : MountFault) (finds : Finds) (files : FileCounts) → found_directory bytes ≡ Some finds.mdb → files ≡ files_by bytes (Some finds.mdb) → counts ≡ refused_volume files
      → counts ≡ fault_counts (Some why) bytes
  found_counted why finds files is files_are counts_are = counts_are ∙ ap refused_volume (files_are ∙ ap (files_by bytes) (sym is))

  pub unfound_counted : (why : MountFault) → found_directory bytes ≡ None → counts ≡ refused_volume no_files → counts ≡ fault_counts (Some why) bytes
  unfound_counted why is counts_are = counts_are ∙ ap (λ (directory : Option Mdb). refused_volume (files_by bytes directory)) (sym is)

  pub found_where_counted : (finds : Finds) (files : FileCounts) → found_directory bytes ≡ Some finds.mdb → files ≡ files_by bytes (Some finds.mdb) → counts ≡ refused_volume files
      → counts ≡ counts_by_directory (found_directory bytes) bytes
  found_where_counted finds files is files_are counts_are =
      counts_are ∙ ap refused_volume files_are ∙ ap (λ (directory : Option Mdb). counts_by_directory directory bytes) (sym is)

  pub unfound_where_counted : found_directory bytes ≡ None → counts ≡ no_volumes → counts ≡ counts_by_directory (found_directory bytes) bytes
  unfound_where_counted is counts_are = counts_are ∙ ap (λ (directory : Option Mdb). counts_by_directory directory bytes) (sym is)

  -- ---- all volumes of a file

  pub lost_all_counted : (ranges : List FoundRange) → ranges ≡ [] → counts ≡ lost_counts (fault_of bytes) bytes → counts ≡ all_volume_counts ranges bytes
  lost_all_counted ranges none told = told ∙ ap (λ (rs : List FoundRange). all_volume_counts rs bytes) (sym none)

  pub found_all_counted : (ranges rest : List FoundRange) (first : FoundRange) → ranges ≡ first ∷ rest → counts ≡ volume_counts_from ranges bytes → counts ≡ all_volume_counts ranges bytes
  found_all_counted ranges rest first some told =
      told ∙ ap (λ (rs : List FoundRange). volume_counts_from rs bytes) some ∙ ap (λ (rs : List FoundRange). all_volume_counts rs bytes) (sym some)
