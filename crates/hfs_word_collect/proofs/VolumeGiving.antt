-- The rows of a volume, by what its image was found to be.
use Rattle.std.proofs.Common.{◌≡◌, ◌∙◌, ℕ, ◌/◌, Bool, List, [], ◌∷◌, ◌++◌, length, append-nil, append_assoc, Option, Some, None, ap, sym, subst}
use Rattle.hfs_fields.specs.declared.mdb.Mdb.{Mdb}
use Rattle.hfs_model.specs.Children.{entries_of}
use Rattle.hfs_check.specs.declared.mount_fault.MountFault.{MountFault}
use Rattle.hfs_blocks.specs.Blocks.{block_at}
use Rattle.hfs_check.specs.Faults.{fault_of}
use Rattle.hfs_check.specs.Parts.{mdb_in}
use Rattle.hfs_check.specs.VolumeOf.{volume_of}
use Rattle.hfs_image.specs.declared.opening.NeededVolume.{NeededVolume}
use Rattle.hfs_image.specs.Seen.{IsOpenedBy}
use Rattle.hfs_image.proofs.LawsProved.{gathered_is_enough}
use Rattle.hfs_database.specs.declared.value.Table.TheVariants.{Volume}
use Rattle.hfs_database.specs.Taken.{TakenRow, row_of, IsBeginning}
use Rattle.hfs_remains_forks.specs.declared.finds.Finds.{Finds}
use Rattle.hfs_remains_forks.specs.Finds.{found_directory}
use Rattle.hfs_word_collect.specs.declared.places.VolumePlace.{VolumePlace}
use Rattle.hfs_word_collect.specs.Items.{item_rows}
use Rattle.hfs_word_collect.specs.Refused.{rows_found}
use Rattle.hfs_word_collect.specs.Remains.{remains_rows_by}
use Rattle.hfs_word_collect.specs.Volumes.{fault_rows, lost_rows, rows_by_directory, volume_rows, volume_values}

-- ---- the directory

-- that of an opened volume is the image's
pub opened_directory : (bytes : List ℕ) (volume : NeededVolume) → IsOpenedBy volume bytes → volume.sound.mdb ≡ mdb_in (block_at bytes)
opened_directory bytes volume opened =
    opened.directory ∙ sym ((gathered_is_enough (length bytes / 512) bytes volume.read opened.needed opened.of).held opened.sound).directory

-- ---- the rows

module _ (bytes : List ℕ) (taken : Bool) (place : VolumePlace) (Fact : List TakenRow → Type 0) where
  -- of a sound volume
  pub sound_given : (mdb : Mdb) → fault_of bytes ≡ None → mdb ≡ mdb_in (block_at bytes)
      → Fact (row_of Volume (volume_values place None (Some mdb)) ∷ item_rows taken (entries_of (volume_of bytes))) → Fact (volume_rows taken place bytes)
  unfolding volume_rows fault_rows
  sound_given mdb none is given =
      subst Fact (ap (λ (block : Mdb). row_of Volume (volume_values place None (Some block)) ∷ item_rows taken (entries_of (volume_of bytes))) is
      ∙ ap (λ (fault : Option MountFault). fault_rows taken place fault bytes) (sym none)) given

  module _ (why : MountFault) where
    -- of a refused one
    pub refused_given : fault_of bytes ≡ Some why → Fact (fault_rows taken place (Some why) bytes) → Fact (volume_rows taken place bytes)
    unfolding volume_rows
    refused_given is given = subst Fact (ap (λ (fault : Option MountFault). fault_rows taken place fault bytes) (sym is)) given

    -- of the one that is lost in a file
    pub lost_given : fault_of bytes ≡ Some why → Fact (rows_by_directory taken place why (found_directory bytes) bytes) → Fact (lost_rows taken place (fault_of bytes) bytes)
    lost_given is given = subst Fact (ap (λ (fault : Option MountFault). lost_rows taken place fault bytes) (sym is)) given

    -- by the directory that was found
    pub found_given : (finds : Finds) → found_directory bytes ≡ Some finds.mdb → Fact (rows_found taken place why finds bytes) → Fact (fault_rows taken place (Some why) bytes)
    unfolding fault_rows
    found_given finds is given = subst Fact (λ i. row_of Volume (volume_values place (Some why) (sym is i)) ∷ remains_rows_by taken bytes (sym is i)) given

    pub found_where : (finds : Finds) → found_directory bytes ≡ Some finds.mdb → Fact (rows_found taken place why finds bytes) → Fact (rows_by_directory taken place why (found_directory bytes) bytes)
    unfolding rows_by_directory
    found_where finds is given =
        subst Fact ((λ i. row_of Volume (volume_values place (Some why) (Some finds.mdb)) ∷ remains_rows_by taken bytes (sym is i))
        ∙ ap (λ (directory : Option Mdb). rows_by_directory taken place why directory bytes) (sym is)) given

    -- where there is none
    pub unfound_given : found_directory bytes ≡ None → Fact (row_of Volume (volume_values place (Some why) None) ∷ []) → Fact (fault_rows taken place (Some why) bytes)
    unfolding fault_rows
    unfound_given is given = subst Fact (λ i. row_of Volume (volume_values place (Some why) (sym is i)) ∷ remains_rows_by taken bytes (sym is i)) given

    pub unfound_where : found_directory bytes ≡ None → Fact [] → Fact (rows_by_directory taken place why (found_directory bytes) bytes)
    unfolding rows_by_directory
    unfound_where is given = subst Fact (ap (λ (directory : Option Mdb). rows_by_directory taken place why directory bytes) (sym is)) given

-- nothing was given of a sound file
pub lost_sound : (bytes : List ℕ) (taken : Bool) (place : VolumePlace) (old new : List TakenRow) → fault_of bytes ≡ None → new ≡ old → new ≡ old ++ lost_rows taken place (fault_of bytes) bytes
lost_sound bytes taken place old new none same =
    same ∙ sym (append-nil old) ∙ ap (λ (fault : Option MountFault). old ++ lost_rows taken place fault bytes) (sym none)

-- ---- beginnings

pub begins_same : (old new rows : List TakenRow) → new ≡ old → IsBeginning new (old ++ rows)
begins_same old new rows same = record { rest = rows; all_is = ap (λ (front : List TakenRow). front ++ rows) same }

-- a row, and then those behind it
pub row_first : (row : TakenRow) (rows old mid new : List TakenRow) → mid ≡ old ++ row ∷ [] → new ≡ mid ++ rows → new ≡ old ++ row ∷ rows
row_first row rows old mid new first behind = behind ∙ ap (λ (front : List TakenRow). front ++ rows) first ∙ append_assoc old (row ∷ []) rows

-- or a beginning of them
pub row_begins : (row : TakenRow) (rows old mid new : List TakenRow) → mid ≡ old ++ row ∷ [] → IsBeginning new (mid ++ rows) → IsBeginning new (old ++ row ∷ rows)
row_begins row rows old mid new first behind =
    subst (IsBeginning new) (ap (λ (front : List TakenRow). front ++ rows) first ∙ append_assoc old (row ∷ []) rows) behind
