-- An item that Rename chooses, and the step that it makes.
use Rattle.std.specs.Prelude.{ℕ, List}
use Rattle.hfs_model.specs.declared.call.Call.TheVariants as call
use Rattle.hfs_model.specs.Choices.{to_rename}
use Rattle.hfs_check.specs.Parts.{Blocks}
use Rattle.hfs_check.specs.VolumeOf.{volume_in}
use Rattle.hfs_record_edits.specs.SettingLaws.{MakesAt, with_name}
use Rattle.hfs_call_patches.specs.declared.rekeying.Rekeying.{Rekeying}
use Rattle.hfs_call_patches.specs.Rekeyings.{IsRekeyChoice}

abbrev pub IsRenameChoice : Blocks → ℕ → List ℕ → List ℕ → Rekeying → Type 0
IsRenameChoice old dir name new_name item = IsRekeyChoice old (to_rename (volume_in old) dir name new_name) (with_name new_name) item

-- Rename chooses the item in some folder, under some name, for some other one
pub record IsItemToRename (old : Blocks) (item : Rekeying) : Type 0 where
  pub dir : ℕ
  pub name : List ℕ
  pub new_name : List ℕ
  pub chosen : IsRenameChoice old dir name new_name item

-- wherever Rename chooses that item, its step was made
abbrev pub MakesRename : Rekeying → ℕ → Blocks → Blocks → Type 0
MakesRename item now old new =
    (dir : ℕ) (name new_name : List ℕ) → IsRenameChoice old dir name new_name item → MakesAt (call.Rename dir name new_name now) now old new
