-- Two folders whose valences are set, one after the other.
use Rattle.std.specs.Prelude.{◌≡◌, ℕ, ◌+◌, ◌-◌, true, [], ◌∷◌, Some}
use Rattle.hfs_fields.specs.Records.{is_dir, dir_record_of}
use Rattle.hfs_fields.specs.RecordForms.{IsDirRecordValue}
use Rattle.hfs_btree.specs.Tree.{Store}
use Rattle.hfs_catalog.specs.Records.{Record, Catalog}
use Rattle.hfs_catalog.specs.Tree.{catalog_of}
use Rattle.hfs_record_edits.specs.Keeps.{KeepsCatalog}
use Rattle.hfs_record_edits.specs.Swaps.{Swaps}
use Rattle.hfs_record_edits.specs.Changes.{with_children, folder_with}
use Rattle.hfs_record_edits.specs.PlaceLaws.{BothStand}
use Rattle.hfs_call_patches.specs.declared.valences.FolderPlace.{FolderPlace}

-- the records of two folders are in these places
pub record StandAt (left entered : FolderPlace) (catalog : Catalog) : Type 0 where
  pub first : Record
  pub second : Record
  pub both : BothStand first second catalog
  pub first_key : first.0 ≡ left.key
  pub second_key : second.0 ≡ entered.key
  pub first_dir : is_dir first.1 ≡ true
  pub second_dir : is_dir second.1 ≡ true

-- these records of them have one child fewer and one more, and this moment
pub record FoldersSet (r1 r2 : Record) (fewer more now : ℕ) (old new : Catalog) : Type 0 where
  pub third : Catalog
  pub first_set : Swaps (Some r1) (Some (folder_with fewer now r1)) old third
  pub second_set : Swaps (Some r2) (Some (folder_with more now r2)) third new
  pub first_value : IsDirRecordValue (with_children fewer now (dir_record_of r1.1))
  pub second_value : IsDirRecordValue (with_children more now (dir_record_of r2.1))

-- whatever records are there
pub record ValencesSet (left entered : FolderPlace) (now : ℕ) (old new : Store) : Type 0 where
  pub keeps : KeepsCatalog (entered.key ∷ left.key ∷ []) old new
  pub set : (r1 r2 : Record) → BothStand r1 r2 (catalog_of old) → r1.0 ≡ left.key → r2.0 ≡ entered.key
      → FoldersSet r1 r2 (left.valence - 1) (entered.valence + 1) now (catalog_of old) (catalog_of new)
