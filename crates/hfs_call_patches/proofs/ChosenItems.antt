-- The item that a call chooses stands under its key, and has a name of an item.
use Rattle.std.proofs.Common.{ℤ, sym, subst, Result}
use Rattle.std.specs.Prelude.{◌≡◌, ℕ, IsTrue}
use Rattle.hfs_fields.specs.declared.dir_record.DirRecord.{DirRecord}
use Rattle.hfs_fields.specs.declared.file_record.FileRecord.{FileRecord}
use Rattle.hfs_fields.specs.declared.key.CatKey.{CatKey}
use Rattle.hfs_fields.specs.Names.{is_item_name}
use Rattle.hfs_fields.specs.Records.{is_dir, is_file}
use Rattle.hfs_fields.proofs.MemberLemmas.{each_in}
use Rattle.hfs_model.specs.Volume.{Entry}
use Rattle.hfs_catalog.specs.Records.{Record}
use Rattle.hfs_check.specs.Parts.{Blocks, catalog_in}
use Rattle.hfs_check.specs.Sound.{AreBlocksSound}
use Rattle.hfs_record_edits.specs.SettingLaws.{IsChoice}
use Rattle.hfs_record_edits.proofs.SettingLaws.{ChoiceStands}
use Rattle.hfs_items.proofs.FolderLemmas.{found_with}
use Rattle.hfs_call_patches.specs.Settings.{IsBody, IsFileChoice, IsFileUnder, IsFolderChoice, IsFolderUnder}

module _ (total : ℕ) (old : Blocks) (sound : AreBlocksSound total old) (chosen : Result Entry ℤ) (key : CatKey) where
  named : (r : Record) → IsChoice old chosen r → r.0 ≡ key → IsTrue (is_item_name key.name)
  named r choice own =
      let found = found_with (catalog_in old) choice.id r choice.was in
      subst (λ (k : CatKey). IsTrue (is_item_name k.name)) own (each_in _ (catalog_in old) r sound.names.records.items found.there found.item)

  module _ (file : FileRecord) (c : IsFileChoice old chosen key file) where
    pub file_named : IsTrue (is_item_name key.name)
    file_named = named c.of c.choice c.own_key

    pub file_under : ChoiceStands → IsFileUnder key (catalog_in old)
    file_under stands = subst (λ (k : CatKey). IsFileUnder k (catalog_in old)) c.own_key (subst (IsBody is_file) (sym (stands total chosen c.of old sound c.choice)) c.is)

  module _ (folder : DirRecord) (c : IsFolderChoice old chosen key folder) where
    pub folder_named : IsTrue (is_item_name key.name)
    folder_named = named c.of c.choice c.own_key

    pub folder_under : ChoiceStands → IsFolderUnder key (catalog_in old)
    folder_under stands = subst (λ (k : CatKey). IsFolderUnder k (catalog_in old)) c.own_key (subst (IsBody is_dir) (sym (stands total chosen c.of old sound c.choice)) c.is)
