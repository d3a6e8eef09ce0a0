-- A folder that went from its own, with the counts put, is the step of Delete.
use Rattle.std.proofs.Common.{◌≡◌, ℕ, ◌-◌, List, sym, ◌∙◌, ap, subst}
use Rattle.hfs_fields.specs.declared.key.CatKey.{CatKey}
use Rattle.hfs_fields.specs.declared.dir_record.DirRecord.{DirRecord}
use Rattle.hfs_fields.specs.declared.mdb.Mdb.{Mdb}
use Rattle.hfs_btree.specs.Tree.{Store}
use Rattle.hfs_model.specs.Choices.{to_delete}
use Rattle.hfs_catalog.specs.Records.{Catalog}
use Rattle.hfs_catalog.specs.Tree.{catalog_of}
use Rattle.hfs_check.specs.Parts.{Blocks, mdb_in, catalog_nodes, catalog_in}
use Rattle.hfs_check.specs.Sound.{AreBlocksSound}
use Rattle.hfs_check.specs.VolumeOf.{volume_in}
use Rattle.hfs_record_edits.specs.OnBlocks.{HasTree}
use Rattle.hfs_record_edits.proofs.PlaceLaws.{DeleteLeavesFolder}
use Rattle.hfs_record_edits.specs.RemovalLaws.{without_folder}
use Rattle.hfs_record_edits.proofs.RemovalLaws.{HasDroppedItem, DeleteFolderMakes}
use Rattle.hfs_record_edits.proofs.SettingLaws.{ChoiceStands}
use Rattle.hfs_items.proofs.FolderLemmas.{found_with}
use Rattle.hfs_call_patches.specs.CatalogPatch.{HasCatalog}
use Rattle.hfs_call_patches.specs.Deleting.{IsParent, ItemDropped, MakesFolderDeletion}
use Rattle.hfs_call_patches.specs.Settings.{IsFolderChoice}
use Rattle.hfs_call_patches.proofs.FromFolder.{dropped_by, folder_id}

-- the ID of the folder that is chosen is that of its record
pub chosen_id : (old : Blocks) (dir : ℕ) (name : List ℕ) (key : CatKey) (folder : DirRecord) (ch : IsFolderChoice old (to_delete (volume_in old) dir name) key folder) → ch.choice.id ≡ folder.id
chosen_id old dir name key folder ch = folder_id (catalog_in old) ch.choice.id ch.of folder (found_with (catalog_in old) ch.choice.id ch.of ch.choice.was).same ch.is ch.own_folder

module _ (law : DeleteFolderMakes) (stands : ChoiceStands) (folders : DeleteLeavesFolder) (total dir now valence : ℕ) (key parent : CatKey) (folder : DirRecord) (mdb counts : Mdb) (old new : Blocks)
    (h : AreBlocksSound total old) (p : IsParent (catalog_in old) dir parent valence) (opened final : Store) (is : opened ≡ catalog_nodes old)
    (d : ItemDropped key folder.id parent (valence - 1) now opened final) (own : mdb ≡ mdb_in old) (with : counts ≡ without_folder dir now mdb) where
  pub folder_gone : HasCatalog counts (catalog_of final) old new → MakesFolderDeletion dir key folder now old new
  folder_gone made name ch =
      let went = dropped_by stands folders total dir folder.id name key parent valence ch.of old h ch.choice ch.own_key (chosen_id old dir name key folder ch) p opened is now final d in
      law total now dir name ch.of p.of old new h ch.choice (record {
        was = ch.is;
        dropped = subst (λ (k : Catalog). HasDroppedItem ch.choice.id dir ch.of p.of now (catalog_in old) k) (sym made.content) went;
        tree = subst (λ (m : Mdb). HasTree m old new) (with ∙ ap (without_folder dir now) own) made.tree;
      })
