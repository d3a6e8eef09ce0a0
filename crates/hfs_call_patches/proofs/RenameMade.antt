-- An item that Rename chooses makes under its new name the step of Rename.
use Rattle.std.proofs.Common.{◌≡◌, ℕ, sym, ◌∙◌, ap, subst}
use Rattle.hfs_fields.specs.declared.mdb.Mdb.{Mdb}
use Rattle.hfs_btree.specs.Tree.{Store}
use Rattle.hfs_catalog.specs.Records.{Catalog}
use Rattle.hfs_catalog.specs.Lookups.{thread_of}
use Rattle.hfs_catalog.specs.Tree.{catalog_of}
use Rattle.hfs_record_edits.specs.ItemEdits as edits
use Rattle.hfs_record_edits.specs.Swaps.{Swaps}
use Rattle.hfs_check.proofs.LawTypes.{CatalogIsSound}
use Rattle.hfs_check.specs.Parts.{Blocks, mdb_in, catalog_nodes, catalog_in}
use Rattle.hfs_check.specs.Sound.{AreBlocksSound}
use Rattle.hfs_record_edits.proofs.ChangesLaws.{led_to}
use Rattle.hfs_record_edits.specs.OnBlocks.{at_time, HasTree}
use Rattle.hfs_record_edits.specs.SettingLaws.{with_name}
use Rattle.hfs_record_edits.proofs.SettingLaws.{RenameMakes}
use Rattle.hfs_call_patches.specs.CatalogPatch.{HasCatalog}
use Rattle.hfs_call_patches.specs.declared.rekeying.Rekeying.{Rekeying}
use Rattle.hfs_call_patches.specs.Renaming.{MakesRename}
use Rattle.hfs_call_patches.proofs.Rekeys.{item_moved, thread_set, thread_value}

-- ---- the step

pub rename_made : (catalogs : CatalogIsSound) (law : RenameMakes) (total : ℕ) (old new : Blocks) (s : Store) (mdb counts : Mdb) (item : Rekeying) (now : ℕ) → AreBlocksSound total old
    → mdb ≡ mdb_in old → counts ≡ at_time now mdb → edits.ItemRekeyed item.id item.from item.to (catalog_nodes old) s → HasCatalog counts (catalog_of s) old new → MakesRename item now old new
rename_made catalogs law total old new s mdb counts item now h own at rekeyed closed dir name new_name c =
    let sound = catalogs total old h in
    let key = (with_name new_name c.of).0 in
    let next = (mdb_in old).next_id in
    law total now dir name new_name c.of old new h c.choice (record {
      second = rekeyed.between;
      item_moved = item_moved old next sound c.of c.choice.id c.choice.was item.from item.to c.own_key item.id c.own_id key c.new_key s rekeyed;
      thread_set = subst (λ (l : Catalog). Swaps (thread_of (catalog_in old) c.choice.id) (led_to c.choice.id key (thread_of (catalog_in old) c.choice.id)) rekeyed.between l) (sym closed.content) (thread_set old next sound c.of c.choice.id c.choice.was item.from item.to c.own_key item.id c.own_id key c.new_key s rekeyed);
      thread_value = thread_value old next sound c.of c.choice.id c.choice.was item.from item.to c.own_key item.id c.own_id key c.new_key s rekeyed;
      tree = subst (λ (m : Mdb). HasTree m old new) (at ∙ ap (at_time now) own) closed.tree;
    })
