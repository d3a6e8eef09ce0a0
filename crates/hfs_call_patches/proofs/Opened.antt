-- The nodes of a sound volume's catalog, as a patch of no block shows them.
use Rattle.std.proofs.Common.{◌≡◌, ℕ, List, sym, ap, ◌∙◌, subst, Option, None}
use Rattle.hfs_fields.specs.declared.key.CatKey.{CatKey}
use Rattle.hfs_fields.specs.declared.mdb.Mdb.{Mdb}
use Rattle.hfs_fields.specs.Keys.{cat_cmp}
use Rattle.hfs_fields.specs.Each.{Each}
use Rattle.hfs_btree.specs.Pairs.{lookup}
use Rattle.hfs_btree.specs.Tree.{Store}
use Rattle.hfs_btree_edits.specs.declared.seeking.RecordPlace.{RecordPlace}
use Rattle.hfs_btree_edits.specs.Edits.{with_replaced}
use Rattle.hfs_btree_edits.specs.Entries.{IsPlaceOf}
use Rattle.hfs_catalog.specs.declared.item.ItemRecord.{ItemRecord}
use Rattle.hfs_catalog.specs.Records.{Catalog}
use Rattle.hfs_catalog.specs.Lookups.{first_key, thread_of}
use Rattle.hfs_catalog.specs.Sound.{IsRecord}
use Rattle.hfs_catalog.specs.Tree.{IsCatalogTree, cat_keys, catalog_of}
use Rattle.hfs_record_edits.specs.Bodies.{item_bytes, IsItemValue}
use Rattle.hfs_record_edits.proofs.FindLemmas.{no_thread_key}
use Rattle.hfs_record_edits.specs.RecordEdits.{RecordSet}
use Rattle.hfs_record_edits.specs.Rooms.{IsInFile}
use Rattle.hfs_record_edits.specs.Roots.{HasRoot}
use Rattle.hfs_record_edits.proofs.RootLemmas.{sound_has_root}
use Rattle.hfs_check.specs.Parts.{Blocks, mdb_in, catalog_nodes, catalog_in}
use Rattle.hfs_check.specs.Sound.{AreBlocksSound}
use Rattle.hfs_call_patches.specs.CatalogPatch.{HasCatalog}
use Rattle.hfs_call_patches.specs.Settings.{HasSetItem}

module _ (old : Blocks) (s : Store) (opened : s ≡ catalog_nodes old) where
  pub tree_open : IsCatalogTree (catalog_nodes old) → IsCatalogTree s
  tree_open tree = subst IsCatalogTree (sym opened) tree

  pub place_open : (key : CatKey) (place : RecordPlace) → IsPlaceOf cat_keys (catalog_nodes old) key place → IsPlaceOf cat_keys s key place
  place_open key place is = subst (λ (nodes : Store). IsPlaceOf cat_keys nodes key place) (sym opened) is

  pub inside_open : IsInFile (catalog_nodes old) → IsInFile s
  inside_open inside = subst IsInFile (sym opened) inside

  pub content_open : catalog_of s ≡ catalog_in old
  unfolding catalog_in
  content_open = ap catalog_of opened

  -- what is said of the body under a key
  pub body_open : (P : Option (List ℕ) → Type 0) (key : CatKey) → P (lookup cat_cmp key (catalog_in old)) → P (lookup cat_cmp key (catalog_of s))
  body_open P key there = subst (λ (c : Catalog). P (lookup cat_cmp key c)) (sym content_open) there

  -- a record that was put in place of another, and the counts
  pub item_set : (key : CatKey) (item : ItemRecord) (counts : Mdb) (edited : Store) (new : Blocks) → IsItemValue item → RecordSet (key, item_bytes item) s edited → HasCatalog counts (catalog_of edited) old new
      → HasSetItem key item counts old new
  item_set key item counts edited new value set closed = record {
    value = value;
    set = record { tree = closed.tree; content = closed.content ∙ set.content ∙ ap (λ (c : Catalog). with_replaced cat_cmp key (item_bytes item) c) content_open };
  }

  module _ (total : ℕ) (h : AreBlocksSound total old) where
    pub root_open : HasRoot (catalog_of s)
    root_open = subst HasRoot (sym content_open) (sound_has_root (mdb_in old).next_id (catalog_in old) h.ids)

    pub records_open : Each IsRecord (catalog_of s)
    records_open = subst (Each IsRecord) (sym content_open) h.records

    -- no thread of an ID
    pub absent_open : (id : ℕ) → thread_of (catalog_in old) id ≡ None → lookup cat_cmp (first_key id) (catalog_of s) ≡ None
    absent_open id none = body_open (λ o. o ≡ None) (first_key id) (no_thread_key id (catalog_in old) h.records none)
