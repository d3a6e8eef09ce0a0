-- An item that goes from its folder in the nodes of a sound volume's catalog, and what that makes of the catalog's records.
use Rattle.std.proofs.Common.{◌≡◌, inr, ℕ, ◌-◌, ◌≤◌, Bool, true, cond, List, [], ◌∷◌, sym, ◌∙◌, ap, subst, Option, Some, None}
use Rattle.std.specs.Option.{option_map}
use Rattle.hfs_fields.specs.declared.key.CatKey.{CatKey}
use Rattle.hfs_fields.specs.declared.dir_record.DirRecord.{DirRecord}
use Rattle.hfs_fields.specs.Keys.{cat_cmp}
use Rattle.hfs_fields.specs.Records.{is_dir, is_item, item_id, dir_record_of, file_record_of}
use Rattle.hfs_fields.specs.Each.{Each}
use Rattle.hfs_fields.proofs.MemberLemmas.{each_in}
use Rattle.hfs_btree.specs.Pairs.{Rises, lookup}
use Rattle.hfs_btree.specs.Tree.{Store}
use Rattle.hfs_model.specs.Choices.{to_delete}
use Rattle.hfs_catalog.specs.Records.{Record, Catalog}
use Rattle.hfs_catalog.specs.Lookups.{thread_of}
use Rattle.hfs_catalog.specs.Sound.{IsRecord, IsIndexKeyName}
use Rattle.hfs_catalog.specs.Tree.{catalog_of}
use Rattle.hfs_record_edits.specs.Bodies.{IfBody}
use Rattle.hfs_record_edits.specs.Finds.{record_at}
use Rattle.hfs_record_edits.proofs.FindLemmas.{body_at, own_record}
use Rattle.hfs_record_edits.specs.ItemEdits.{ItemWent, ValenceSet}
use Rattle.hfs_record_edits.specs.Keeps.{KeepsCatalog}
use Rattle.hfs_record_edits.proofs.KeepLemmas.{keeps_then}
use Rattle.hfs_record_edits.specs.Swaps.{Swaps}
use Rattle.hfs_check.specs.Parts.{Blocks, catalog_nodes, catalog_in}
use Rattle.hfs_check.specs.Sound.{AreBlocksSound}
use Rattle.hfs_check.specs.VolumeOf.{volume_in}
use Rattle.hfs_record_edits.specs.Changes.{IsFolderWith, folder_with}
use Rattle.hfs_record_edits.proofs.BoundLaws.{RemovalFits}
use Rattle.hfs_record_edits.proofs.PlaceLaws.{DeleteLeavesFolder}
use Rattle.hfs_record_edits.proofs.RemovalLaws.{HasDroppedItem}
use Rattle.hfs_record_edits.specs.SettingLaws.{IsChoice}
use Rattle.hfs_record_edits.proofs.SettingLaws.{ChoiceStands}
use Rattle.hfs_items.proofs.FolderLemmas.{found_with}
use Rattle.hfs_call_patches.specs.CatalogPatch.{KeepsNamed}
use Rattle.hfs_call_patches.specs.Deleting.{HasIdUnder, IsParent, StaysFolder, ItemDropped}

module _ (stands : ChoiceStands) (folders : DeleteLeavesFolder) (total dir : ℕ) (name : List ℕ) (a r : Record) (old : Blocks) (h : AreBlocksSound total old)
    (c : IsChoice old (to_delete (volume_in old) dir name) a) (parent : IsFolderWith (catalog_in old) dir r) where
  at_item : record_at a.0 (catalog_in old) ≡ Some a
  at_item = own_record (catalog_in old) a h.places.records.rises (found_with (catalog_in old) c.id a c.was).there

  item_there : IfBody (λ body. is_item body ≡ true) (lookup cat_cmp a.0 (catalog_in old))
  item_there = subst (IfBody (λ body. is_item body ≡ true)) (sym (stands total (to_delete (volume_in old) dir name) a old h c)) (found_with (catalog_in old) c.id a c.was).item

  id_there : HasIdUnder a.0 c.id (catalog_in old)
  id_there = subst (IfBody (λ body. item_id body ≡ c.id)) (sym (stands total (to_delete (volume_in old) dir name) a old h c)) (found_with (catalog_in old) c.id a c.was).same

  module _ (opened : Store) (is : opened ≡ catalog_nodes old) where
    same : catalog_of opened ≡ catalog_in old
    unfolding catalog_in
    same = ap catalog_of is

    own_id : HasIdUnder a.0 c.id (catalog_of opened)
    own_id = subst (HasIdUnder a.0 c.id) (sym same) id_there

    pub there : IfBody (λ body. is_item body ≡ true) (lookup cat_cmp a.0 (catalog_of opened))
    there = subst (λ (k : Catalog). IfBody (λ body. is_item body ≡ true) (lookup cat_cmp a.0 k)) (sym same) item_there

    module _ (middle : Store) (went : ItemWent a.0 c.id opened middle) where
      item_went : Swaps (Some a) None (catalog_in old) went.between
      item_went = subst (λ (o : Option Record). Swaps o None (catalog_in old) went.between) at_item (subst (λ (k : Catalog). Swaps (record_at a.0 k) None k went.between) same went.item_went)

      thread_went : Swaps (thread_of (catalog_in old) c.id) None went.between (catalog_of middle)
      thread_went = subst (λ (k : Catalog). Swaps (thread_of k c.id) None went.between (catalog_of middle)) same went.thread_went

      rises : Rises cat_cmp (catalog_of middle)
      rises = went.keeps.sound.ordered.rises

      at_folder : record_at r.0 (catalog_of middle) ≡ Some r
      at_folder = own_record (catalog_of middle) r rises (folders total dir name a r old went.between (catalog_of middle) h c parent item_went thread_went)

      folder_found : lookup cat_cmp r.0 (catalog_of middle) ≡ Some r.1
      folder_found = sym (body_at r.0 (catalog_of middle)) ∙ ap (option_map (λ (q : Record). q.1)) at_folder

    pub stays : StaysFolder a.0 c.id r.0 opened
    stays middle went = subst (IfBody (λ body. is_dir body ≡ true)) (sym (folder_found middle went)) parent.folder

    named : IsIndexKeyName r.0
    named = let found = found_with (catalog_in old) dir r parent.was in inr (each_in _ (catalog_in old) r h.names.records.items found.there found.item)

    module _ (now : ℕ) (new : Store) (d : ItemDropped a.0 c.id r.0 ((dir_record_of r.1).valence - 1) now opened new) where
      set : ValenceSet r.0 ((dir_record_of r.1).valence - 1) now r.1 d.middle new
      set = d.set r.1 (folder_found d.middle d.went)

      pub keeps : KeepsNamed (catalog_nodes old) new
      keeps = record {
        given = r.0 ∷ [];
        keeps = subst (λ (s : Store). KeepsCatalog (r.0 ∷ []) s new) is (keeps_then [] (r.0 ∷ []) opened d.middle new d.went.keeps set.set.keeps);
        named = (named, tt);
      }

      pub dropped : HasDroppedItem c.id dir a r now (catalog_in old) (catalog_of new)
      dropped = record {
        first = d.went.between;
        second = catalog_of d.middle;
        item_went = item_went d.middle d.went;
        thread_went = thread_went d.middle d.went;
        folder_set = subst (λ (o : Option Record). Swaps o (Some (folder_with ((dir_record_of r.1).valence - 1) now r)) (catalog_of d.middle) (catalog_of new)) (at_folder d.middle d.went) set.set.swap;
        parent = parent;
        value = set.value;
      }

-- ---- the same by the key and the valence that the program has

module _ (stands : ChoiceStands) (folders : DeleteLeavesFolder) (total dir id : ℕ) (name : List ℕ) (key folder : CatKey) (valence : ℕ) (a : Record) (old : Blocks) (h : AreBlocksSound total old)
    (c : IsChoice old (to_delete (volume_in old) dir name) a) (own : a.0 ≡ key) (its : c.id ≡ id) (p : IsParent (catalog_in old) dir folder valence) (opened : Store) (is : opened ≡ catalog_nodes old) where
  pub there_by : IfBody (λ body. is_item body ≡ true) (lookup cat_cmp key (catalog_of opened))
  there_by = subst (λ (k : CatKey). IfBody (λ body. is_item body ≡ true) (lookup cat_cmp k (catalog_of opened))) own (there stands folders total dir name a p.of old h c p.is opened is)

  pub own_id_by : HasIdUnder key id (catalog_of opened)
  own_id_by = subst (λ (both : CatKey × ℕ). HasIdUnder both.0 both.1 (catalog_of opened)) (λ i. (own i, its i)) (own_id stands folders total dir name a p.of old h c p.is opened is)

  pub own_under_by : HasIdUnder key id (catalog_in old)
  own_under_by = subst (λ (both : CatKey × ℕ). HasIdUnder both.0 both.1 (catalog_in old)) (λ i. (own i, its i)) (id_there stands folders total dir name a p.of old h c p.is)

  pub under_by : IfBody (λ body. is_item body ≡ true) (lookup cat_cmp key (catalog_in old))
  under_by = subst (λ (k : CatKey). IfBody (λ body. is_item body ≡ true) (lookup cat_cmp k (catalog_in old))) own (item_there stands folders total dir name a p.of old h c p.is)

  pub stays_by : StaysFolder key id folder opened
  stays_by =
      subst (λ (k : CatKey). StaysFolder key id k opened) p.own_key
      (subst (λ (n : ℕ). StaysFolder key n p.of.0 opened) its
      (subst (λ (k : CatKey). StaysFolder k c.id p.of.0 opened) own (stays stands folders total dir name a p.of old h c p.is opened is)))

  module _ (now : ℕ) (new : Store) (d : ItemDropped key id folder (valence - 1) now opened new) where
    as_of : ItemDropped a.0 c.id p.of.0 ((dir_record_of p.of.1).valence - 1) now opened new
    as_of =
        subst (λ (n : ℕ). ItemDropped a.0 c.id p.of.0 (n - 1) now opened new) (sym p.own_valence)
        (subst (λ (k : CatKey). ItemDropped a.0 c.id k (valence - 1) now opened new) (sym p.own_key)
        (subst (λ (n : ℕ). ItemDropped a.0 n folder (valence - 1) now opened new) (sym its)
        (subst (λ (k : CatKey). ItemDropped k id folder (valence - 1) now opened new) (sym own) d)))

    pub keeps_by : KeepsNamed (catalog_nodes old) new
    keeps_by = keeps stands folders total dir name a p.of old h c p.is opened is now new as_of

    pub dropped_by : HasDroppedItem c.id dir a p.of now (catalog_in old) (catalog_of new)
    dropped_by = dropped stands folders total dir name a p.of old h c p.is opened is now new as_of

-- the records of nodes that are those of a sound volume's catalog
pub opened_records : (total : ℕ) (old : Blocks) → AreBlocksSound total old → (opened : Store) → opened ≡ catalog_nodes old → Each IsRecord (catalog_of opened)
unfolding catalog_in
opened_records total old h opened is = subst (λ (s : Store). Each IsRecord (catalog_of s)) (sym is) h.records

-- the folder has a child, the item that goes
pub some_child : RemovalFits → (total dir : ℕ) (name : List ℕ) (key : CatKey) (valence : ℕ) (a : Record) (old : Blocks) → AreBlocksSound total old
    → IsChoice old (to_delete (volume_in old) dir name) a → IsParent (catalog_in old) dir key valence → 1 ≤ valence
some_child fits total dir name key valence a old h c p = subst (λ (n : ℕ). 1 ≤ n) p.own_valence (fits total dir name a p.of old h c p.is).valence

-- a folder's ID is that of its record
pub folder_id : (catalog : Catalog) (id : ℕ) (a : Record) (folder : DirRecord) → item_id a.1 ≡ id → is_dir a.1 ≡ true → dir_record_of a.1 ≡ folder → id ≡ folder.id
folder_id catalog id a folder same is own =
    sym same ∙ ap (λ (b : Bool). cond b (dir_record_of a.1).id (file_record_of a.1).id) is ∙ ap (λ (d : DirRecord). d.id) own
