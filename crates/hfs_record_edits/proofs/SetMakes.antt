-- A call that sets what is told of an item makes its step.
use Rattle.std.proofs.Common.{◌≡◌, ℕ, ◌-◌, Bool, true, false, cond, ◌&&◌, eqb, List, [], ◌∷◌, count_by, refl, sym, ◌∙◌, ap, subst, arith, Some}
use Rattle.std.specs.Prelude.{Result, ℤ}
use Rattle.std.proofs.lemmas.Bool.{true≢false}
use Rattle.std.specs.FinMap as map
use Rattle.hfs_fields.specs.declared.mdb.Mdb.{Mdb}
use Rattle.hfs_fields.specs.declared.dir_record.DirRecord.{DirRecord}
use Rattle.hfs_fields.specs.declared.file_record.FileRecord.{FileRecord}
use Rattle.hfs_fields.specs.Counts.{with_counts}
use Rattle.hfs_fields.specs.Keys.{cat_cmp, cat_cmp_total}
use Rattle.hfs_fields.specs.declared.key.CatKey.{CatKey}
use Rattle.std.specs.List.{find}
use Rattle.std.specs.Ordering.{is_eq}
use Rattle.std.proofs.lemmas.Option.{none-some, same_Some}
use Rattle.hfs_catalog.proofs.FileRecords.{not-dir}
use Rattle.hfs_record_edits.proofs.EditedLemmas.{at_equal_key, with_replaced-swaps}
use Rattle.hfs_catalog.proofs.Held.{with_id}
use Rattle.hfs_fields.specs.Records.{is_dir, is_file, dir_record_of, file_record_of}
use Rattle.hfs_fields.specs.RecordForms.{IsDirRecordValue, dir_record_bytes, IsFileRecordValue, file_record_bytes}
use Rattle.hfs_fields.proofs.RecordFormLemmas.{is_dir-written}
use Rattle.hfs_btree.specs.Pairs.{Rises, lookup}
use Rattle.hfs_space.specs.Owners.{forks_of, forks_of_file, owned_blocks, owners}
use Rattle.hfs_model.specs.declared.call.Call.{Call}
use Rattle.hfs_model.specs.declared.item.Item.{Item}
use Rattle.hfs_model.specs.Volume.{Entry}
use Rattle.hfs_model.specs.Step.{step}
use Rattle.hfs_catalog.specs.Records.{Record, Catalog, item_with, has_thread}
use Rattle.hfs_catalog.specs.Sound.{is_file_in, is_folder_in, counts_of, AreCountsSound}
use Rattle.hfs_catalog.specs.Items.{file_of, folder_of, item_of, items_in}
use Rattle.hfs_catalog.proofs.CatalogLawTypes.{ItemsAreRecords}
use Rattle.hfs_check.specs.Parts.{Blocks, mdb_in, overflow_in, catalog_in, owned_in}
use Rattle.hfs_check.specs.Sound.{AreBlocksSound}
use Rattle.hfs_check.proofs.LawTypes.{CatalogIsSound}
use Rattle.hfs_check.specs.VolumeOf.{contents_in, volume_in}
use Rattle.hfs_record_edits.specs.Swaps.{Swaps, one_if}
use Rattle.hfs_record_edits.proofs.SwapLemmas.{swapped_count}
use Rattle.hfs_record_edits.proofs.ChangeLemmas.{HasSet}
use Rattle.hfs_record_edits.specs.OnBlocks.{at_time, HasTree}
use Rattle.hfs_record_edits.specs.Laws.{MakesStep}
use Rattle.hfs_record_edits.specs.SettingLaws.{IsChoice}
use Rattle.hfs_record_edits.proofs.SettingLaws.{HasSetBody}
use Rattle.hfs_record_edits.proofs.SetItems as setting
use Rattle.hfs_record_edits.proofs.KeptSpace.{set_forks, set_owners}
use Rattle.hfs_record_edits.proofs.CatalogEdits.{keeps_contents}
use Rattle.hfs_record_edits.proofs.Maps.{folder_item as dir_item}
use Rattle.hfs_record_edits.proofs.Made.{file_alike, file-is, file_item, file_set, file-read, dir_alike, dir-not_file, dir-read}
use Rattle.hfs_fields.proofs.OrderLemmas.{equal-own}

-- ---- counts

module _ (i : ℕ) (r s : Record) (old new : Catalog) (set : HasSet i r s old new) where
  as_many : (p : Record → Bool) → p s ≡ p r → count_by p new ≡ count_by p old
  as_many p alike = let same : ◌≡◌ {A = ℕ} (one_if (p s)) (one_if (p r)) = ap one_if alike in omega (arith, same, swapped_count p (Some r) (Some s) old new set.swap)

  pub set_numbers : (old_mdb new_mdb : Mdb) → new_mdb.root_files ≡ old_mdb.root_files → new_mdb.root_folders ≡ old_mdb.root_folders → new_mdb.files ≡ old_mdb.files → new_mdb.folders ≡ old_mdb.folders
      → AreCountsSound old_mdb old → AreCountsSound new_mdb new
  unfolding counts_of
  set_numbers old_mdb new_mdb a b c d h = record {
    root_files = a ∙ h.root_files ∙ sym (as_many (is_file_in 2) (λ j. set.alike.file j && eqb (set.alike.key j).parent 2));
    root_folders = b ∙ h.root_folders ∙ sym (as_many (is_folder_in 2) (λ j. set.alike.dir j && eqb (set.alike.key j).parent 2));
    files = c ∙ h.files ∙ sym (as_many (λ x. is_file x.1) set.alike.file);
    folders = d ∙ h.folders ∙ sym (ap (λ (n : ℕ). n - 1) (as_many (λ x. is_dir x.1) set.alike.dir));
  }

-- ---- any setting

module _ (law : ItemsAreRecords) (catalogs : CatalogIsSound) (total now i : ℕ) (r s : Record) (old new : Blocks) (h : AreBlocksSound total old)
    (t : HasTree (at_time now (mdb_in old)) old new) (set : HasSet i r s (catalog_in old) (catalog_in new)) (same : forks_of s ≡ forks_of r) where
  pub rises : Rises cat_cmp (catalog_in new)
  unfolding catalog_in
  rises = t.tree.ordered.rises

  owned_after : (b : ℕ) → owners (owned_blocks (with_counts (at_time now (mdb_in old)) (mdb_in old)) (overflow_in old) (catalog_in new)) b ≡ owners (owned_in old) b
  unfolding owned_in
  owned_after b = set_owners (at_time now (mdb_in old)) (mdb_in old) (overflow_in old) (mdb_in old).next_id i r s (catalog_in old) (catalog_in new) set h.forks same b

  pub set_makes : (c : Call) (x : Item) → item_of (contents_in new) (catalog_in new) s ≡ x
      → (step (volume_in old) c).0 ≡ record (volume_in old) { items = map.insert (items_in (contents_in old) (catalog_in old)) i x; next_id = (mdb_in old).next_id; changed = now }
      → MakesStep c (at_time now (mdb_in old)) old new
  set_makes c x is made = record {
    edits = t.edits;
    beside = t.beside;
    tree = t.tree;
    frame = t.frame;
    index = t.index;
    near = setting.near law (mdb_in old).next_id i r s (catalog_in old) (catalog_in new) (catalogs total old h) rises set;
    items = map.insert (items_in (contents_in old) (catalog_in old)) i x;
    held = setting.set_items law (mdb_in old).next_id i r s (catalog_in old) (catalog_in new) (catalogs total old h) rises set (contents_in old) (contents_in new)
        (keeps_contents (at_time now (mdb_in old)) total old new h t.edits)
        ∙ ap (λ (y : Item). map.insert (items_in (contents_in old) (catalog_in old)) i y) is;
    made = made;
    least = h.mdb.next_id;
    numbers = set_numbers i r s (catalog_in old) (catalog_in new) set (mdb_in old) (at_time now (mdb_in old)) refl refl refl refl h.counts;
    free = refl;
    forks = set_forks (at_time now (mdb_in old)) (mdb_in old) (overflow_in old) (mdb_in old).next_id i r s (catalog_in old) (catalog_in new) set h.forks same;
    owned = owned_after;
  }

-- ---- a file's record

module _ (law : ItemsAreRecords) (catalogs : CatalogIsSound) (total now i : ℕ) (r : Record) (g : FileRecord) (old new : Blocks) (h : AreBlocksSound total old)
    (file : is_file r.1 ≡ true) (ok : IsFileRecordValue g) (was : item_with (catalog_in old) i ≡ Some r) where
  abbrev f : FileRecord
  f = file_record_of r.1

  abbrev s : Record
  s = (r.0, file_record_bytes g)

  abbrev item : Item
  item = item_of (contents_in old) (catalog_in old) r

  abbrev threaded : Bool
  threaded = has_thread (catalog_in old) f.id

  -- the record has another value of the same ID and the same forks, and its item is told otherwise
  module _ (swap : Swaps (Some r) (Some s) (catalog_in old) (catalog_in new)) (t : HasTree (at_time now (mdb_in old)) old new)
      (id : g.id ≡ f.id) (forks : forks_of_file g ≡ forks_of_file f) (contents : contents_in new g ≡ contents_in new f) where
    set : HasSet i r s (catalog_in old) (catalog_in new)
    set = record { swap = swap; was = was; alike = file_alike r g file ok id; valence = λ d. absurd (true≢false (sym d ∙ not-dir r.1 file)) }

    same_forks : forks_of s ≡ forks_of r
    same_forks =
        ap (λ (b : Bool). cond b (forks_of_file (file_record_of (file_record_bytes g))) []) (file-is g ok) ∙ ap forks_of_file (file-read g ok) ∙ forks
        ∙ sym (ap (λ (b : Bool). cond b (forks_of_file f) []) file)

    made_item : item_of (contents_in new) (catalog_in new) s ≡ file_of threaded (contents_in old f) r.0 g
    made_item =
        file_set r g file ok id (contents_in old) (contents_in new) (catalog_in old) (catalog_in new)
        (setting.threads law (mdb_in old).next_id i r s (catalog_in old) (catalog_in new) (catalogs total old h) (rises law catalogs total now i r s old new h t set same_forks) set)
        (contents ∙ keeps_contents (at_time now (mdb_in old)) total old new h t.edits i r was (not-dir r.1 file))

    pub file_makes : (c : Call) (told : Item → Item) → file_of threaded (contents_in old f) r.0 g ≡ told (file_of threaded (contents_in old f) r.0 f)
        → (step (volume_in old) c).0 ≡ record (volume_in old) { items = map.insert (items_in (contents_in old) (catalog_in old)) i (told item); next_id = (mdb_in old).next_id; changed = now }
        → MakesStep c (at_time now (mdb_in old)) old new
    file_makes c told is made =
        set_makes law catalogs total now i r s old new h t set same_forks c (told item)
        (made_item ∙ is ∙ ap told (sym (file_item (contents_in old) (catalog_in old) r (not-dir r.1 file)))) made

-- ---- a folder's record

module _ (law : ItemsAreRecords) (catalogs : CatalogIsSound) (total now i : ℕ) (r : Record) (g : DirRecord) (old new : Blocks) (h : AreBlocksSound total old)
    (folder : is_dir r.1 ≡ true) (ok : IsDirRecordValue g) (was : item_with (catalog_in old) i ≡ Some r) where
  abbrev d : DirRecord
  d = dir_record_of r.1

  abbrev s-of : Record
  s-of = (r.0, dir_record_bytes g)

  abbrev item-of : Item
  item-of = item_of (contents_in old) (catalog_in old) r

  module _ (swap : Swaps (Some r) (Some s-of) (catalog_in old) (catalog_in new)) (t : HasTree (at_time now (mdb_in old)) old new) (id : g.id ≡ d.id) (valence : g.valence ≡ d.valence) where
    set_folder : HasSet i r s-of (catalog_in old) (catalog_in new)
    set_folder = record { swap = swap; was = was; alike = dir_alike r g folder ok id; valence = λ e. ap (λ (x : DirRecord). x.valence) (dir-read g ok) ∙ valence }

    no_forks : forks_of s-of ≡ forks_of r
    no_forks =
        ap (λ (b : Bool). cond b (forks_of_file (file_record_of (dir_record_bytes g))) []) (dir-not_file (dir_record_bytes g) (is_dir-written g ok))
        ∙ sym (ap (λ (b : Bool). cond b (forks_of_file (file_record_of r.1)) []) (dir-not_file r.1 folder))

    pub folder_makes : (c : Call) (told : Item → Item) → folder_of r.0 g ≡ told (folder_of r.0 d)
        → (step (volume_in old) c).0 ≡ record (volume_in old) { items = map.insert (items_in (contents_in old) (catalog_in old)) i (told item-of); next_id = (mdb_in old).next_id; changed = now }
        → MakesStep c (at_time now (mdb_in old)) old new
    folder_makes c told is made =
        set_makes law catalogs total now i r s-of old new h t set_folder no_forks c (told item-of)
        (dir_item (contents_in new) (catalog_in new) s-of (is_dir-written g ok) ∙ ap (folder_of r.0) (dir-read g ok) ∙ is
        ∙ ap told (sym (dir_item (contents_in old) (catalog_in old) r folder))) made

lookup_found : (key : CatKey) (ps : Catalog) (p : Record) → find (λ q. is_eq (cat_cmp key q.0)) ps ≡ Some p → lookup cat_cmp key ps ≡ Some p.1
lookup_found key [] p e = absurd (none-some p e)
lookup_found key (q ∷ ps) p e = elim (is_eq (cat_cmp key q.0)) as (λ (b : Bool). cond b (Some q) (find (λ x. is_eq (cat_cmp key x.0)) ps) ≡ Some p → cond b (Some q.1) (lookup cat_cmp key ps) ≡ Some p.1) [
  | true ↦ λ here. ap (λ (x : Record). Some x.1) (same_Some q p here)
  | false ↦ λ later. lookup_found key ps p later
] e

module _ (total : ℕ) (chosen : Result Entry ℤ) (r : Record) (old : Blocks) (h : AreBlocksSound total old) (c : IsChoice old chosen r) where
  pub stands : find (λ q. is_eq (cat_cmp r.0 q.0)) (catalog_in old) ≡ Some r
  stands =
      at_equal_key cat_cmp cat_cmp_total r.0 (catalog_in old) r h.places.records.rises (with_id (catalog_in old) c.id r c.was).0
      (equal-own (cat_cmp r.0 r.0) (cat_cmp_total.antisymm r.0 r.0))

  pub choice_stands : lookup cat_cmp r.0 (catalog_in old) ≡ Some r.1
  choice_stands = lookup_found r.0 (catalog_in old) r stands

  -- the body that was set in the record's place is a swap
  pub set_swaps : (body : List ℕ) (now : ℕ) (new : Blocks) → HasSetBody r body now old new → Swaps (Some r) (Some (r.0, body)) (catalog_in old) (catalog_in new)
  set_swaps body now new set = subst (Swaps (Some r) (Some (r.0, body)) (catalog_in old)) (sym set.content) (with_replaced-swaps cat_cmp r.0 body (catalog_in old) r stands)
