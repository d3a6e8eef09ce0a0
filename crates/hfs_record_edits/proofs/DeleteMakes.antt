-- Delete makes its step: of a folder whole, of a file as far as the catalog's records go.
use Rattle.std.proofs.Common.{◌≡◌, ℕ, ◌+◌, ◌-◌, ◌≤◌, Bool, true, false, ◌&&◌, eqb, List, count_by, refl, sym, ◌∙◌, ap, subst, arith, Option, Some, None}
use Rattle.std.specs.Prelude.{Result, ℤ}
use Rattle.std.specs.List.{list_any}
use Rattle.std.specs.FinMap as map
use Rattle.hfs_fields.specs.declared.mdb.Mdb.{Mdb}
use Rattle.hfs_fields.specs.Counts.{with_counts}
use Rattle.hfs_fields.specs.Keys.{cat_cmp}
use Rattle.hfs_fields.specs.Records.{is_dir, is_file, is_thread, dir_record_of}
use Rattle.hfs_fields.specs.Each.{Each}
use Rattle.hfs_btree.specs.Pairs.{Rises}
use Rattle.hfs_space.specs.Owners.{Fork, forks_of, owned_blocks, owners}
use Rattle.hfs_space.specs.Sound.{IsForkSound, AreForksSound}
use Rattle.hfs_model.specs.declared.call.Call.TheVariants as call
use Rattle.hfs_model.specs.Volume.{Items, Entry}
use Rattle.hfs_model.specs.Choices.{to_delete}
use Rattle.hfs_model.specs.Changes.{change, delete, touched}
use Rattle.hfs_model.specs.Step.{step}
use Rattle.hfs_catalog.proofs.FileRecords.{not-dir}
use Rattle.hfs_catalog.specs.Records.{Record}
use Rattle.hfs_catalog.specs.Lookups.{thread_of}
use Rattle.hfs_catalog.specs.Sound.{is_file_in, is_folder_in, counts_of, AreCountsSound}
use Rattle.hfs_catalog.specs.Items.{items_in}
use Rattle.hfs_catalog.proofs.CatalogLawTypes.{ItemsAreRecords}
use Rattle.hfs_check.specs.Parts.{Blocks, mdb_in, overflow_in, catalog_in, owned_in}
use Rattle.hfs_check.specs.Sound.{AreBlocksSound}
use Rattle.hfs_check.proofs.LawTypes.{CatalogIsSound}
use Rattle.hfs_check.specs.VolumeOf.{contents_in, volume_in}
use Rattle.hfs_record_edits.specs.Swaps.{one_if}
use Rattle.hfs_record_edits.proofs.SwapLemmas.{swapped_each}
use Rattle.hfs_record_edits.specs.Changes.{folder_with}
use Rattle.hfs_record_edits.proofs.ChangesLaws.{KeepsOthers}
use Rattle.hfs_record_edits.specs.OnBlocks.{HasTree}
use Rattle.hfs_record_edits.specs.Laws.{MakesStep}
use Rattle.hfs_record_edits.specs.SettingLaws.{IsChoice}
use Rattle.hfs_record_edits.specs.RemovalLaws.{without_folder}
use Rattle.hfs_record_edits.proofs.RemovalLaws.{HasDroppedItem, HoldsStep, without_file, DeleteFolderMakes, DeleteFileHolds, DeleteLeavesFiles}
use Rattle.hfs_record_edits.proofs.Dropped.{near, dropped_items}
use Rattle.hfs_record_edits.proofs.Removal.{sound, under, dropped, fewer, leaves_files}
use Rattle.hfs_record_edits.proofs.Space.{record_has, forks_have}
use Rattle.hfs_record_edits.proofs.ForkLemmas.{forks_kept, owners_kept}
use Rattle.hfs_record_edits.proofs.KeptSpace.{no_file_forks, thread_no_dir, thread_no_file}
use Rattle.hfs_record_edits.proofs.CatalogEdits.{keeps_contents}
use Rattle.hfs_record_edits.proofs.Made.{dir-not_file, folder_touched}

module _ (law : ItemsAreRecords) (catalogs : CatalogIsSound) (total now dir : ℕ) (name : List ℕ) (item r : Record) (old new : Blocks) (h : AreBlocksSound total old)
    (c : IsChoice old (to_delete (volume_in old) dir name) item) (d : HasDroppedItem c.id dir item r now (catalog_in old) (catalog_in new)) where
  abbrev next : ℕ
  next = (mdb_in old).next_id

  abbrev thread : Option Record
  thread = thread_of (catalog_in old) c.id

  abbrev s : Record
  s = folder_with ((dir_record_of r.1).valence - 1) now r

  abbrev items : Items
  items = touched (map.remove (items_in (contents_in old) (catalog_in old)) c.id) dir now

  -- ---- counts

  one_less : (p : Record → Bool) → p s ≡ p r → ((t : Record) → is_thread t.1 ≡ true → p t ≡ false) → count_by p (catalog_in new) + one_if (p item) ≡ count_by p (catalog_in old)
  one_less = fewer law catalogs total now dir name item r old (catalog_in new) h c d

  item_under : item.0.parent ≡ dir
  item_under = under law catalogs total now dir name item r old (catalog_in new) h c d

  files_less : count_by (λ x. is_file x.1) (catalog_in new) + one_if (is_file item.1) ≡ count_by (λ x. is_file x.1) (catalog_in old)
  files_less = one_less (λ x. is_file x.1) (dropped law catalogs total now dir name item r old (catalog_in new) h c d).edit.alike.file thread_no_file

  folders_less : count_by (λ x. is_dir x.1) (catalog_in new) + one_if (is_dir item.1) ≡ count_by (λ x. is_dir x.1) (catalog_in old)
  folders_less = one_less (λ x. is_dir x.1) (dropped law catalogs total now dir name item r old (catalog_in new) h c d).edit.alike.dir thread_no_dir

  root_files_less : count_by (is_file_in 2) (catalog_in new) + one_if (is_file item.1 && eqb dir 2) ≡ count_by (is_file_in 2) (catalog_in old)
  root_files_less =
      let alike = (dropped law catalogs total now dir name item r old (catalog_in new) h c d).edit.alike in
      let here : ◌≡◌ {A = ℕ} (one_if (is_file_in 2 item)) (one_if (is_file item.1 && eqb dir 2)) = ap (λ (n : ℕ). one_if (is_file item.1 && eqb n 2)) item_under in
      omega (arith, here, one_less (is_file_in 2) (λ j. alike.file j && eqb (alike.key j).parent 2) (λ x i j. thread_no_file x i j && eqb x.0.parent 2))

  root_folders_less : count_by (is_folder_in 2) (catalog_in new) + one_if (is_dir item.1 && eqb dir 2) ≡ count_by (is_folder_in 2) (catalog_in old)
  root_folders_less =
      let alike = (dropped law catalogs total now dir name item r old (catalog_in new) h c d).edit.alike in
      let here : ◌≡◌ {A = ℕ} (one_if (is_folder_in 2 item)) (one_if (is_dir item.1 && eqb dir 2)) = ap (λ (n : ℕ). one_if (is_dir item.1 && eqb n 2)) item_under in
      omega (arith, here, one_less (is_folder_in 2) (λ j. alike.dir j && eqb (alike.key j).parent 2) (λ x i j. thread_no_dir x i j && eqb x.0.parent 2))

  -- ---- the items, and the step

  held : KeepsOthers c.id (contents_in old) (contents_in new) (catalog_in old) → items_in (contents_in new) (catalog_in new) ≡ items
  held kept =
      dropped_items law next c.id dir item thread r s (catalog_in old) (catalog_in new) (sound law catalogs total now dir name item r old (catalog_in new) h c d)
      (dropped law catalogs total now dir name item r old (catalog_in new) h c d) (contents_in old) (contents_in new) now kept
      (folder_touched r ((dir_record_of r.1).valence - 1) now d.parent.folder d.value)

  made_step : (step (volume_in old) (call.Delete dir name now)).0 ≡ record (volume_in old) { items = items; next_id = next; changed = now }
  unfolding volume_in delete
  made_step = ap (λ (e : Result Entry ℤ). (change (volume_in old) e (λ e m. touched (map.remove m e.0) dir now) now).0) c.is

  -- ---- a folder

  module _ (folder : is_dir item.1 ≡ true) where
    no_file : is_file item.1 ≡ false
    no_file = dir-not_file item.1 folder

    folder_numbers : AreCountsSound (without_folder dir now (mdb_in old)) (catalog_in new)
    unfolding counts_of
    folder_numbers =
        let one : ◌≡◌ {A = ℕ} (one_if (is_dir item.1)) 1 = ap one_if folder in
        let none : ◌≡◌ {A = ℕ} (one_if (is_file item.1)) 0 = ap one_if no_file in
        let in_root : ◌≡◌ {A = ℕ} (one_if (is_dir item.1 && eqb dir 2)) (one_if (eqb dir 2)) = ap (λ (b : Bool). one_if (b && eqb dir 2)) folder in
        let not_in_root : ◌≡◌ {A = ℕ} (one_if (is_file item.1 && eqb dir 2)) 0 = ap (λ (b : Bool). one_if (b && eqb dir 2)) no_file in
        record {
          root_files = omega (arith, h.counts.root_files, root_files_less, not_in_root);
          root_folders = omega (arith, h.counts.root_folders, root_folders_less, in_root);
          files = omega (arith, h.counts.files, files_less, none);
          folders = omega (arith, h.counts.folders, folders_less, one);
        }

    -- ---- its forks, of which it has none

    abbrev counts : Mdb
    counts = without_folder dir now (mdb_in old)

    same_forks : forks_of s ≡ forks_of r
    same_forks =
        let alike = (dropped law catalogs total now dir name item r old (catalog_in new) h c d).edit.alike in
        no_file_forks s (alike.file ∙ dir-not_file r.1 d.parent.folder) ∙ sym (no_file_forks r (dir-not_file r.1 d.parent.folder))

    forks_after : AreForksSound (with_counts counts (mdb_in old)) (overflow_in old) (catalog_in new)
    forks_after =
        let P = λ (x : Record). Each (IsForkSound (mdb_in old) (overflow_in old)) (forks_of x) in
        let two = swapped_each P thread None d.first d.second d.thread_went (swapped_each P (Some item) None (catalog_in old) d.first d.item_went h.forks.files tt) tt in
        let of_folder : P s = subst (Each (IsForkSound (mdb_in old) (overflow_in old))) (sym (same_forks ∙ no_file_forks r (dir-not_file r.1 d.parent.folder))) tt in
        forks_kept counts (mdb_in old) (overflow_in old) (catalog_in old) (catalog_in new) more (swapped_each P (Some r) (Some s) d.second (catalog_in new) d.folder_set two (of_folder, tt)) h.forks
      where
        more : (p : Fork → Bool) → count_by (λ x. list_any p (forks_of x)) (catalog_in old) ≤ count_by (λ x. list_any p (forks_of x)) (catalog_in new)
        more p =
            let none : ◌≡◌ {A = ℕ} (one_if (list_any p (forks_of item))) 0 = ap (λ (fs : List Fork). one_if (list_any p fs)) (no_file_forks item no_file) in
            omega (arith, none, one_less (λ x. list_any p (forks_of x)) (ap (λ (fs : List Fork). list_any p fs) same_forks) (λ t is. ap (λ (fs : List Fork). list_any p fs) (no_file_forks t (thread_no_file t is))))

    has : (b : ℕ) (x : Record) → is_file x.1 ≡ false → record_has (mdb_in old) (overflow_in old) b x ≡ 0
    has b x e = ap (forks_have (mdb_in old) (overflow_in old) b) (no_file_forks x e)

    owned_after : (b : ℕ) → owners (owned_blocks (with_counts counts (mdb_in old)) (overflow_in old) (catalog_in new)) b ≡ owners (owned_in old) b
    unfolding owned_in
    owned_after b =
        let files = leaves_files law catalogs total now dir name item r old (catalog_in new) h c d in
        owners_kept counts (mdb_in old) (overflow_in old) (catalog_in old) (catalog_in new) b (omega (arith, has b item no_file, files.sums (record_has (mdb_in old) (overflow_in old) b) (has b)))

    rises_in : HasTree counts old new → Rises cat_cmp (catalog_in new)
    unfolding catalog_in
    rises_in t = t.tree.ordered.rises

    pub delete_folder : HasTree counts old new → MakesStep (call.Delete dir name now) counts old new
    delete_folder t = record {
      edits = t.edits;
      beside = t.beside;
      tree = t.tree;
      frame = t.frame;
      index = t.index;
      near = near law next c.id dir item thread r s (catalog_in old) (catalog_in new) (sound law catalogs total now dir name item r old (catalog_in new) h c d)
          (dropped law catalogs total now dir name item r old (catalog_in new) h c d) (rises_in t);
      items = items;
      held = held (λ k x other is file. keeps_contents counts total old new h t.edits k x is file);
      made = made_step;
      least = h.mdb.next_id;
      numbers = folder_numbers;
      free = refl;
      forks = forks_after;
      owned = owned_after;
    }

  -- ---- a file

  module _ (file : is_file item.1 ≡ true) (free : ℕ) where
    no_folder : is_dir item.1 ≡ false
    no_folder = not-dir item.1 file

    file_numbers : AreCountsSound (without_file dir free now (mdb_in old)) (catalog_in new)
    unfolding counts_of
    file_numbers =
        let one : ◌≡◌ {A = ℕ} (one_if (is_file item.1)) 1 = ap one_if file in
        let none : ◌≡◌ {A = ℕ} (one_if (is_dir item.1)) 0 = ap one_if no_folder in
        let in_root : ◌≡◌ {A = ℕ} (one_if (is_file item.1 && eqb dir 2)) (one_if (eqb dir 2)) = ap (λ (b : Bool). one_if (b && eqb dir 2)) file in
        let not_in_root : ◌≡◌ {A = ℕ} (one_if (is_dir item.1 && eqb dir 2)) 0 = ap (λ (b : Bool). one_if (b && eqb dir 2)) no_folder in
        record {
          root_files = omega (arith, h.counts.root_files, root_files_less, in_root);
          root_folders = omega (arith, h.counts.root_folders, root_folders_less, not_in_root);
          files = omega (arith, h.counts.files, files_less, one);
          folders = omega (arith, h.counts.folders, folders_less, none);
        }

    pub delete_file : Rises cat_cmp (catalog_in new) → KeepsOthers c.id (contents_in old) (contents_in new) (catalog_in old) → HoldsStep (call.Delete dir name now) (without_file dir free now (mdb_in old)) old new
    delete_file rises kept = record {
      near = near law next c.id dir item thread r s (catalog_in old) (catalog_in new) (sound law catalogs total now dir name item r old (catalog_in new) h c d)
          (dropped law catalogs total now dir name item r old (catalog_in new) h c d) rises;
      items = items;
      held = held kept;
      made = made_step;
      least = h.mdb.next_id;
      numbers = file_numbers;
    }

pub delete_folder_steps : ItemsAreRecords → CatalogIsSound → DeleteFolderMakes
delete_folder_steps law catalogs total now dir name item r old new h c d = delete_folder law catalogs total now dir name item r old new h c d.dropped d.was d.tree

pub delete_file_steps : ItemsAreRecords → CatalogIsSound → DeleteFileHolds
delete_file_steps law catalogs total now dir free name item r old new h c d = delete_file law catalogs total now dir name item r old new h c d.dropped d.was free d.rises d.kept

pub delete_file_leaves : ItemsAreRecords → CatalogIsSound → DeleteLeavesFiles
delete_file_leaves law catalogs total now dir name item r old new h c d = leaves_files law catalogs total now dir name item r old new h c d
