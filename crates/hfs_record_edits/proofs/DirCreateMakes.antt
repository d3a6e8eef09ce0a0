-- DirCreate makes its step.
use Rattle.std.proofs.Common.{◌≡◌, ℕ, ◌+◌, ◌<◌, Bool, true, false, ◌&&◌, eqb, List, count_by, refl, sym, ◌∙◌, ap, arith, Some}
use Rattle.std.specs.Prelude.{Ok, Result, ℤ}
use Rattle.std.specs.FinMap as map
use Rattle.std.proofs.lemmas.Bool.{true≢false}
use Rattle.hfs_fields.specs.declared.mdb.Mdb.{Mdb}
use Rattle.hfs_fields.specs.declared.key.CatKey.{CatKey}
use Rattle.hfs_fields.specs.declared.thread_record.ThreadKind.TheVariants.{Folder}
use Rattle.hfs_fields.specs.Counts.{with_counts}
use Rattle.hfs_fields.specs.Keys.{cat_cmp}
use Rattle.hfs_fields.specs.Records.{is_dir, is_file, dir_record_of, new_thread, new_dir}
use Rattle.hfs_fields.specs.RecordForms.{IsDirRecordValue, dir_record_bytes}
use Rattle.hfs_fields.proofs.RecordFormLemmas.{is_dir-written}
use Rattle.hfs_btree.specs.Pairs.{Rises}
use Rattle.hfs_space.specs.Owners.{forks_of, owned_blocks, owners}
use Rattle.hfs_model.specs.declared.call.Call.TheVariants as call
use Rattle.hfs_model.specs.Choices.{to_create}
use Rattle.hfs_model.specs.Changes as model
use Rattle.hfs_model.specs.Changes.{add, create, touched, new_item}
use Rattle.hfs_model.specs.Step.{step}
use Rattle.hfs_catalog.specs.Records.{Record}
use Rattle.hfs_catalog.specs.Sound.{is_file_in, is_folder_in, counts_of, AreCountsSound, IsSoundCatalog}
use Rattle.hfs_catalog.specs.Items.{folder_of, item_of, items_in}
use Rattle.hfs_catalog.proofs.CatalogLawTypes.{ItemsAreRecords, ValencesAreCounted}
use Rattle.hfs_check.specs.Parts.{Blocks, mdb_in, overflow_in, catalog_in, owned_in}
use Rattle.hfs_check.specs.Sound.{AreBlocksSound}
use Rattle.hfs_check.proofs.LawTypes.{CatalogIsSound}
use Rattle.hfs_check.specs.VolumeOf.{contents_in, volume_in}
use Rattle.hfs_record_edits.specs.Swaps.{one_if}
use Rattle.hfs_record_edits.proofs.OnceLemmas.{counted}
use Rattle.hfs_record_edits.specs.Changes.{thread_record, with_children}
use Rattle.hfs_record_edits.proofs.ChangesLaws.{HasAdded}
use Rattle.hfs_record_edits.specs.CreationLaws.{with_folder, folder_record_in}
use Rattle.hfs_record_edits.proofs.CreationLaws.{DirCreateMakes}
use Rattle.hfs_record_edits.specs.Laws.{MakesStep}
use Rattle.hfs_catalog.proofs.Held.{with_id}
use Rattle.hfs_record_edits.proofs.Chosen.{may_create}
use Rattle.hfs_record_edits.proofs.CountBounds.{short_by}
use Rattle.hfs_record_edits.proofs.LedThreads.{new_thread_is}
use Rattle.hfs_record_edits.proofs.NewItems.{new_folder_item, has_added}
use Rattle.hfs_record_edits.proofs.Added.{near, added_items, one_more_count}
use Rattle.hfs_record_edits.proofs.KeptSpace.{thread_no_dir, thread_no_file, new_forks, added_forks, added_owners}
use Rattle.hfs_record_edits.proofs.CatalogEdits.{keeps_contents}
use Rattle.hfs_record_edits.proofs.Maps.{folder_item as dir_item}
use Rattle.hfs_record_edits.proofs.Made.{dir-read, dir-not_file, new_folder_is, touched_record, folder_touched}
use Rattle.hfs_record_edits.specs.OnBlocks.{HasTree}

module _ (law : ItemsAreRecords) (catalogs : CatalogIsSound) (total now dir : ℕ) (name : List ℕ) (th r : Record) (old new : Blocks) (h : AreBlocksSound total old)
    (folder : is_dir r.1 ≡ true) where
  abbrev next : ℕ
  next = (mdb_in old).next_id

  abbrev key : CatKey
  key = record { parent = dir; name = name }

  abbrev a : Record
  a = (key, dir_record_bytes (new_dir next now))

  abbrev counts : Mdb
  counts = with_folder dir now (mdb_in old)

  sound : IsSoundCatalog next (catalog_in old)
  sound = catalogs total old h

  module _ (ok : IsDirRecordValue (new_dir next now)) (ok_dir : IsDirRecordValue (with_children ((dir_record_of r.1).valence + 1) now (dir_record_of r.1)))
      (choice : to_create (volume_in old) dir name ≡ Ok next)
      (added : HasAdded next dir a (Some th) r (touched_record r ((dir_record_of r.1).valence + 1) now folder ok_dir) (catalog_in old) (catalog_in new))
      (t : HasTree counts old new) where
    abbrev s : Record
    s = touched_record r ((dir_record_of r.1).valence + 1) now folder ok_dir

    rises : Rises cat_cmp (catalog_in new)
    unfolding catalog_in
    rises = t.tree.ordered.rises

    -- ---- the new folder

    is_new_dir : is_dir a.1 ≡ true
    is_new_dir = is_dir-written (new_dir next now) ok

    no_file : is_file a.1 ≡ false
    no_file = dir-not_file a.1 is_new_dir

    no_file_forks : is_file a.1 ≡ true → forks_of a ≡ new_forks next
    no_file_forks e = absurd (true≢false (sym e ∙ no_file))

    made_folder : item_of (contents_in new) (catalog_in new) a ≡ new_item model.new_folder dir name now
    made_folder = dir_item (contents_in new) (catalog_in new) a is_new_dir ∙ ap (folder_of key) (dir-read (new_dir next now) ok) ∙ new_folder_is next dir now name

    -- its thread is neither a folder nor a file
    no_dir : is_dir th.1 ≡ false
    no_dir = thread_no_dir th added.made.thread.of.thread

    no_file_thread : is_file th.1 ≡ false
    no_file_thread = thread_no_file th added.made.thread.of.thread

    -- ---- counts

    more : (p : Record → Bool) → p s ≡ p r → p th ≡ false → count_by p (catalog_in new) ≡ count_by p (catalog_in old) + one_if (p a)
    more p alike none = one_more_count law next dir a (Some th) r s (catalog_in old) (catalog_in new) h.mdb.next_id sound added p alike none

    folders_before : 0 < count_by (λ x. is_dir x.1) (catalog_in old)
    folders_before = counted (λ (x : Record). is_dir x.1) (catalog_in old) r (with_id (catalog_in old) dir r added.edit.was).0 folder

    numbers : AreCountsSound counts (catalog_in new)
    unfolding counts_of
    numbers = record {
      root_files =
          let here : ◌≡◌ {A = ℕ} (one_if (is_file_in 2 a)) 0 = ap (λ (b : Bool). one_if (b && eqb dir 2)) no_file in
          omega (arith, here, h.counts.root_files, more (is_file_in 2) (λ j. added.edit.alike.file j && eqb (added.edit.alike.key j).parent 2) (λ j. no_file_thread j && eqb th.0.parent 2));
      root_folders =
          let here : ◌≡◌ {A = ℕ} (one_if (is_folder_in 2 a)) (one_if (eqb dir 2)) = ap (λ (b : Bool). one_if (b && eqb dir 2)) is_new_dir in
          omega (arith, here, h.counts.root_folders, more (is_folder_in 2) (λ j. added.edit.alike.dir j && eqb (added.edit.alike.key j).parent 2) (λ j. no_dir j && eqb th.0.parent 2));
      files =
          let here : ◌≡◌ {A = ℕ} (one_if (is_file a.1)) 0 = ap one_if no_file in
          omega (arith, here, h.counts.files, more (λ x. is_file x.1) added.edit.alike.file no_file_thread);
      folders =
          let here : ◌≡◌ {A = ℕ} (one_if (is_dir a.1)) 1 = ap one_if is_new_dir in
          omega (arith, here, folders_before, h.counts.folders, more (λ x. is_dir x.1) added.edit.alike.dir no_dir);
    }

    -- ---- the whole

    made_step : (step (volume_in old) (call.DirCreate dir name now)).0
        ≡ record (volume_in old) { items = touched (map.insert (items_in (contents_in old) (catalog_in old)) next (new_item model.new_folder dir name now)) dir now; next_id = next + 1; changed = now }
    unfolding volume_in create
    made_step = ap (λ (e : Result ℕ ℤ). (add (volume_in old) e (λ id m. touched (map.insert m id (new_item model.new_folder dir name now)) dir now) now).0) choice

    owned_after : (b : ℕ) → owners (owned_blocks (with_counts counts (mdb_in old)) (overflow_in old) (catalog_in new)) b ≡ owners (owned_in old) b
    unfolding owned_in
    owned_after b = added_owners law counts (mdb_in old) (overflow_in old) next dir a (Some th) r s (catalog_in old) (catalog_in new) h.mdb.next_id sound added h.forks no_file_forks b

    pub dir_create_makes : MakesStep (call.DirCreate dir name now) counts old new
    dir_create_makes = record {
      edits = t.edits;
      beside = t.beside;
      tree = t.tree;
      frame = t.frame;
      index = t.index;
      near = near law next dir a (Some th) r s (catalog_in old) (catalog_in new) h.mdb.next_id sound added rises;
      items = touched (map.insert (items_in (contents_in old) (catalog_in old)) next (new_item model.new_folder dir name now)) dir now;
      held = added_items law next dir a (Some th) r s (catalog_in old) (catalog_in new) h.mdb.next_id sound added (contents_in old) (contents_in new) now (new_item model.new_folder dir name now)
          (keeps_contents counts total old new h t.edits) made_folder (folder_touched r ((dir_record_of r.1).valence + 1) now folder ok_dir);
      made = made_step;
      least = omega (arith, h.mdb.next_id);
      numbers = numbers;
      free = refl;
      forks = added_forks law counts (mdb_in old) (overflow_in old) next dir a (Some th) r s (catalog_in old) (catalog_in new) h.mdb.next_id sound added h.forks no_file_forks;
      owned = owned_after;
    }

pub dir_create_make_steps : ItemsAreRecords → ValencesAreCounted → CatalogIsSound → DirCreateMakes
dir_create_make_steps law valences catalogs total now dir name r old new h choice d =
    let next = (mdb_in old).next_id in
    let item = folder_record_in next dir name now in
    let thread = thread_record next (new_thread Folder dir name) in
    let may = may_create (volume_in old) dir name next choice in
    let room = short_by catalogs total old h valences dir r d.parent may.room in
    let its = new_thread_is Folder next item (sym (is_dir-written (new_dir next now) d.new_value)) may.named d.thread_value in
    let came = has_added next dir now item (Some thread) r (catalog_in old) d.first d.second (catalog_in new) d.folder_came d.thread_came d.folder_set
    (new_folder_item next dir now name may.named thread d.new_value its) d.parent d.folder_value room in
    dir_create_makes law catalogs total now dir name thread r old new h d.parent.folder d.new_value d.folder_value choice came d.tree
