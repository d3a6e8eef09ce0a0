-- Create makes its step.
use Rattle.std.proofs.Common.{◌≡◌, ℕ, ◌+◌, Bool, true, false, cond, ◌&&◌, eqb, List, [], count_by, refl, ◌∙◌, ap, arith, None}
use Rattle.std.specs.Prelude.{Ok, Result, ℤ, is_some}
use Rattle.std.specs.FinMap as map
use Rattle.std.proofs.lemmas.Bool.{eq-eqb}
use Rattle.hfs_fields.specs.declared.mdb.Mdb.{Mdb}
use Rattle.hfs_fields.specs.declared.file_record.FileRecord.{FileRecord}
use Rattle.hfs_fields.specs.declared.key.CatKey.{CatKey}
use Rattle.hfs_fields.specs.Counts.{with_counts}
use Rattle.hfs_fields.specs.Keys.{cat_cmp}
use Rattle.hfs_fields.specs.Records.{is_dir, is_file, dir_record_of, file_record_of, new_file}
use Rattle.hfs_fields.specs.RecordForms.{IsDirRecordValue, IsFileRecordValue, file_record_bytes}
use Rattle.hfs_btree.specs.Pairs.{Rises}
use Rattle.hfs_space.specs.Forks.{fork_bytes}
use Rattle.hfs_space.specs.Owners.{forks_of, forks_of_file, owned_blocks, owners}
use Rattle.hfs_model.specs.declared.call.Call.TheVariants as call
use Rattle.hfs_model.specs.Choices.{to_create}
use Rattle.hfs_model.specs.Changes as model
use Rattle.hfs_model.specs.Changes.{add, create, touched, new_item}
use Rattle.hfs_model.specs.Step.{step}
use Rattle.hfs_catalog.specs.Records.{Record, has_thread}
use Rattle.hfs_catalog.specs.Lookups.{thread_of}
use Rattle.hfs_catalog.specs.Sound.{is_file_in, is_folder_in, counts_of, AreCountsSound, IsSoundCatalog}
use Rattle.hfs_catalog.specs.Items.{file_of, item_of, items_in}
use Rattle.hfs_catalog.proofs.CatalogLawTypes.{ItemsAreRecords, ValencesAreCounted}
use Rattle.hfs_check.specs.Parts.{Blocks, mdb_in, overflow_in, catalog_in, owned_in}
use Rattle.hfs_check.specs.Sound.{AreBlocksSound}
use Rattle.hfs_check.proofs.LawTypes.{CatalogIsSound}
use Rattle.hfs_check.specs.VolumeOf.{bytes_in, contents_in, volume_in}
use Rattle.hfs_record_edits.specs.Swaps.{one_if}
use Rattle.hfs_record_edits.specs.Changes.{with_children}
use Rattle.hfs_record_edits.proofs.ChangesLaws.{HasAdded}
use Rattle.hfs_record_edits.specs.CreationLaws.{with_file, file_record_in}
use Rattle.hfs_record_edits.proofs.CreationLaws.{CreateMakes}
use Rattle.hfs_record_edits.specs.Laws.{MakesStep}
use Rattle.hfs_record_edits.proofs.Chosen.{may_create}
use Rattle.hfs_record_edits.proofs.CountBounds.{short_by}
use Rattle.hfs_record_edits.proofs.NewItems.{new_file_item, has_added, nothing_came}
use Rattle.hfs_record_edits.proofs.Added.{near, threads3, added_items, one_more_count}
use Rattle.hfs_record_edits.proofs.KeptSpace.{new_forks, added_forks, added_owners}
use Rattle.hfs_record_edits.proofs.CatalogEdits.{keeps_contents}
use Rattle.hfs_record_edits.proofs.Maps.{thread_known}
use Rattle.hfs_record_edits.proofs.Made.{file-no_dir, file-is, file_item, file-read, new_file_is, touched_record, folder_touched}
use Rattle.hfs_record_edits.specs.OnBlocks.{HasTree}

module _ (law : ItemsAreRecords) (catalogs : CatalogIsSound) (total now dir : ℕ) (name : List ℕ) (r : Record) (old new : Blocks) (h : AreBlocksSound total old)
    (folder : is_dir r.1 ≡ true) where
  abbrev next : ℕ
  next = (mdb_in old).next_id

  abbrev key : CatKey
  key = record { parent = dir; name = name }

  abbrev a : Record
  a = (key, file_record_bytes (new_file next now))

  abbrev counts : Mdb
  counts = with_file dir now (mdb_in old)

  sound : IsSoundCatalog next (catalog_in old)
  sound = catalogs total old h

  module _ (ok : IsFileRecordValue (new_file next now)) (ok_dir : IsDirRecordValue (with_children ((dir_record_of r.1).valence + 1) now (dir_record_of r.1)))
      (choice : to_create (volume_in old) dir name ≡ Ok next)
      (added : HasAdded next dir a None r (touched_record r ((dir_record_of r.1).valence + 1) now folder ok_dir) (catalog_in old) (catalog_in new))
      (t : HasTree counts old new) where
    abbrev s : Record
    s = touched_record r ((dir_record_of r.1).valence + 1) now folder ok_dir

    rises : Rises cat_cmp (catalog_in new)
    unfolding catalog_in
    rises = t.tree.ordered.rises

    -- ---- the new file

    is_new_file : is_file a.1 ≡ true
    is_new_file = file-is (new_file next now) ok

    new_file_forks : is_file a.1 ≡ true → forks_of a ≡ new_forks next
    unfolding forks_of_file new_file
    new_file_forks e = ap (λ (b : Bool). cond b (forks_of_file (file_record_of a.1)) []) e ∙ ap forks_of_file (file-read (new_file next now) ok)

    no_contents : contents_in new (new_file next now) ≡ ([], [])
    unfolding contents_in bytes_in fork_bytes new_file
    no_contents = refl

    without_thread : has_thread (catalog_in new) next ≡ false
    without_thread =
        thread_known (catalog_in new) next
        ∙ ap is_some (threads3 law next dir a None r s (catalog_in old) (catalog_in new) h.mdb.next_id sound added next ∙ ap (λ (b : Bool). cond b None (thread_of (catalog_in old) next)) (eq-eqb next next refl))

    has_new_id : (new_file next now).id ≡ next
    unfolding new_file
    has_new_id = refl

    made_file : item_of (contents_in new) (catalog_in new) a ≡ new_item model.new_file dir name now
    made_file =
        file_item (contents_in new) (catalog_in new) a (file-no_dir (new_file next now))
        ∙ ap (λ (f : FileRecord). file_of (has_thread (catalog_in new) f.id) (contents_in new f) key f) (file-read (new_file next now) ok)
        ∙ (λ i. file_of ((ap (has_thread (catalog_in new)) has_new_id ∙ without_thread) i) (no_contents i) key (new_file next now))
        ∙ new_file_is next dir now name

    -- ---- counts

    more : (p : Record → Bool) → p s ≡ p r → count_by p (catalog_in new) ≡ count_by p (catalog_in old) + one_if (p a)
    more p alike = one_more_count law next dir a None r s (catalog_in old) (catalog_in new) h.mdb.next_id sound added p alike refl

    yes : (b : Bool) → b ≡ true → ◌≡◌ {A = ℕ} (one_if b) 1
    yes b e = ap one_if e

    no : (b : Bool) → b ≡ false → ◌≡◌ {A = ℕ} (one_if b) 0
    no b e = ap one_if e

    numbers : AreCountsSound counts (catalog_in new)
    unfolding counts_of
    numbers = record {
      root_files =
          let here : ◌≡◌ {A = ℕ} (one_if (is_file_in 2 a)) (one_if (eqb dir 2)) = ap (λ (b : Bool). one_if (b && eqb dir 2)) is_new_file in
          omega (arith, here, h.counts.root_files, more (is_file_in 2) (λ j. added.edit.alike.file j && eqb (added.edit.alike.key j).parent 2));
      root_folders =
          let here : ◌≡◌ {A = ℕ} (one_if (is_folder_in 2 a)) 0 = ap (λ (b : Bool). one_if (b && eqb dir 2)) (file-no_dir (new_file next now)) in
          omega (arith, here, h.counts.root_folders, more (is_folder_in 2) (λ j. added.edit.alike.dir j && eqb (added.edit.alike.key j).parent 2));
      files = omega (arith, yes (is_file a.1) is_new_file, h.counts.files, more (λ x. is_file x.1) added.edit.alike.file);
      folders = omega (arith, no (is_dir a.1) (file-no_dir (new_file next now)), h.counts.folders, more (λ x. is_dir x.1) added.edit.alike.dir);
    }

    -- ---- the whole

    made_step : (step (volume_in old) (call.Create dir name now)).0
        ≡ record (volume_in old) { items = touched (map.insert (items_in (contents_in old) (catalog_in old)) next (new_item model.new_file dir name now)) dir now; next_id = next + 1; changed = now }
    unfolding volume_in create
    made_step = ap (λ (e : Result ℕ ℤ). (add (volume_in old) e (λ id m. touched (map.insert m id (new_item model.new_file dir name now)) dir now) now).0) choice

    owned_after : (b : ℕ) → owners (owned_blocks (with_counts counts (mdb_in old)) (overflow_in old) (catalog_in new)) b ≡ owners (owned_in old) b
    unfolding owned_in
    owned_after b = added_owners law counts (mdb_in old) (overflow_in old) next dir a None r s (catalog_in old) (catalog_in new) h.mdb.next_id sound added h.forks new_file_forks b

    pub create_makes : MakesStep (call.Create dir name now) counts old new
    create_makes = record {
      edits = t.edits;
      beside = t.beside;
      tree = t.tree;
      frame = t.frame;
      index = t.index;
      near = near law next dir a None r s (catalog_in old) (catalog_in new) h.mdb.next_id sound added rises;
      items = touched (map.insert (items_in (contents_in old) (catalog_in old)) next (new_item model.new_file dir name now)) dir now;
      held = added_items law next dir a None r s (catalog_in old) (catalog_in new) h.mdb.next_id sound added (contents_in old) (contents_in new) now (new_item model.new_file dir name now)
          (keeps_contents counts total old new h t.edits) made_file (folder_touched r ((dir_record_of r.1).valence + 1) now folder ok_dir);
      made = made_step;
      least = omega (arith, h.mdb.next_id);
      numbers = numbers;
      free = refl;
      forks = added_forks law counts (mdb_in old) (overflow_in old) next dir a None r s (catalog_in old) (catalog_in new) h.mdb.next_id sound added h.forks new_file_forks;
      owned = owned_after;
    }

pub create_make_steps : ItemsAreRecords → ValencesAreCounted → CatalogIsSound → CreateMakes
create_make_steps law valences catalogs total now dir name r old new h choice d =
    let next = (mdb_in old).next_id in
    let may = may_create (volume_in old) dir name next choice in
    let room = short_by catalogs total old h valences dir r d.parent may.room in
    let came = has_added next dir now (file_record_in next dir name now) None r (catalog_in old) d.first d.first (catalog_in new) d.file_came (nothing_came d.first) d.folder_set
    (new_file_item next dir now name may.named d.file_value) d.parent d.folder_value room in
    create_makes law catalogs total now dir name r old new h d.parent.folder d.file_value d.folder_value choice came d.tree
