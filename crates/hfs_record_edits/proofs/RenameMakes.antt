-- Rename makes its step.
use Rattle.std.proofs.Common.{◌≡◌, inl, ℕ, ◌+◌, ◌-◌, Bool, true, false, cond, ◌&&◌, eqb, List, count_by, refl, sym, ◌∙◌, ap, Option, Some, None}
use Rattle.std.specs.Prelude.{Ok, Result, ℤ, is_some}
use Rattle.std.specs.List.{sum_by}
use Rattle.std.specs.FinMap as map
use Rattle.std.proofs.lemmas.Bool.{eqb-true}
use Rattle.hfs_fields.specs.declared.key.CatKey.{CatKey}
use Rattle.hfs_fields.specs.declared.mdb.Mdb.{Mdb}
use Rattle.hfs_fields.specs.Counts.{with_counts}
use Rattle.hfs_fields.specs.Keys.{cat_cmp}
use Rattle.hfs_fields.specs.Names.{is_item_name}
use Rattle.hfs_fields.specs.Records.{is_dir, is_file, is_thread, dir_record_of, file_record_of}
use Rattle.hfs_btree.specs.Pairs.{Rises}
use Rattle.hfs_space.specs.Extents.{Overflow}
use Rattle.hfs_space.specs.Owners.{owned_blocks, owners}
use Rattle.hfs_space.specs.Sound.{AreForksSound}
use Rattle.hfs_model.specs.declared.call.Call.TheVariants as call
use Rattle.hfs_model.specs.declared.item.Item.{Item}
use Rattle.hfs_model.specs.Volume.{Entry}
use Rattle.hfs_model.specs.Choices.{to_rename}
use Rattle.hfs_model.specs.Changes.{change, rename}
use Rattle.hfs_model.specs.Step.{step}
use Rattle.hfs_catalog.specs.Records.{Record, Catalog, item_with, has_thread}
use Rattle.hfs_catalog.specs.Lookups.{thread_of}
use Rattle.hfs_catalog.specs.Sound.{is_file_in, is_folder_in, counts_of, AreCountsSound, IsSoundCatalog}
use Rattle.hfs_catalog.specs.Items.{file_of, folder_of, item_of, items_in}
use Rattle.hfs_catalog.proofs.CatalogLawTypes.{ItemsAreRecords}
use Rattle.hfs_check.specs.Parts.{Blocks, mdb_in, overflow_in, catalog_in, owned_in}
use Rattle.hfs_check.specs.Sound.{AreBlocksSound}
use Rattle.hfs_check.proofs.LawTypes.{CatalogIsSound}
use Rattle.hfs_check.specs.VolumeOf.{contents_in, volume_in}
use Rattle.hfs_record_edits.proofs.StepsLaws.{IfThere, is_there}
use Rattle.hfs_record_edits.specs.Swaps.{Swaps}
use Rattle.hfs_catalog.proofs.Held.{with_id}
use Rattle.hfs_record_edits.proofs.ChangesLaws.{KeepsContents, led_to, IsItsThread, ItemRekeyed, HasRekeyed}
use Rattle.hfs_record_edits.specs.OnBlocks.{at_time, HasTree}
use Rattle.hfs_record_edits.specs.Laws.{MakesStep}
use Rattle.hfs_record_edits.specs.SettingLaws.{with_name}
use Rattle.hfs_record_edits.proofs.SettingLaws.{RenameMakes}
use Rattle.hfs_record_edits.proofs.Chosen.{may_rename}
use Rattle.hfs_record_edits.proofs.NewItems.{named_long}
use Rattle.hfs_record_edits.proofs.LedThreads.{its_led, led_there}
use Rattle.hfs_record_edits.proofs.Maps.{thread_known}
use Rattle.hfs_record_edits.proofs.Rekeyed.{as_turned, threads_after, renamed_near, rekeyed_items}
use Rattle.hfs_record_edits.proofs.TurnedForks as forks
use Rattle.hfs_record_edits.proofs.KeptSpace.{thread_no_dir, thread_no_file}
use Rattle.hfs_record_edits.proofs.CatalogEdits.{keeps_contents}
use Rattle.hfs_record_edits.proofs.Maps.{folder_item as dir_item}
use Rattle.hfs_record_edits.proofs.Made.{file_item}

-- ---- records that are counted, where an item has another key and the same body

module _ (next k : ℕ) (r : Record) (key : CatKey) (thread turned : Option Record) (old new : Catalog) (h : IsSoundCatalog next old)
    (moved : HasRekeyed k r (key, r.1) thread turned old new) where
  abbrev s : Record
  s = (key, r.1)

  pub as_many : (p : Record → Bool) → p s ≡ p r → ((t : Record) → is_thread t.1 ≡ true → p t ≡ false) → count_by p new ≡ count_by p old
  as_many = forks.as_many next k r s thread turned old new h (as_turned next k r s thread turned old new h moved)

  -- of any number that a thread doesn't have
  pub rekeyed_sum : (f : Record → ℕ) → ((t : Record) → is_thread t.1 ≡ true → f t ≡ 0) → sum_by f new + f r ≡ sum_by f old + f s
  rekeyed_sum = forks.turned_sum next k r s thread turned old new h (as_turned next k r s thread turned old new h moved)

  module _ (counts mdb : Mdb) (overflow : Overflow) (sound : AreForksSound mdb overflow old) where
    pub rekeyed_forks : AreForksSound (with_counts counts mdb) overflow new
    rekeyed_forks = forks.turned_forks next k r s thread turned old new h (as_turned next k r s thread turned old new h moved) counts mdb overflow sound refl

    pub rekeyed_owners : (b : ℕ) → owners (owned_blocks (with_counts counts mdb) overflow new) b ≡ owners (owned_blocks mdb overflow old) b
    rekeyed_owners = forks.turned_owners next k r s thread turned old new h (as_turned next k r s thread turned old new h moved) counts mdb overflow sound refl

  -- ---- the thread is there as before

  there : (o : Option Record) → is_there o ≡ is_some o
  there None = refl
  there (Some t) = refl

  pub threaded : (q : ℕ) → has_thread new q ≡ has_thread old q
  threaded q =
      thread_known new q ∙ ap is_some (threads_after next k r s thread turned old new h moved q) ∙ by (eqb k q) refl ∙ sym (thread_known old q)
    where
      by : (b : Bool) → eqb k q ≡ b → is_some (cond b turned (thread_of old q)) ≡ is_some (thread_of old q)
      by true same = sym (there turned) ∙ moved.both ∙ there thread ∙ ap is_some (sym moved.thread_was) ∙ ap (λ x. is_some (thread_of old x)) (eqb-true k q same)
      by false other = refl

-- ---- Rename

renamed_folder : (key : CatKey) (name body : List ℕ) → folder_of (record key { name = name }) (dir_record_of body) ≡ record (folder_of key (dir_record_of body)) { name = name }
unfolding folder_of
renamed_folder key name body = refl

renamed_file : (has : Bool) (forks : List ℕ × List ℕ) (key : CatKey) (name body : List ℕ)
    → file_of has forks (record key { name = name }) (file_record_of body) ≡ record (file_of has forks key (file_record_of body)) { name = name }
unfolding file_of
renamed_file has forks key name body = refl

module _ (law : ItemsAreRecords) (catalogs : CatalogIsSound) (total now k : ℕ) (r : Record) (new_name : List ℕ) (thread turned : Option Record) (old new : Blocks) (h : AreBlocksSound total old)
    (moved : HasRekeyed k r (record r.0 { name = new_name }, r.1) thread turned (catalog_in old) (catalog_in new)) (t : HasTree (at_time now (mdb_in old)) old new) where
  abbrev key : CatKey
  key = record r.0 { name = new_name }

  abbrev next : ℕ
  next = (mdb_in old).next_id

  abbrev item : Item
  item = item_of (contents_in old) (catalog_in old) r

  abbrev renamed : Item
  renamed = record item { name = new_name }

  sound : IsSoundCatalog next (catalog_in old)
  sound = catalogs total old h

  rises : Rises cat_cmp (catalog_in new)
  unfolding catalog_in
  rises = t.tree.ordered.rises

  contents_kept : KeepsContents (contents_in old) (contents_in new) (catalog_in old)
  contents_kept = keeps_contents (at_time now (mdb_in old)) total old new h t.edits

  made_item : (b : Bool) → is_dir r.1 ≡ b → item_of (contents_in new) (catalog_in new) (key, r.1) ≡ renamed
  made_item true d =
      dir_item (contents_in new) (catalog_in new) (key, r.1) d ∙ renamed_folder r.0 new_name r.1
      ∙ ap (λ (y : Item). record y { name = new_name }) (sym (dir_item (contents_in old) (catalog_in old) r d))
  made_item false d =
      let f = file_record_of r.1 in
      file_item (contents_in new) (catalog_in new) (key, r.1) d
      ∙ (λ j. file_of (threaded next k r key thread turned (catalog_in old) (catalog_in new) sound moved f.id j) (contents_kept k r moved.was d j) key f)
      ∙ renamed_file (has_thread (catalog_in old) f.id) (contents_in old f) r.0 new_name r.1
      ∙ ap (λ (y : Item). record y { name = new_name }) (sym (file_item (contents_in old) (catalog_in old) r d))

  as_before : (p : Record → Bool) → p (key, r.1) ≡ p r → ((x : Record) → is_thread x.1 ≡ true → p x ≡ false) → count_by p (catalog_in new) ≡ count_by p (catalog_in old)
  as_before = as_many next k r key thread turned (catalog_in old) (catalog_in new) sound moved

  numbers : AreCountsSound (at_time now (mdb_in old)) (catalog_in new)
  unfolding counts_of
  numbers = record {
    root_files = h.counts.root_files ∙ sym (as_before (is_file_in 2) refl (λ x i j. thread_no_file x i j && eqb x.0.parent 2));
    root_folders = h.counts.root_folders ∙ sym (as_before (is_folder_in 2) refl (λ x i j. thread_no_dir x i j && eqb x.0.parent 2));
    files = h.counts.files ∙ sym (as_before (λ x. is_file x.1) refl thread_no_file);
    folders = h.counts.folders ∙ sym (ap (λ (n : ℕ). n - 1) (as_before (λ x. is_dir x.1) refl thread_no_dir));
  }

  owned_after : (b : ℕ) → owners (owned_blocks (with_counts (at_time now (mdb_in old)) (mdb_in old)) (overflow_in old) (catalog_in new)) b ≡ owners (owned_in old) b
  unfolding owned_in
  owned_after = rekeyed_owners next k r key thread turned (catalog_in old) (catalog_in new) sound moved (at_time now (mdb_in old)) (mdb_in old) (overflow_in old) h.forks

  module _ (dir : ℕ) (name : List ℕ) (choice : to_rename (volume_in old) dir name new_name ≡ Ok (k, item)) where
    made_step : (step (volume_in old) (call.Rename dir name new_name now)).0
        ≡ record (volume_in old) { items = map.insert (items_in (contents_in old) (catalog_in old)) k renamed; next_id = next; changed = now }
    unfolding volume_in rename
    made_step = ap (λ (e : Result Entry ℤ). (change (volume_in old) e (λ e m. map.insert m e.0 (record e.1 { name = new_name })) now).0) choice

    pub rename_makes : MakesStep (call.Rename dir name new_name now) (at_time now (mdb_in old)) old new
    rename_makes = record {
      edits = t.edits;
      beside = t.beside;
      tree = t.tree;
      frame = t.frame;
      index = t.index;
      near = renamed_near next k r (key, r.1) thread turned (catalog_in old) (catalog_in new) sound moved refl rises;
      items = map.insert (items_in (contents_in old) (catalog_in old)) k renamed;
      held = rekeyed_items next k r (key, r.1) thread turned (catalog_in old) (catalog_in new) sound moved law (contents_in old) (contents_in new) contents_kept
          ∙ ap (map.insert (items_in (contents_in old) (catalog_in old)) k) (made_item (is_dir r.1) refl);
      made = made_step;
      least = h.mdb.next_id;
      numbers = numbers;
      free = refl;
      forks = rekeyed_forks next k r key thread turned (catalog_in old) (catalog_in new) sound moved (at_time now (mdb_in old)) (mdb_in old) (overflow_in old) h.forks;
      owned = owned_after;
    }

-- the item stays what it is
has_rekeyed : (k : ℕ) (r : Record) (new_name : List ℕ) (turned : Option Record) (old second new : Catalog) → item_with old k ≡ Some r → is_item_name new_name ≡ true
    → ItemRekeyed r (with_name new_name r) old second → Swaps (thread_of old k) turned second new → IfThere (IsItsThread k (with_name new_name r)) turned
    → is_there turned ≡ is_there (thread_of old k) → HasRekeyed k r (with_name new_name r) (thread_of old k) turned old new
has_rekeyed k r new_name turned old second new was named item_moved thread_set its both = record {
  second = second;
  item_moved = item_moved;
  thread_set = thread_set;
  was = was;
  thread_was = refl;
  dir = refl;
  file = refl;
  id = refl;
  name = named;
  record_form = inl ((with_id old k r was).1, named_long new_name named);
  valence = λ folder. refl;
  its = its;
  both = both;
}

pub rename_make_steps : ItemsAreRecords → CatalogIsSound → RenameMakes
rename_make_steps law catalogs total now dir name new_name r old new h c d =
    let catalog = catalog_in old in
    let key = (with_name new_name r).0 in
    let thread = thread_of catalog c.id in
    let named = (may_rename (volume_in old) dir name new_name _ c.is).named in
    let its = its_led (mdb_in old).next_id catalog (catalogs total old h) c.id r (with_name new_name r) c.was refl named d.thread_value in
    let rekeyed = has_rekeyed c.id r new_name (led_to c.id key thread) catalog d.second (catalog_in new) c.was named d.item_moved d.thread_set its (led_there c.id key thread) in
    rename_makes law catalogs total now c.id r new_name thread (led_to c.id key thread) old new h rekeyed d.tree dir name c.is
