-- CatMove makes its step.
use Rattle.std.proofs.Common.{◌≡◌, ℕ, ◌+◌, ◌-◌, ◌≤◌, Bool, true, false, not, ◌&&◌, eqb, List, [], count_by, refl, sym, ◌∙◌, ap, subst, arith, Option, Some}
use Rattle.std.specs.Prelude.{Result, ℤ, is_some}
use Rattle.std.specs.List.{list_any}
use Rattle.std.specs.FinMap as map
use Rattle.hfs_fields.specs.declared.key.CatKey.{CatKey}
use Rattle.hfs_fields.specs.declared.mdb.Mdb.{Mdb}
use Rattle.hfs_fields.specs.Counts.{with_counts}
use Rattle.hfs_fields.specs.Keys.{cat_cmp}
use Rattle.hfs_fields.specs.Records.{is_dir, is_file, dir_record_of, file_record_of}
use Rattle.hfs_fields.specs.Each.{Each}
use Rattle.hfs_btree.specs.Pairs.{Rises}
use Rattle.hfs_space.specs.Owners.{Fork, forks_of, owned_blocks, owners}
use Rattle.hfs_space.specs.Sound.{IsForkSound, AreForksSound}
use Rattle.hfs_model.specs.declared.call.Call.TheVariants as call
use Rattle.hfs_model.specs.declared.item.Item.{Item}
use Rattle.hfs_model.specs.Volume as model
use Rattle.hfs_model.specs.Volume.{Entry}
use Rattle.hfs_model.specs.Choices.{to_move}
use Rattle.hfs_model.specs.Changes.{change, cat_move, touched, moved}
use Rattle.hfs_model.specs.Step.{step}
use Rattle.hfs_catalog.specs.Records.{Record, has_thread}
use Rattle.hfs_catalog.specs.Lookups.{thread_of}
use Rattle.hfs_catalog.specs.Sound.{is_file_in, is_folder_in, counts_of, AreCountsSound}
use Rattle.hfs_catalog.specs.Items.{file_of, folder_of, item_of, items_in}
use Rattle.hfs_catalog.proofs.CatalogLawTypes.{ItemsAreRecords, ValencesAreCounted}
use Rattle.hfs_check.specs.Parts.{Blocks, mdb_in, overflow_in, catalog_in, owned_in}
use Rattle.hfs_check.specs.Sound.{AreBlocksSound}
use Rattle.hfs_check.proofs.LawTypes.{CatalogIsSound}
use Rattle.hfs_check.specs.VolumeOf.{contents_in, volume_in}
use Rattle.hfs_record_edits.specs.Swaps.{one_if}
use Rattle.hfs_record_edits.proofs.SwapLemmas.{swapped_each}
use Rattle.hfs_record_edits.specs.Changes.{folder_with}
use Rattle.hfs_record_edits.proofs.ChangesLaws.{KeepsContents, led_to, HasMoved}
use Rattle.hfs_record_edits.specs.OnBlocks.{HasTree}
use Rattle.hfs_record_edits.specs.Laws.{MakesStep}
use Rattle.hfs_record_edits.specs.SettingLaws.{IsChoice}
use Rattle.hfs_record_edits.specs.MoveLaws.{under_folder, with_moved}
use Rattle.hfs_record_edits.proofs.MoveLaws.{HasMovedItem, CatMoveMakes}
use Rattle.hfs_catalog.proofs.Held.{with_id}
use Rattle.hfs_record_edits.proofs.Maps.{thread_known}
use Rattle.hfs_record_edits.proofs.Move as move
use Rattle.hfs_record_edits.proofs.MovedItem.{threads2, moved_near, moved_items}
use Rattle.hfs_record_edits.proofs.Rekeyed.{threads_after}
use Rattle.hfs_record_edits.proofs.RenameMakes.{rekeyed_forks, threaded}
use Rattle.hfs_record_edits.proofs.Space.{record_has, forks_have}
use Rattle.hfs_record_edits.proofs.ForkLemmas.{forks_kept, owners_kept}
use Rattle.hfs_record_edits.proofs.KeptSpace.{no_file_forks, thread_no_dir, thread_no_file}
use Rattle.hfs_record_edits.proofs.CatalogEdits.{keeps_contents}
use Rattle.hfs_record_edits.proofs.Maps.{folder_item as dir_item}
use Rattle.hfs_record_edits.proofs.Made.{file_item, dir-not_file, other_kind, folder_touched}

moved_folder : (key : CatKey) (dir : ℕ) (body : List ℕ) → folder_of (record key { parent = dir }) (dir_record_of body) ≡ record (folder_of key (dir_record_of body)) { parent = dir }
unfolding folder_of
moved_folder key dir body = refl

moved_file : (has : Bool) (forks : List ℕ × List ℕ) (key : CatKey) (dir : ℕ) (body : List ℕ)
    → file_of has forks (record key { parent = dir }) (file_record_of body) ≡ record (file_of has forks key (file_record_of body)) { parent = dir }
unfolding file_of
moved_file has forks key dir body = refl

module _ (law : ItemsAreRecords) (valences : ValencesAreCounted) (catalogs : CatalogIsSound) (total now from to : ℕ) (name : List ℕ) (r r1 r2 : Record) (old new : Blocks) (h : AreBlocksSound total old)
    (c : IsChoice old (to_move (volume_in old) from name to) r) (d : HasMovedItem c.id from to r r1 r2 now (catalog_in old) (catalog_in new))
    (t : HasTree (with_moved (is_dir r.1) from to now (mdb_in old)) old new) where
  abbrev next : ℕ
  next = (mdb_in old).next_id

  abbrev counts : Mdb
  counts = with_moved (is_dir r.1) from to now (mdb_in old)

  abbrev thread : Option Record
  thread = thread_of (catalog_in old) c.id

  abbrev s : Record
  s = under_folder to r

  abbrev s1 : Record
  s1 = folder_with ((dir_record_of r1.1).valence - 1) now r1

  abbrev s2 : Record
  s2 = folder_with ((dir_record_of r2.1).valence + 1) now r2

  abbrev turned : Option Record
  turned = led_to c.id s.0 thread

  abbrev item : Item
  item = item_of (contents_in old) (catalog_in old) r

  abbrev came : Item
  came = record item { parent = to }

  whole : HasMoved c.id from to r s thread turned r1 s1 r2 s2 (catalog_in old) (catalog_in new)
  whole = move.moved law catalogs total now from to name r r1 r2 old (catalog_in new) h c d valences

  rises : Rises cat_cmp (catalog_in new)
  unfolding catalog_in
  rises = t.tree.ordered.rises

  contents_kept : KeepsContents (contents_in old) (contents_in new) (catalog_in old)
  contents_kept = keeps_contents counts total old new h t.edits

  -- ---- the item

  still_threaded : (q : ℕ) → has_thread (catalog_in new) q ≡ has_thread (catalog_in old) q
  still_threaded q =
      let sound = move.sound law catalogs total now from to name r r1 r2 old (catalog_in new) h c d in
      let rekeyed = move.rekeyed law catalogs total now from to name r r1 r2 old (catalog_in new) h c d in
      thread_known (catalog_in new) q
      ∙ ap is_some (threads2 next c.id from to r s thread turned r1 s1 r2 s2 (catalog_in old) (catalog_in new) sound whole q ∙ sym (threads_after next c.id r s thread turned (catalog_in old) d.middle sound rekeyed q))
      ∙ sym (thread_known d.middle q)
      ∙ threaded next c.id r s.0 thread turned (catalog_in old) d.middle sound rekeyed q

  made_item : (b : Bool) → is_dir r.1 ≡ b → item_of (contents_in new) (catalog_in new) s ≡ came
  made_item true folder =
      dir_item (contents_in new) (catalog_in new) s folder ∙ moved_folder r.0 to r.1
      ∙ ap (λ (y : Item). record y { parent = to }) (sym (dir_item (contents_in old) (catalog_in old) r folder))
  made_item false file =
      let f = file_record_of r.1 in
      file_item (contents_in new) (catalog_in new) s file
      ∙ (λ j. file_of (still_threaded f.id j) (contents_kept c.id r c.was file j) s.0 f)
      ∙ moved_file (has_thread (catalog_in old) f.id) (contents_in old f) r.0 to r.1
      ∙ ap (λ (y : Item). record y { parent = to }) (sym (file_item (contents_in old) (catalog_in old) r file))

  -- ---- counts

  numbers : AreCountsSound counts (catalog_in new)
  unfolding counts_of
  numbers =
      let kind : is_file r.1 ≡ not (is_dir r.1) = other_kind r (with_id (catalog_in old) c.id r c.was).1 in
      let one = whole.first.alike in
      let two = whole.second.alike in
      let was_under = whole.left in
      let files_left : ◌≡◌ {A = ℕ} (one_if (is_file_in 2 r)) (one_if (not (is_dir r.1) && eqb from 2)) = λ i. one_if (kind i && eqb (was_under i) 2) in
      let files_came : ◌≡◌ {A = ℕ} (one_if (is_file_in 2 s)) (one_if (not (is_dir r.1) && eqb to 2)) = λ i. one_if (kind i && eqb to 2) in
      let folders_left : ◌≡◌ {A = ℕ} (one_if (is_folder_in 2 r)) (one_if (is_dir r.1 && eqb from 2)) = λ i. one_if (is_dir r.1 && eqb (was_under i) 2) in
      record {
        root_files =
            let all = move.moved_sum law catalogs total now from to name r r1 r2 old (catalog_in new) h c d (λ x. one_if (is_file_in 2 x))
            (λ x i. ap (λ (b : Bool). one_if (b && eqb x.0.parent 2)) (thread_no_file x i))
            (λ j. one_if (one.file j && eqb (one.key j).parent 2)) (λ j. one_if (two.file j && eqb (two.key j).parent 2)) in
            omega (arith, h.counts.root_files, all, files_left, files_came);
        root_folders =
            let all = move.moved_sum law catalogs total now from to name r r1 r2 old (catalog_in new) h c d (λ x. one_if (is_folder_in 2 x))
            (λ x i. ap (λ (b : Bool). one_if (b && eqb x.0.parent 2)) (thread_no_dir x i))
            (λ j. one_if (one.dir j && eqb (one.key j).parent 2)) (λ j. one_if (two.dir j && eqb (two.key j).parent 2)) in
            omega (arith, h.counts.root_folders, all, folders_left);
        files =
            let all = move.moved_sum law catalogs total now from to name r r1 r2 old (catalog_in new) h c d (λ x. one_if (is_file x.1))
            (λ x i. ap one_if (thread_no_file x i)) (ap one_if one.file) (ap one_if two.file) in
            omega (arith, h.counts.files, all);
        folders =
            let all = move.moved_sum law catalogs total now from to name r r1 r2 old (catalog_in new) h c d (λ x. one_if (is_dir x.1))
            (λ x i. ap one_if (thread_no_dir x i)) (ap one_if one.dir) (ap one_if two.dir) in
            omega (arith, h.counts.folders, all);
      }

  -- ---- forks

  no_forks : (x : Record) → is_dir x.1 ≡ true → forks_of x ≡ []
  no_forks x folder = no_file_forks x (dir-not_file x.1 folder)

  first_same : forks_of s1 ≡ forks_of r1
  first_same = no_forks s1 (whole.first.alike.dir ∙ d.left.folder) ∙ sym (no_forks r1 d.left.folder)

  second_same : forks_of s2 ≡ forks_of r2
  second_same = no_forks s2 (whole.second.alike.dir ∙ d.entered.folder) ∙ sym (no_forks r2 d.entered.folder)

  more : (p : Fork → Bool) → count_by (λ x. list_any p (forks_of x)) (catalog_in old) ≤ count_by (λ x. list_any p (forks_of x)) (catalog_in new)
  more p =
      let all = move.moved_sum law catalogs total now from to name r r1 r2 old (catalog_in new) h c d (λ x. one_if (list_any p (forks_of x)))
      (λ x i. ap (λ (fs : List Fork). one_if (list_any p fs)) (no_file_forks x (thread_no_file x i)))
      (ap (λ (fs : List Fork). one_if (list_any p fs)) first_same) (ap (λ (fs : List Fork). one_if (list_any p fs)) second_same) in
      omega (arith, all)

  forks_after : AreForksSound (with_counts counts (mdb_in old)) (overflow_in old) (catalog_in new)
  forks_after =
      let P = λ (x : Record). Each (IsForkSound (mdb_in old) (overflow_in old)) (forks_of x) in
      let sound = move.sound law catalogs total now from to name r r1 r2 old (catalog_in new) h c d in
      let rekeyed = move.rekeyed law catalogs total now from to name r r1 r2 old (catalog_in new) h c d in
      let half : AreForksSound (mdb_in old) (overflow_in old) d.middle = rekeyed_forks next c.id r s.0 thread turned (catalog_in old) d.middle sound rekeyed (mdb_in old) (mdb_in old) (overflow_in old) h.forks in
      let none : (x : Record) → is_dir x.1 ≡ true → P x = λ x folder. subst (Each (IsForkSound (mdb_in old) (overflow_in old))) (sym (no_forks x folder)) tt in
      let one = swapped_each P (Some r1) (Some s1) d.middle d.third d.first_set half.files (none s1 (whole.first.alike.dir ∙ d.left.folder), tt) in
      let two = swapped_each P (Some r2) (Some s2) d.third (catalog_in new) d.second_set one (none s2 (whole.second.alike.dir ∙ d.entered.folder), tt) in
      forks_kept counts (mdb_in old) (overflow_in old) (catalog_in old) (catalog_in new) more two h.forks

  owned_after : (b : ℕ) → owners (owned_blocks (with_counts counts (mdb_in old)) (overflow_in old) (catalog_in new)) b ≡ owners (owned_in old) b
  unfolding owned_in
  owned_after b =
      let has = forks_have (mdb_in old) (overflow_in old) b in
      let all = move.moved_sum law catalogs total now from to name r r1 r2 old (catalog_in new) h c d (record_has (mdb_in old) (overflow_in old) b)
      (λ x i. ap has (no_file_forks x (thread_no_file x i))) (ap has first_same) (ap has second_same) in
      owners_kept counts (mdb_in old) (overflow_in old) (catalog_in old) (catalog_in new) b (omega (arith, all))

  -- ---- the whole

  abbrev items : model.Items
  items = touched (touched (map.insert (items_in (contents_in old) (catalog_in old)) c.id came) from now) to now

  made_step : (step (volume_in old) (call.CatMove from name to now)).0 ≡ record (volume_in old) { items = items; next_id = next; changed = now }
  unfolding volume_in cat_move
  made_step = ap (λ (e : Result Entry ℤ). (change (volume_in old) e (λ e m. moved m e from to now) now).0) c.is

  pub cat_move_makes : MakesStep (call.CatMove from name to now) counts old new
  cat_move_makes =
      let sound = move.sound law catalogs total now from to name r r1 r2 old (catalog_in new) h c d in
      record {
        edits = t.edits;
        beside = t.beside;
        tree = t.tree;
        frame = t.frame;
        index = t.index;
        near = moved_near next c.id from to r s thread turned r1 s1 r2 s2 (catalog_in old) (catalog_in new) sound whole rises;
        items = items;
        held = moved_items next c.id from to r s thread turned r1 s1 r2 s2 (catalog_in old) (catalog_in new) sound whole law (contents_in old) (contents_in new) now came
            contents_kept (made_item (is_dir r.1) refl)
            (folder_touched r1 ((dir_record_of r1.1).valence - 1) now d.left.folder d.left_value) (folder_touched r2 ((dir_record_of r2.1).valence + 1) now d.entered.folder d.entered_value);
        made = made_step;
        least = h.mdb.next_id;
        numbers = numbers;
        free = refl;
        forks = forks_after;
        owned = owned_after;
      }

pub cat_move_steps : ItemsAreRecords → ValencesAreCounted → CatalogIsSound → CatMoveMakes
cat_move_steps law valences catalogs total now dir new_dir name r r1 r2 old new h c d = cat_move_makes law valences catalogs total now dir new_dir name r r1 r2 old new h c d.moved d.tree
