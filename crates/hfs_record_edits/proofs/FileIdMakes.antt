-- CreateFileId and DeleteFileId make their steps.
use Rattle.std.proofs.Common.{◌≡◌, inl, ⊎_elim, ℕ, ◌-◌, ◌≤◌, Bool, true, false, cond, ◌&&◌, eqb, List, [], length, count_by, refl, sym, ◌∙◌, ap, subst, arith, Option, Some, None}
use Rattle.std.specs.Prelude.{Ok, Result, ℤ, IsTrue, is_some}
use Rattle.std.specs.FinMap as map
use Rattle.std.proofs.lemmas.Bool.{eq-eqb, true≢false, or_right}
use Rattle.hfs_fields.specs.declared.file_record.FileRecord.{FileRecord}
use Rattle.hfs_fields.specs.declared.key.CatKey.{CatKey}
use Rattle.hfs_fields.specs.declared.thread_record.ThreadKind.TheVariants.{File}
use Rattle.hfs_fields.specs.Counts.{with_counts}
use Rattle.hfs_fields.specs.Keys.{cat_cmp}
use Rattle.hfs_fields.specs.Names.{is_item_name}
use Rattle.hfs_fields.specs.Records.{is_dir, is_file, is_item, is_thread, item_id, file_record_of, is_bit_set, with_bit, new_thread}
use Rattle.hfs_fields.specs.RecordForms.{IsFileRecordValue, file_record_bytes}
use Rattle.hfs_fields.specs.Members.{In}
use Rattle.hfs_fields.proofs.MemberLemmas.{each_in}
use Rattle.hfs_btree.specs.Pairs.{Rises}
use Rattle.hfs_space.specs.Owners.{forks_of, forks_of_file, owned_blocks, owners}
use Rattle.hfs_model.specs.declared.call.Call.{Call}
use Rattle.hfs_model.specs.declared.call.Call.TheVariants as call
use Rattle.hfs_model.specs.declared.codes.TheConstants.{FILE_ID_EXISTS, NOT_A_FILE}
use Rattle.hfs_model.specs.declared.item.Item.{Item}
use Rattle.hfs_model.specs.declared.item.Kind.TheVariants as kind
use Rattle.hfs_model.specs.Volume.{Volume, Entry}
use Rattle.hfs_model.specs.Children.{is_folder_kind}
use Rattle.hfs_model.specs.Replies as told
use Rattle.hfs_model.specs.Changes.{change}
use Rattle.hfs_model.specs.FileIds.{with_thread_bit, with_thread, set_thread, to_create_file_id, change_to_id, create_file_id, delete_file_id}
use Rattle.hfs_model.specs.Choices.{child_to_change}
use Rattle.hfs_model.specs.Step.{step}
use Rattle.hfs_catalog.proofs.FileRecords.{not-dir}
use Rattle.hfs_catalog.specs.Records.{Record, Catalog, item_with, has_thread}
use Rattle.hfs_catalog.specs.Lookups.{thread_of}
use Rattle.hfs_catalog.specs.Sound.{IsRecord, is_file_in, is_folder_in, counts_of, AreCountsSound, IsSoundCatalog}
use Rattle.hfs_catalog.specs.Items.{file_kept, file_of, item_of, items_in}
use Rattle.hfs_catalog.proofs.CatalogLawTypes.{ItemsAreRecords}
use Rattle.hfs_check.specs.Parts.{Blocks, mdb_in, overflow_in, catalog_in, owned_in}
use Rattle.hfs_check.specs.Sound.{AreBlocksSound}
use Rattle.hfs_check.proofs.LawTypes.{CatalogIsSound}
use Rattle.hfs_check.specs.VolumeOf.{bytes_in, contents_in, volume_in}
use Rattle.hfs_record_edits.specs.Swaps.{Swaps}
use Rattle.hfs_record_edits.proofs.OnceLemmas.{item_or_thread}
use Rattle.hfs_record_edits.proofs.StepsLaws.{IfThere, is_there}
use Rattle.hfs_record_edits.specs.Changes.{thread_record}
use Rattle.hfs_record_edits.proofs.ChangesLaws.{KeepsContents, IsAlike, IsItsThread}
use Rattle.hfs_record_edits.specs.OnBlocks.{at_time, HasTree}
use Rattle.hfs_record_edits.specs.Laws.{MakesStep}
use Rattle.hfs_record_edits.specs.FileIdLaws.{with_thread_flag}
use Rattle.hfs_record_edits.proofs.FileIdLaws.{file_with_flag, CreateFileIdMakes, DeleteFileIdMakes}
use Rattle.hfs_record_edits.proofs.PlaceLaws.{FileIsThreadless}
use Rattle.hfs_catalog.proofs.Held.{with_id}
use Rattle.hfs_record_edits.proofs.Items.{item_kind}
use Rattle.hfs_record_edits.proofs.Maps.{thread_known}
use Rattle.hfs_record_edits.proofs.LedThreads.{new_thread_is}
use Rattle.hfs_record_edits.proofs.StepLemmas.{item_threads}
use Rattle.hfs_record_edits.proofs.Linked.{sound_once}
use Rattle.hfs_record_edits.proofs.SetItems.{edit_step}
use Rattle.hfs_model.proofs.KeepsCalls.{chained}
use Rattle.hfs_model.proofs.Facts.{not_refused as unless}
use Rattle.hfs_record_edits.proofs.Chosen.{same_ok}
use Rattle.hfs_record_edits.proofs.Turned.{HasTurned, threads_after, renamed_near, rekeyed_items}
use Rattle.hfs_record_edits.proofs.TurnedForks.{as_many, turned_forks, turned_owners}
use Rattle.hfs_record_edits.proofs.KeptSpace.{thread_no_dir, thread_no_file}
use Rattle.hfs_record_edits.proofs.CatalogEdits.{keeps_contents}
use Rattle.hfs_record_edits.proofs.Made.{kept_with, file-no_dir, file-is, file_id, file_item, file-read, file_alike}

-- ---- bit 1 of the flags

same_lock : (flags : ℕ) (there : Bool) → is_bit_set 0 (with_bit 1 there flags) ≡ is_bit_set 0 flags
same_lock flags true = ap (λ (n : ℕ). eqb n 1) (omega arith)
same_lock flags false = ap (λ (n : ℕ). eqb n 1) (omega arith)

either_first : (flags : ℕ) (there : Bool) → with_bit 0 false (with_bit 1 there flags) ≡ with_bit 1 there (with_bit 0 false flags)
either_first flags true = omega arith
either_first flags false = omega arith

kept_bit : (f : FileRecord) (there : Bool) → file_kept (with_thread_flag there f) ≡ with_thread_bit there (file_kept f)
unfolding file_kept kept_with file_record_bytes with_thread_bit
kept_bit f there = ap (kept_with f) (either_first f.flags.0 there)

flagged : (has there : Bool) (forks : List ℕ × List ℕ) (key : CatKey) (f : FileRecord)
    → file_of there forks key (with_thread_flag there f) ≡ record (file_of has forks key f) { kind = with_thread there (file_of has forks key f).kind }
unfolding file_of
flagged has there forks key f =
    λ j. record (file_of has forks key f) {
      kind = kind.File (record { kept = kept_bit f there j; locked = same_lock f.flags.0 there j; has_thread = there; «data» = forks.0; resource = forks.1 });
    }

flag_forks : (there : Bool) (f : FileRecord) → forks_of_file (with_thread_flag there f) ≡ forks_of_file f
unfolding forks_of_file
flag_forks there f = refl

flag_contents : (blocks : Blocks) (there : Bool) (f : FileRecord) → contents_in blocks (with_thread_flag there f) ≡ contents_in blocks f
unfolding contents_in bytes_in
flag_contents blocks there f = refl

-- ---- any file whose thread came or went

module _ (law : ItemsAreRecords) (catalogs : CatalogIsSound) (total now k : ℕ) (r : Record) (there : Bool) (thread turned : Option Record) (old new : Blocks) (h : AreBlocksSound total old)
    (file : is_file r.1 ≡ true) (ok : IsFileRecordValue (with_thread_flag there (file_record_of r.1)))
    (moved : HasTurned k r (file_with_flag there r) thread turned (catalog_in old) (catalog_in new)) (so : is_there turned ≡ there) (t : HasTree (at_time now (mdb_in old)) old new) where
  abbrev next : ℕ
  next = (mdb_in old).next_id

  abbrev f : FileRecord
  f = file_record_of r.1

  abbrev g : FileRecord
  g = with_thread_flag there f

  abbrev s : Record
  s = file_with_flag there r

  abbrev item : Item
  item = item_of (contents_in old) (catalog_in old) r

  abbrev flagged_item : Item
  flagged_item = record item { kind = with_thread there item.kind }

  sound : IsSoundCatalog next (catalog_in old)
  sound = catalogs total old h

  rises : Rises cat_cmp (catalog_in new)
  unfolding catalog_in
  rises = t.tree.ordered.rises

  contents_kept : KeepsContents (contents_in old) (contents_in new) (catalog_in old)
  contents_kept = keeps_contents (at_time now (mdb_in old)) total old new h t.edits

  alike : IsAlike r s
  alike = file_alike r g file ok refl

  -- ---- the item

  own_id : f.id ≡ k
  own_id = sym (file_id r.1 (not-dir r.1 file)) ∙ (with_id (catalog_in old) k r moved.was).2

  known : (o : Option Record) → is_some o ≡ is_there o
  known None = refl
  known (Some x) = refl

  threaded : has_thread (catalog_in new) g.id ≡ there
  threaded =
      ap (has_thread (catalog_in new)) own_id ∙ thread_known (catalog_in new) k
      ∙ ap is_some (threads_after next k r s thread turned (catalog_in old) (catalog_in new) sound moved k ∙ ap (λ (b : Bool). cond b turned (thread_of (catalog_in old) k)) (eq-eqb k k refl))
      ∙ known turned ∙ so

  made_item : item_of (contents_in new) (catalog_in new) s ≡ flagged_item
  made_item =
      file_item (contents_in new) (catalog_in new) s (file-no_dir g)
      ∙ ap (λ (x : FileRecord). file_of (has_thread (catalog_in new) x.id) (contents_in new x) r.0 x) (file-read g ok)
      ∙ (λ j. file_of (threaded j) ((flag_contents new there f ∙ contents_kept k r moved.was (not-dir r.1 file)) j) r.0 g)
      ∙ flagged (has_thread (catalog_in old) f.id) there (contents_in old f) r.0 f
      ∙ ap (λ (y : Item). record y { kind = with_thread there y.kind }) (sym (file_item (contents_in old) (catalog_in old) r (not-dir r.1 file)))

  -- ---- counts and forks

  as_before : (p : Record → Bool) → p s ≡ p r → ((x : Record) → is_thread x.1 ≡ true → p x ≡ false) → count_by p (catalog_in new) ≡ count_by p (catalog_in old)
  as_before = as_many next k r s thread turned (catalog_in old) (catalog_in new) sound moved

  numbers : AreCountsSound (at_time now (mdb_in old)) (catalog_in new)
  unfolding counts_of
  numbers = record {
    root_files = h.counts.root_files ∙ sym (as_before (is_file_in 2) (λ j. alike.file j && eqb r.0.parent 2) (λ x i j. thread_no_file x i j && eqb x.0.parent 2));
    root_folders = h.counts.root_folders ∙ sym (as_before (is_folder_in 2) (λ j. alike.dir j && eqb r.0.parent 2) (λ x i j. thread_no_dir x i j && eqb x.0.parent 2));
    files = h.counts.files ∙ sym (as_before (λ x. is_file x.1) alike.file thread_no_file);
    folders = h.counts.folders ∙ sym (ap (λ (n : ℕ). n - 1) (as_before (λ x. is_dir x.1) alike.dir thread_no_dir));
  }

  same_forks : forks_of s ≡ forks_of r
  same_forks =
      ap (λ (b : Bool). cond b (forks_of_file (file_record_of (file_record_bytes g))) []) (file-is g ok) ∙ ap forks_of_file (file-read g ok) ∙ flag_forks there f
      ∙ sym (ap (λ (b : Bool). cond b (forks_of_file f) []) file)

  owned_after : (b : ℕ) → owners (owned_blocks (with_counts (at_time now (mdb_in old)) (mdb_in old)) (overflow_in old) (catalog_in new)) b ≡ owners (owned_in old) b
  unfolding owned_in
  owned_after = turned_owners next k r s thread turned (catalog_in old) (catalog_in new) sound moved (at_time now (mdb_in old)) (mdb_in old) (overflow_in old) h.forks same_forks

  pub thread_makes : (c : Call) → (step (volume_in old) c).0 ≡ record (volume_in old) { items = map.insert (items_in (contents_in old) (catalog_in old)) k flagged_item; next_id = next; changed = now }
      → MakesStep c (at_time now (mdb_in old)) old new
  thread_makes c made = record {
    edits = t.edits;
    beside = t.beside;
    tree = t.tree;
    frame = t.frame;
    index = t.index;
    near = renamed_near next k r s thread turned (catalog_in old) (catalog_in new) sound moved refl rises;
    items = map.insert (items_in (contents_in old) (catalog_in old)) k flagged_item;
    held = rekeyed_items next k r s thread turned (catalog_in old) (catalog_in new) sound moved law (contents_in old) (contents_in new) contents_kept
        ∙ ap (map.insert (items_in (contents_in old) (catalog_in old)) k) made_item;
    made = made;
    least = h.mdb.next_id;
    numbers = numbers;
    free = refl;
    forks = turned_forks next k r s thread turned (catalog_in old) (catalog_in new) sound moved (at_time now (mdb_in old)) (mdb_in old) (overflow_in old) h.forks same_forks;
    owned = owned_after;
  }

-- ---- the record stands in its place

module _ (next k : ℕ) (r : Record) (there : Bool) (thread turned : Option Record) (old second new : Catalog) (h : IsSoundCatalog next old)
    (file : is_file r.1 ≡ true) (ok : IsFileRecordValue (with_thread_flag there (file_record_of r.1))) where
  abbrev flagged_record : Record
  flagged_record = file_with_flag there r

  pub turned_in_place : thread_of old k ≡ thread → Swaps (Some r) (Some flagged_record) old second → Swaps thread turned second new → IfThere (IsItsThread k flagged_record) turned
      → In r old × (is_item r.1 ≡ true) × (item_id r.1 ≡ k) → item_with old k ≡ Some r → HasTurned k r flagged_record thread turned old new
  turned_in_place thread_was set turn its own was =
      let alike : IsAlike r flagged_record = file_alike r (with_thread_flag there (file_record_of r.1)) file ok refl in
      let named : 1 ≤ length r.0.name = ⊎_elim (λ x. x.1) (λ x. absurd (item_or_thread r.1 own.1 x.0)) (each_in IsRecord old r h.records own.0) in
      let form : IsRecord flagged_record = inl (or_right (is_dir flagged_record.1) (is_file flagged_record.1) (alike.file ∙ file), named) in
      record {
        second = second;
        item_moved = inl set;
        thread_set = turn;
        was = was;
        thread_was = thread_was;
        dir = alike.dir;
        file = alike.file;
        id = alike.id;
        name = each_in (λ (x : Record). is_item x.1 ≡ true → IsTrue (is_item_name x.0.name)) old r h.names.items own.0 own.1;
        record_form = form;
        valence = λ d. absurd (true≢false (sym d ∙ not-dir r.1 file));
        its = its;
        threaded = λ d. absurd (true≢false (sym d ∙ not-dir r.1 file));
      }

-- ---- CreateFileId

without_thread : (v : Volume) (dir : ℕ) (name : List ℕ) (e : Entry) → to_create_file_id v dir name ≡ Ok e → (is_folder_kind e.1.kind ≡ false) × (told.has_thread e.1.kind ≡ false)
unfolding to_create_file_id
without_thread v dir name e is =
    let a = chained (child_to_change v dir name) _ e is in
    let b = unless (is_folder_kind a.0.1.kind) NOT_A_FILE _ e a.2 in
    let c = unless (told.has_thread a.0.1.kind) FILE_ID_EXISTS _ e b.1 in
    subst (λ (x : Entry). (is_folder_kind x.1.kind ≡ false) × (told.has_thread x.1.kind ≡ false)) (same_ok a.0 e c.1) (b.0, c.0)

told_thread : (has : Bool) (forks : List ℕ × List ℕ) (key : CatKey) (f : FileRecord) → told.has_thread (file_of has forks key f).kind ≡ has
unfolding file_of
told_thread has forks key f = refl

none_there : (o : Option Record) → is_some o ≡ false → o ≡ None
none_there None e = refl
none_there (Some x) e = absurd (true≢false e)

pub file_threadless : FileIsThreadless
file_threadless total dir name r old h c =
    let f = file_record_of r.1 in
    let catalog = catalog_in old in
    let chosen = without_thread (volume_in old) dir name (c.id, item_of (contents_in old) catalog r) c.is in
    let no_dir : is_dir r.1 ≡ false = sym (item_kind (contents_in old) catalog r) ∙ chosen.0 in
    let at_id : f.id ≡ c.id = sym (file_id r.1 no_dir) ∙ (with_id catalog c.id r c.was).2 in
    let none : has_thread catalog f.id ≡ false =
    sym (told_thread (has_thread catalog f.id) (contents_in old f) r.0 f) ∙ ap (λ (i : Item). told.has_thread i.kind) (sym (file_item (contents_in old) catalog r no_dir)) ∙ chosen.1 in
    none_there (thread_of catalog c.id) (sym (thread_known catalog c.id) ∙ ap (has_thread catalog) (sym at_id) ∙ none)

pub create_file_id_steps : ItemsAreRecords → CatalogIsSound → CreateFileIdMakes
unfolding volume_in create_file_id
create_file_id_steps law catalogs total now dir name r old new h c d =
    let f = file_record_of r.1 in
    let catalog = catalog_in old in
    let sound = catalogs total old h in
    let own = with_id catalog c.id r c.was in
    let was : thread_of catalog c.id ≡ None = file_threadless total dir name r old h c in
    let s = file_with_flag true r in
    let alike : IsAlike r s = file_alike r (with_thread_flag true f) d.was d.value refl in
    let named : is_item_name r.0.name ≡ true = each_in (λ (x : Record). is_item x.1 ≡ true → IsTrue (is_item_name x.0.name)) catalog r sound.names.items own.0 own.1 in
    let th = thread_record c.id (new_thread File r.0.parent r.0.name) in
    let its : IsItsThread c.id s th = new_thread_is File c.id s (sym (alike.dir ∙ not-dir r.1 d.was)) named d.thread_value in
    thread_makes law catalogs total now c.id r true None (Some th) old new h d.was d.value
    (turned_in_place (mdb_in old).next_id c.id r true None (Some th) catalog d.second (catalog_in new) sound d.was d.value was d.file_set d.thread_came its own c.was)
    refl d.tree (call.CreateFileId dir name now)
    (ap (λ (e : Result Entry ℤ). (change_to_id (volume_in old) e (set_thread true) now).0) c.is)

-- ---- DeleteFileId

-- the file's record in its place leaves the threads
same_threads : (next k : ℕ) (r s : Record) (old second : Catalog) → IsSoundCatalog next old → item_with old k ≡ Some r → IsAlike r s → Swaps (Some r) (Some s) old second → thread_of second k ≡ thread_of old k
same_threads next k r s old second h was alike swap = item_threads k (Some r) (Some s) old second (sound_once next old h) (edit_step k r s old second swap was alike) k

pub delete_file_id_steps : ItemsAreRecords → CatalogIsSound → DeleteFileIdMakes
unfolding volume_in delete_file_id
delete_file_id_steps law catalogs total now id r old new h c d =
    let catalog = catalog_in old in
    let thread = thread_of catalog c.id in
    let sound = catalogs total old h in
    let alike : IsAlike r (file_with_flag false r) = file_alike r (with_thread_flag false (file_record_of r.1)) d.was d.value refl in
    let same = same_threads (mdb_in old).next_id c.id r (file_with_flag false r) catalog d.second sound c.was alike d.file_set in
    let went : Swaps thread None d.second (catalog_in new) = subst (λ (o : Option Record). Swaps o None d.second (catalog_in new)) same d.thread_went in
    thread_makes law catalogs total now c.id r false thread None old new h d.was d.value
    (turned_in_place (mdb_in old).next_id c.id r false thread None catalog d.second (catalog_in new) sound d.was d.value refl d.file_set went tt (with_id catalog c.id r c.was) c.was)
    refl d.tree (call.DeleteFileId id now)
    (ap (λ (e : Result Entry ℤ). (change (volume_in old) e (set_thread false) now).0) c.is)
