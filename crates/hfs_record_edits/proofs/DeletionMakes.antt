-- Delete of a file makes its step.
use Rattle.std.proofs.Common.{◌≡◌, inl, inr, ⊎_elim, ◌⊎◌, ℕ, ◌+◌, ◌-◌, ◌≤◌, Bool, true, false, cond, ◌&&◌, ◌||◌, eqb, List, [], ◌∷◌, ◌++◌, count_by, refl, sym, ◌∙◌, ap, subst, arith, Option, Some, None}
use Rattle.std.specs.Prelude.{Result, ℤ}
use Rattle.std.specs.FinMap as map
use Rattle.std.specs.List.{find, flat_map, sum_by}
use Rattle.std.proofs.lemmas.Bool.{eq-eqb, ne_eqb, true≢false}
use Rattle.std.proofs.lemmas.Option.{none-some}
use Rattle.std.proofs.lemmas.List.Elements.{All-append}
use Rattle.hfs_fields.specs.declared.mdb.Mdb.{Mdb}
use Rattle.hfs_fields.specs.Counts.{with_counts}
use Rattle.hfs_fields.specs.Keys.{cat_cmp}
use Rattle.hfs_fields.specs.Records.{is_dir, is_file, is_item, item_id, dir_record_of, file_record_of}
use Rattle.hfs_fields.specs.Each.{Each}
use Rattle.hfs_fields.specs.Members.{In}
use Rattle.hfs_fields.proofs.MemberLemmas.{each_in}
use Rattle.hfs_btree.specs.Pairs.{Rises}
use Rattle.hfs_space.specs.Extents.{Overflow, IsExtentWithin, AreExtentsWithin, extent_blocks}
use Rattle.hfs_space.specs.Owners.{Fork, forks_of, extents_in, owned_blocks, owners}
use Rattle.hfs_space.specs.Sound.{IsForkSound, AreForksSound}
use Rattle.hfs_catalog.proofs.FileRecords.{not-dir}
use Rattle.hfs_record_edits.specs.Overflows.{without_file}
use Rattle.hfs_model.specs.declared.call.Call.TheVariants as call
use Rattle.hfs_model.specs.Choices.{to_delete}
use Rattle.hfs_model.specs.Changes.{change, delete, touched}
use Rattle.hfs_model.specs.Volume.{Entry}
use Rattle.hfs_model.specs.Step.{step}
use Rattle.hfs_catalog.specs.Records.{Record, Catalog, has_id, item_with}
use Rattle.hfs_catalog.specs.Lookups.{thread_of}
use Rattle.hfs_catalog.specs.Sound.{IsRoot, IsGiven, is_file_in, is_folder_in, counts_of, AreCountsSound, IsSoundCatalog}
use Rattle.hfs_catalog.specs.Items.{items_in}
use Rattle.hfs_catalog.proofs.CatalogLawTypes.{ItemsAreRecords}
use Rattle.hfs_check.specs.Parts.{Blocks, mdb_in, overflow_in, catalog_in, owned_in}
use Rattle.hfs_check.specs.Sound.{AreBlocksSound}
use Rattle.hfs_check.proofs.LawTypes.{CatalogIsSound}
use Rattle.hfs_check.specs.VolumeOf.{contents_in, volume_in}
use Rattle.hfs_record_edits.specs.Swaps.{Swaps, one_if, list_of}
use Rattle.hfs_record_edits.proofs.SwapLemmas.{passes, number_of}
use Rattle.hfs_record_edits.specs.Deletion.{AreOtherFiles, without_one_file, MakesDeletion}
use Rattle.hfs_record_edits.proofs.DeletionLaws.{fork_blocks, HasDeletedFile, DeleteFileMakes, ForkBlocksAreAlone, ForkExtentsAreWithin}
use Rattle.hfs_record_edits.specs.SettingLaws.{IsChoice}
use Rattle.hfs_record_edits.proofs.Dropped.{near, items3, dropped_items, dropped_sum, one_fewer_count, not_in_itself}
use Rattle.hfs_record_edits.proofs.DroppedForks.{owners_dropped}
use Rattle.hfs_record_edits.proofs.DroppedSpace.{dropped_forks}
use Rattle.hfs_record_edits.proofs.DeletedFrames.{record_once, record_owns}
use Rattle.hfs_record_edits.proofs.FromLawful.{each_of}
use Rattle.hfs_catalog.proofs.Held.{with_id}
use Rattle.hfs_record_edits.proofs.KeptSpace.{no_file_forks, thread_no_dir, thread_no_file}
use Rattle.hfs_record_edits.proofs.Linked.{with_thread}
use Rattle.hfs_record_edits.proofs.Made.{file_id, dir-not_file, folder_touched, touched_record}
use Rattle.hfs_record_edits.proofs.Space.{record_has, owned_each}

-- ---- what stands in a list of which one element went

in_parts : {X : Type 0} (xs ys : List X) (x : X) → In x (xs ++ ys) → In x xs ⊎ In x ys
in_parts [] ys x there = inr there
in_parts {X} (z ∷ xs) ys x there = ⊎_elim
    (λ (here : z ≡ x). let both : In x (z ∷ xs) ⊎ In x ys = inl (inl here) in both)
    (λ (later : In x (xs ++ ys)). ⊎_elim
    (λ (one : In x xs). let both : In x (z ∷ xs) ⊎ In x ys = inl (inr one) in both)
    (λ (two : In x ys). let both : In x (z ∷ xs) ⊎ In x ys = inr two in both)
    (in_parts xs ys x later))
    there

in_left : {X : Type 0} (xs ys : List X) (x : X) → In x xs → In x (xs ++ ys)
in_left [] ys x there = absurd there
in_left (z ∷ xs) ys x there = ⊎_elim (λ (here : z ≡ x). let both : In x (z ∷ xs ++ ys) = inl here in both) (λ (later : In x xs). let both : In x (z ∷ xs ++ ys) = inr (in_left xs ys x later) in both) there

in_right : {X : Type 0} (xs ys : List X) (x : X) → In x ys → In x (xs ++ ys)
in_right [] ys x there = there
in_right (z ∷ xs) ys x there = inr (in_right xs ys x there)

-- what is there afterwards came, or was there
swapped_in : {X : Type 0} (went come : Option X) (old new : List X) (x : X) → Swaps went come old new → In x new → In x (list_of come) ⊎ In x old
swapped_in went come old new x swap there = ⊎_elim
    (λ (front : In x swap.before). let both : In x (list_of come) ⊎ In x old = inr (subst (In x) (sym swap.was) (in_left swap.before (list_of went ++ swap.behind) x front)) in both)
    (λ (back : In x (list_of come ++ swap.behind)). ⊎_elim
    (λ (new_one : In x (list_of come)). let both : In x (list_of come) ⊎ In x old = inl new_one in both)
    (λ (behind : In x swap.behind). let both : In x (list_of come) ⊎ In x old = inr (subst (In x) (sym swap.was) (in_right swap.before (list_of went ++ swap.behind) x (in_right (list_of went) swap.behind x behind))) in both)
    (in_parts (list_of come) swap.behind x back))
    (in_parts swap.before (list_of come ++ swap.behind) x (subst (In x) swap.is there))

none_with : (catalog : Catalog) (id : ℕ) (x : Record) → item_with catalog id ≡ None → In x catalog → has_id id x ≡ true → ⊥
none_with [] id x none there is = there
none_with (y ∷ ys) id x none there is = elim (has_id id y) as (λ (b : Bool). has_id id y ≡ b → cond b (Some y) (find (has_id id) ys) ≡ None → ⊥) [
  | true ↦ λ e some. none-some y (sym some)
  | false ↦ λ e later. ⊎_elim
      (λ (here : y ≡ x). true≢false (sym is ∙ sym (ap (has_id id) here) ∙ e))
      (λ (there2 : In x ys). none_with ys id x later there2 is)
      there
] refl none

is_item_file : (r : Record) → is_file r.1 ≡ true → is_item r.1 ≡ true
is_item_file r file = ap (λ (b : Bool). is_dir r.1 || b) file ∙ or_true (is_dir r.1)
  where
    or_true : (b : Bool) → (b || true) ≡ true
    or_true true = refl
    or_true false = refl

-- ---- the blocks of a file

pub fork_blocks_are_alone : ForkBlocksAreAlone
fork_blocks_are_alone total r blocks h there = record {
  once = record_once total blocks h r there;
  used = λ b some. owned_each _ (owned_in blocks) h.space.marked b (let more = record_owns total blocks h r there b in omega (arith, some, more));
}

each_within : (mdb : Mdb) (overflow : Overflow) (fs : List Fork) → Each (IsForkSound mdb overflow) fs → AreExtentsWithin mdb.allocation_blocks (flat_map (extents_in overflow) fs)
each_within mdb overflow [] h = λ k none low. absurd (omega (arith, low))
each_within mdb overflow (f ∷ fs) h =
    All-append (IsExtentWithin mdb.allocation_blocks) (extents_in overflow f) (flat_map (extents_in overflow) fs) h.0.within (each_within mdb overflow fs h.1)

pub fork_extents_are_within : ForkExtentsAreWithin
fork_extents_are_within total r blocks h there =
    each_within (mdb_in blocks) (overflow_in blocks) (forks_of r) (each_in (λ (y : Record). Each (IsForkSound (mdb_in blocks) (overflow_in blocks)) (forks_of y)) (catalog_in blocks) r h.forks.files there)

-- ---- the call

module _ (law : ItemsAreRecords) (catalogs : CatalogIsSound) (total dir clear now : ℕ) (name : List ℕ) (a : Record) (thread : Option Record) (r : Record) (old new : Blocks) (h : AreBlocksSound total old)
    (c : IsChoice old (to_delete (volume_in old) dir name) a) (d : HasDeletedFile c.id dir a thread r clear now old new) where
  abbrev id : ℕ
  id = c.id

  abbrev counts : Mdb
  counts = without_one_file dir clear now (mdb_in old)

  abbrev next : ℕ
  next = (mdb_in old).next_id

  abbrev overflow : Overflow
  overflow = overflow_in old

  abbrev s : Record
  s = touched_record r ((dir_record_of r.1).valence - 1) now d.dropped.edit.folder d.folder_value

  sound : IsSoundCatalog next (catalog_in old)
  sound = catalogs total old h

  rises : Rises cat_cmp (catalog_in new)
  unfolding catalog_in
  rises = d.tree.ordered.rises

  own : In a (catalog_in old) × (is_item a.1 ≡ true) × (item_id a.1 ≡ id)
  own = with_id (catalog_in old) id a c.was

  file_is : (file_record_of a.1).id ≡ id
  file_is = sym (file_id a.1 (not-dir a.1 d.file)) ∙ own.2

  given : 16 ≤ id
  given =
      let is = own.2 in
      ⊎_elim
      (λ (root : IsRoot a). absurd (true≢false (sym root.folder ∙ not-dir a.1 d.file)))
      (λ (one : IsGiven next a). let low = one.least in omega (arith, low, is))
      (each_in _ (catalog_in old) a sound.ids.each own.0 own.1)

  -- ---- the folder and the thread have no forks

  dir_s : is_dir s.1 ≡ true
  dir_s = d.dropped.edit.alike.dir ∙ d.dropped.edit.folder

  no_file_s : is_file s.1 ≡ false
  no_file_s = dir-not_file s.1 dir_s

  no_file_r : is_file r.1 ≡ false
  no_file_r = dir-not_file r.1 d.dropped.edit.folder

  thread_is : (o : Option Record) → thread_of (catalog_in old) id ≡ o → (p : Record → Bool) → ((x : Record) → is_file x.1 ≡ false → is_dir x.1 ≡ false → p x ≡ false) → passes p o ≡ false
  thread_is None e p off = refl
  thread_is (Some t) e p off = let found = with_thread (catalog_in old) id t e in off t (thread_no_file t found.1) (thread_no_dir t found.1)

  thread_has : (o : Option Record) → thread_of (catalog_in old) id ≡ o → (f : Record → ℕ) → ((x : Record) → is_file x.1 ≡ false → f x ≡ 0) → number_of f o ≡ 0
  thread_has None e f off = refl
  thread_has (Some t) e f off = off t (thread_no_file t (with_thread (catalog_in old) id t e).1)

  fewer : (p : Record → Bool) → p s ≡ p r → ((x : Record) → is_file x.1 ≡ false → is_dir x.1 ≡ false → p x ≡ false) → count_by p (catalog_in new) + one_if (p a) ≡ count_by p (catalog_in old)
  fewer p alike off = one_fewer_count law next id dir a thread r s (catalog_in old) (catalog_in new) sound d.dropped p alike (thread_is thread d.dropped.thread_was p off)

  -- ---- the files that are left

  was_there : (x : Record) → In x (catalog_in new) → is_file x.1 ≡ true → In x (catalog_in old)
  was_there x there file = ⊎_elim
      (λ (came : In x (s ∷ [])). absurd (⊎_elim (λ (same : s ≡ x). true≢false (sym file ∙ sym (ap (λ (y : Record). is_file y.1) same) ∙ no_file_s)) (λ none. none) came))
      (λ (second : In x d.dropped.second). ⊎_elim
      (λ (none : In x []). absurd none)
      (λ (first : In x d.dropped.first). ⊎_elim (λ (none : In x []). absurd none) (λ was. was) (swapped_in (Some a) None (catalog_in old) d.dropped.first x d.dropped.item_went first))
      (swapped_in thread None d.dropped.first d.dropped.second x d.dropped.thread_went second))
      (swapped_in (Some r) (Some s) d.dropped.second (catalog_in new) x d.dropped.folder_set there)

  apart : (x : Record) → In x (catalog_in new) → is_file x.1 ≡ true → (file_record_of x.1).id ≡ id → ⊥
  apart x there file same =
      let other : eqb dir id ≡ false = ne_eqb dir id (λ (e : dir ≡ id). not_in_itself next id (catalog_in old) a sound c.was (d.dropped.parent ∙ e)) in
      let none : item_with (catalog_in new) id ≡ None = items3 law next id dir a thread r s (catalog_in old) (catalog_in new) sound d.dropped id
      ∙ ap (λ (b : Bool). cond b (Some s) (cond (eqb id id) None (item_with (catalog_in old) id))) other ∙ ap (λ (b : Bool). cond b None (item_with (catalog_in old) id)) (eq-eqb id id refl) in
      let is : has_id id x ≡ true = λ i. is_item_file x file i && (eq-eqb (item_id x.1) id (file_id x.1 (not-dir x.1 file) ∙ same)) i in
      none_with (catalog_in new) id x none there is

  files : AreOtherFiles id (catalog_in old) (catalog_in new)
  files x there file = (was_there x there file, apart x there file)

  -- ---- forks and owners

  right : Each (λ x. Each (IsForkSound (mdb_in old) overflow) (forks_of x)) (catalog_in new)
  right = each_of _ (catalog_in new) (λ x there. elim (is_file x.1) as (λ (b : Bool). is_file x.1 ≡ b → Each (IsForkSound (mdb_in old) overflow) (forks_of x)) [
    | true ↦ λ file. each_in (λ (y : Record). Each (IsForkSound (mdb_in old) overflow) (forks_of y)) (catalog_in old) x h.forks.files (was_there x there file)
    | false ↦ λ none. subst (Each (IsForkSound (mdb_in old) overflow)) (sym (no_file_forks x none)) tt
  ] refl)

  forks : AreForksSound (with_counts counts (mdb_in old)) (without_file id overflow) (catalog_in new)
  forks =
      dropped_forks counts (mdb_in old) overflow id a (catalog_in old) (catalog_in new) given (λ file. file_is) apart
      (λ p off. fewer p (off s no_file_s ∙ sym (off r no_file_r)) (λ x none folder. off x none)) right h.forks

  has_none : (b : ℕ) (x : Record) → is_file x.1 ≡ false → record_has (mdb_in old) overflow b x ≡ 0
  has_none b x none = ap (λ fs. owners_of b fs) (no_file_forks x none)
    where
      owners_of : (b : ℕ) → List Fork → ℕ
      owners_of b fs = owners (extent_blocks (flat_map (extents_in overflow) fs)) b

  sums : (b : ℕ) → sum_by (record_has (mdb_in old) overflow b) (catalog_in new) + record_has (mdb_in old) overflow b a ≡ sum_by (record_has (mdb_in old) overflow b) (catalog_in old)
  sums b =
      dropped_sum law next id dir a thread r s (catalog_in old) (catalog_in new) sound d.dropped (record_has (mdb_in old) overflow b) (has_none b s no_file_s ∙ sym (has_none b r no_file_r))
      (thread_has thread d.dropped.thread_was (record_has (mdb_in old) overflow b) (has_none b))

  owned : (b : ℕ) → owners (owned_blocks (with_counts counts (mdb_in old)) (without_file id overflow) (catalog_in new)) b + owners (fork_blocks overflow a) b ≡ owners (owned_in old) b
  unfolding owned_in
  owned b = owners_dropped counts (mdb_in old) overflow id b a (catalog_in old) (catalog_in new) given apart (sums b)

  -- ---- counts

  yes : (b : Bool) → b ≡ true → ◌≡◌ {A = ℕ} (one_if b) 1
  yes b e = ap one_if e

  no : (b : Bool) → b ≡ false → ◌≡◌ {A = ℕ} (one_if b) 0
  no b e = ap one_if e

  and_off : (b e : Bool) → b ≡ false → (b && e) ≡ false
  and_off b e off = ap (λ (t : Bool). t && e) off

  parent_is : eqb a.0.parent 2 ≡ eqb dir 2
  parent_is = ap (λ (n : ℕ). eqb n 2) d.dropped.parent

  numbers : AreCountsSound counts (catalog_in new)
  unfolding counts_of
  numbers = record {
    root_files =
        let here : ◌≡◌ {A = ℕ} (one_if (is_file_in 2 a)) (one_if (eqb dir 2)) = λ j. one_if (d.file j && parent_is j) in
        omega (arith, here, h.counts.root_files, fewer (is_file_in 2) (λ j. d.dropped.edit.alike.file j && eqb (d.dropped.edit.alike.key j).parent 2) (λ x none folder. and_off (is_file x.1) (eqb x.0.parent 2) none));
    root_folders =
        let here : ◌≡◌ {A = ℕ} (one_if (is_folder_in 2 a)) 0 = ap one_if (and_off (is_dir a.1) (eqb a.0.parent 2) (not-dir a.1 d.file)) in
        omega (arith, here, h.counts.root_folders, fewer (is_folder_in 2) (λ j. d.dropped.edit.alike.dir j && eqb (d.dropped.edit.alike.key j).parent 2) (λ x none folder. and_off (is_dir x.1) (eqb x.0.parent 2) folder));
    files = omega (arith, yes (is_file a.1) d.file, h.counts.files, fewer (λ x. is_file x.1) d.dropped.edit.alike.file (λ x none folder. none));
    folders = omega (arith, no (is_dir a.1) (not-dir a.1 d.file), h.counts.folders, fewer (λ x. is_dir x.1) d.dropped.edit.alike.dir (λ x none folder. folder));
  }

  -- ---- the whole

  made_step : (step (volume_in old) (call.Delete dir name now)).0
      ≡ record (volume_in old) { items = touched (map.remove (items_in (contents_in old) (catalog_in old)) id) dir now; next_id = next; changed = now }
  unfolding volume_in delete
  made_step = ap (λ (e : Result Entry ℤ). (change (volume_in old) e (λ e m. touched (map.remove m e.0) dir now) now).0) c.is

  delete_makes : MakesDeletion (call.Delete dir name now) id (fork_blocks overflow a) counts old new
  delete_makes = record {
    edits = d.edits;
    beside = d.beside;
    tree = d.tree;
    frame = d.frame;
    index = d.index;
    given = given;
    overflow = d.overflow;
    cleared = d.cleared;
    near = near law next id dir a thread r s (catalog_in old) (catalog_in new) sound d.dropped rises;
    files = files;
    items = touched (map.remove (items_in (contents_in old) (catalog_in old)) id) dir now;
    held = dropped_items law next id dir a thread r s (catalog_in old) (catalog_in new) sound d.dropped (contents_in old) (contents_in old) now (λ k x other is folder. refl)
        (folder_touched r ((dir_record_of r.1).valence - 1) now d.dropped.edit.folder d.folder_value);
    made = made_step;
    least = h.mdb.next_id;
    numbers = numbers;
    free = d.free;
    forks = forks;
    owned = owned;
  }

pub delete_file_makes : ItemsAreRecords → CatalogIsSound → DeleteFileMakes
delete_file_makes law catalogs total dir clear now name item thread r old new h c d = delete_makes law catalogs total dir clear now name item thread r old new h c d
