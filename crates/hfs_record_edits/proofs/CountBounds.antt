-- The counts of a sound volume are bounded by its records, and those of the root by its valence.
use Rattle.std.proofs.Common.{◌≡◌, ⊎_elim, ℕ, ◌+◌, ◌-◌, ◌<◌, ◌≤◌, ◌^◌, Bool, true, false, not, ◌&&◌, ◌||◌, eqb, List, [], ◌∷◌, length, count_by, refl, sym, ◌∙◌, ap, arith, Some}
use Rattle.std.specs.Prelude.{Ok}
use Rattle.std.proofs.lemmas.Bool.{cases_eq, eq-eqb, ne_eqb, true≢false, ltb-true}
use Rattle.std.proofs.lemmas.List.Sums.{sum_by-cons}
use Rattle.hfs_fields.specs.declared.mdb.Mdb.{Mdb}
use Rattle.hfs_fields.specs.Records.{is_dir, is_file, is_item, item_id, dir_record_of}
use Rattle.hfs_btree.specs.Header.{header_in}
use Rattle.hfs_fields.specs.Members.{In}
use Rattle.hfs_fields.proofs.MemberLemmas.{each_in}
use Rattle.hfs_model.specs.Children.{valence, entries_of}
use Rattle.hfs_model.specs.Choices.{is_full, to_create, to_move}
use Rattle.hfs_catalog.specs.Records.{Record, Catalog, item_with, is_child_of, valence_of}
use Rattle.hfs_catalog.specs.Sound.{IsRoot, IsGiven, is_file_in, is_folder_in, counts_of, IsSoundCatalog}
use Rattle.hfs_catalog.proofs.CatalogLawTypes.{ValencesAreCounted}
use Rattle.hfs_check.specs.Parts.{Blocks, mdb_in, catalog_nodes, catalog_in}
use Rattle.hfs_check.specs.Sound.{AreBlocksSound}
use Rattle.hfs_check.proofs.LawTypes.{CatalogIsSound}
use Rattle.hfs_check.specs.VolumeOf.{contents_in, volume_in}
use Rattle.hfs_record_edits.specs.Swaps.{one_if}
use Rattle.hfs_record_edits.specs.Changes.{IsFolderWith}
use Rattle.hfs_record_edits.proofs.OnceLemmas.{counted}
use Rattle.hfs_record_edits.specs.SettingLaws.{IsChoice}
use Rattle.hfs_record_edits.proofs.BoundLaws.{HasRoomForOne, CreationFits, CountsItem, RemovalFits, CountsMove, MoveFits}
use Rattle.hfs_catalog.proofs.Held.{with_id}
use Rattle.hfs_record_edits.proofs.Items.{item_parent}
use Rattle.hfs_record_edits.proofs.Linked.{sound_counted}
use Rattle.hfs_model.proofs.Facts.{not_not as not_false}
use Rattle.hfs_record_edits.proofs.Chosen.{MayCreate, may_create, delete_chosen, may_move}
use Rattle.hfs_record_edits.proofs.Dropped.{not_in_itself}
use Rattle.hfs_record_edits.proofs.Removal.{some_child}
use Rattle.hfs_record_edits.proofs.Made.{dir-not_file, other_kind}

-- ---- records of two kinds

pub ones : (p : Record → Bool) (x : Record) (xs : Catalog) → count_by p (x ∷ xs) ≡ one_if (p x) + count_by p xs
ones p x xs = sum_by-cons (λ (y : Record). one_if (p y)) x xs

at_most : (b : Bool) → one_if b ≤ 1
at_most true = omega arith
at_most false = omega arith

-- a record is a file's or a folder's, or neither
one_kind : (x : Record) → one_if (is_file x.1) + one_if (is_dir x.1) ≤ 1
one_kind x = by (is_dir x.1) refl
  where
    by : (b : Bool) → is_dir x.1 ≡ b → one_if (is_file x.1) + one_if (is_dir x.1) ≤ 1
    by true d =
        let none : ◌≡◌ {A = ℕ} (one_if (is_file x.1)) 0 = ap one_if (dir-not_file x.1 d) in
        omega (arith, none, at_most (is_dir x.1))
    by false d =
        let none : ◌≡◌ {A = ℕ} (one_if (is_dir x.1)) 0 = ap one_if d in
        omega (arith, none, at_most (is_file x.1))

two_kinds : (xs : Catalog) → count_by (λ x. is_file x.1) xs + count_by (λ x. is_dir x.1) xs ≤ length xs
two_kinds [] = omega arith
two_kinds (x ∷ xs) = omega (arith, ones (λ y. is_file y.1) x xs, ones (λ y. is_dir y.1) x xs, one_kind x, two_kinds xs)

kinds_under : (d : ℕ) (x : Record) → one_if (is_file_in d x) + one_if (is_folder_in d x) ≤ one_if (is_child_of d x)
kinds_under d x = by (is_dir x.1) (is_file x.1) (eqb x.0.parent d) (one_kind x)
  where
    by : (f g u : Bool) → one_if g + one_if f ≤ 1 → one_if (g && u) + one_if (f && u) ≤ one_if ((f || g) && u)
    by true true u le = absurd (omega (arith, le))
    by true false true le = omega arith
    by true false false le = omega arith
    by false true true le = omega arith
    by false true false le = omega arith
    by false false u le = omega arith

two_under : (d : ℕ) (xs : Catalog) → count_by (is_file_in d) xs + count_by (is_folder_in d) xs ≤ valence_of xs d
two_under d [] = omega arith
two_under d (x ∷ xs) = omega (arith, ones (is_file_in d) x xs, ones (is_folder_in d) x xs, ones (is_child_of d) x xs, kinds_under d x, two_under d xs)

-- two that pass count twice
two_counted : (p : Record → Bool) (xs : Catalog) (x y : Record) → In x xs → In y xs → p x ≡ true → p y ≡ true → (x ≡ y → ⊥) → 2 ≤ count_by p xs
two_counted p [] x y there other e f apart = absurd there
two_counted p (z ∷ zs) x y there other e f apart = ⊎_elim
    (λ (first : z ≡ x).
    let one : ◌≡◌ {A = ℕ} (one_if (p z)) 1 = ap one_if (ap p first ∙ e) in
    ⊎_elim
    (λ (same : z ≡ y). absurd (apart (sym first ∙ same)))
    (λ (later : In y zs). omega (arith, one, ones p z zs, counted p zs y later f))
    other)
    (λ (behind : In x zs). ⊎_elim
    (λ (second : z ≡ y).
    let one : ◌≡◌ {A = ℕ} (one_if (p z)) 1 = ap one_if (ap p second ∙ f) in
    omega (arith, one, ones p z zs, counted p zs x behind e))
    (λ (later : In y zs). omega (arith, ones p z zs, two_counted p zs x y behind later e f apart))
    other)
    there

-- ---- the counts of a sound volume

module _ (catalogs : CatalogIsSound) (total : ℕ) (old : Blocks) (h : AreBlocksSound total old) where
  abbrev mdb : Mdb
  mdb = mdb_in old

  sound : IsSoundCatalog mdb.next_id (catalog_in old)
  sound = catalogs total old h

  abbrev folders_in : ℕ
  folders_in = count_by (λ x. is_dir x.1) (catalog_in old)

  files_are : mdb.files ≡ count_by (λ x. is_file x.1) (catalog_in old)
  unfolding counts_of
  files_are = h.counts.files

  folders_are : mdb.folders ≡ folders_in - 1
  unfolding counts_of
  folders_are = h.counts.folders

  root_files_are : mdb.root_files ≡ count_by (is_file_in 2) (catalog_in old)
  unfolding counts_of
  root_files_are = h.counts.root_files

  root_folders_are : mdb.root_folders ≡ count_by (is_folder_in 2) (catalog_in old)
  unfolding counts_of
  root_folders_are = h.counts.root_folders

  records_are : (header_in (catalog_nodes old)).records ≡ length (catalog_in old)
  unfolding catalog_in
  records_are = h.catalog.shape.counts.records

  some_folder : (dir : ℕ) (r : Record) → IsFolderWith (catalog_in old) dir r → 0 < folders_in
  some_folder dir r f = counted (λ (x : Record). is_dir x.1) (catalog_in old) r (with_id (catalog_in old) dir r f.was).0 f.folder

  valence_is : (dir : ℕ) (r : Record) → IsFolderWith (catalog_in old) dir r → (dir_record_of r.1).valence ≡ valence_of (catalog_in old) dir
  valence_is dir r f = (sound_counted mdb.next_id (catalog_in old) sound).counted dir r f.was f.folder

  root_kinds : mdb.root_files + mdb.root_folders ≤ valence_of (catalog_in old) 2
  root_kinds = omega (arith, root_files_are, root_folders_are, two_under 2 (catalog_in old))

  root_folder : is_dir sound.ids.root.0.1 ≡ true
  root_folder =
      let there = with_id (catalog_in old) 2 sound.ids.root.0 sound.ids.root.1 in
      ⊎_elim
      (λ (root : IsRoot sound.ids.root.0). root.folder)
      (λ (given : IsGiven mdb.next_id sound.ids.root.0). absurd (omega (arith, given.least, there.2)))
      (each_in _ (catalog_in old) sound.ids.root.0 sound.ids.each there.0 there.1)

  root_short : valence_of (catalog_in old) 2 ≤ 65535
  root_short =
      let c = sound_counted mdb.next_id (catalog_in old) sound in
      omega (arith, c.counted 2 sound.ids.root.0 sound.ids.root.1 root_folder, c.short 2 sound.ids.root.0 sound.ids.root.1 root_folder)

  -- the root has room for one more where it is the folder
  root_room : (dir : ℕ) (r : Record) → IsFolderWith (catalog_in old) dir r → (dir_record_of r.1).valence < 65535 → mdb.root_files + mdb.root_folders + one_if (eqb dir 2) < 65536
  root_room dir r f short = ⊎_elim
      (λ (two : dir ≡ 2).
      let at : valence_of (catalog_in old) dir ≡ valence_of (catalog_in old) 2 = ap (valence_of (catalog_in old)) two in
      omega (arith, root_kinds, at, valence_is dir r f, short, at_most (eqb dir 2)))
      (λ (other : dir ≡ 2 → ⊥).
      let none : ◌≡◌ {A = ℕ} (one_if (eqb dir 2)) 0 = ap one_if (ne_eqb dir 2 other) in
      omega (arith, root_kinds, root_short, none))
      (cases_eq dir 2)

  pub short_by : ValencesAreCounted → (dir : ℕ) (r : Record) → IsFolderWith (catalog_in old) dir r → is_full (entries_of (volume_in old)) dir ≡ false → (dir_record_of r.1).valence < 65535
  unfolding is_full volume_in
  short_by valences dir r f room =
      let short = ltb-true (valence (entries_of (volume_in old)) dir) 65535 (not_false _ room) in
      omega (arith, short, valences (contents_in old) mdb.next_id (catalog_in old) h.mdb.next_id sound dir, valence_is dir r f)

  -- ---- a new item

  module _ (long : (header_in (catalog_nodes old)).records < 2 ^ 32) (dir id : ℕ) (name : List ℕ) (r : Record) (choice : to_create (volume_in old) dir name ≡ Ok id) (f : IsFolderWith (catalog_in old) dir r) (valences : ValencesAreCounted) where
    may : MayCreate (volume_in old) dir name id
    may = may_create (volume_in old) dir name id choice

    pub room_for_one : HasRoomForOne mdb dir r
    unfolding volume_in
    room_for_one =
        let short = short_by valences dir r f may.room in
        record {
          next_id = λ (last : mdb.next_id ≡ 4294967295). true≢false (sym (eq-eqb mdb.next_id 4294967295 last) ∙ may.not_last);
          files = omega (arith, files_are, two_kinds (catalog_in old), some_folder dir r f, records_are, long);
          folders = omega (arith, folders_are, two_kinds (catalog_in old), some_folder dir r f, records_are, long);
          root_files = omega (arith, root_room dir r f short);
          root_folders = omega (arith, root_room dir r f short);
          valence = omega (arith, short);
        }

  -- ---- an item that stands under a folder

  module _ (item : Record) (dir : ℕ) (there : In item (catalog_in old)) (parent : item.0.parent ≡ dir) where
    one_of : (p : Record → Bool) (b : Bool) → p item ≡ b → one_if b ≤ count_by p (catalog_in old)
    one_of p true e = omega (arith, counted p (catalog_in old) item there e)
    one_of p false e = omega arith

    pub files_have : one_if (is_file item.1) ≤ mdb.files
    files_have = omega (arith, files_are, one_of (λ x. is_file x.1) (is_file item.1) refl)

    pub root_files_have : one_if (is_file item.1 && eqb dir 2) ≤ mdb.root_files
    root_files_have = omega (arith, root_files_are, one_of (is_file_in 2) (is_file item.1 && eqb dir 2) (ap (λ (n : ℕ). is_file item.1 && eqb n 2) parent))

    pub root_folders_have : one_if (is_dir item.1 && eqb dir 2) ≤ mdb.root_folders
    root_folders_have = omega (arith, root_folders_are, one_of (is_folder_in 2) (is_dir item.1 && eqb dir 2) (ap (λ (n : ℕ). is_dir item.1 && eqb n 2) parent))

  -- ---- an item that goes

  module _ (dir : ℕ) (item r : Record) (id : ℕ) (was : item_with (catalog_in old) id ≡ Some item) (parent : item.0.parent ≡ dir) (f : IsFolderWith (catalog_in old) dir r) where
    own : In item (catalog_in old) × (is_item item.1 ≡ true) × (item_id item.1 ≡ id)
    own = with_id (catalog_in old) id item was

    apart : item ≡ r → ⊥
    apart same =
        let at : dir ≡ id = sym (with_id (catalog_in old) dir r f.was).2 ∙ ap (λ (x : Record). item_id x.1) (sym same) ∙ own.2 in
        not_in_itself mdb.next_id id (catalog_in old) item sound was (parent ∙ at)

    folders_have : (b : Bool) → is_dir item.1 ≡ b → one_if b ≤ mdb.folders
    folders_have true d = omega (arith, folders_are, two_counted (λ x. is_dir x.1) (catalog_in old) item r own.0 (with_id (catalog_in old) dir r f.was).0 d f.folder apart)
    folders_have false d = omega arith

    pub counts_item : CountsItem mdb dir item r
    counts_item = record {
      files = files_have item dir own.0 parent;
      folders = folders_have (is_dir item.1) refl;
      root_files = root_files_have item dir own.0 parent;
      root_folders = root_folders_have item dir own.0 parent;
      valence = some_child mdb.next_id dir (catalog_in old) item r sound own.0 own.1 parent f.was f.folder;
    }

  -- ---- an item that is moved

  module _ (valences : ValencesAreCounted) (from to : ℕ) (name : List ℕ) (item r1 r2 : Record) (c : IsChoice old (to_move (volume_in old) from name to) item)
      (one : IsFolderWith (catalog_in old) from r1) (two : IsFolderWith (catalog_in old) to r2) where
    there : In item (catalog_in old) × (is_item item.1 ≡ true) × (item_id item.1 ≡ c.id)
    there = with_id (catalog_in old) c.id item c.was

    left : item.0.parent ≡ from
    left = sym (item_parent (contents_in old) (catalog_in old) item) ∙ (may_move (volume_in old) from name to _ c.is).child.under

    short : (dir_record_of r2.1).valence < 65535
    short = short_by valences to r2 two (may_move (volume_in old) from name to _ c.is).room

    at_most_here : (b u : Bool) → one_if (b && u) ≤ one_if u
    at_most_here true u = omega arith
    at_most_here false u = omega arith

    pub counts_move : CountsMove mdb from to item r1 r2
    counts_move =
        let kind : is_file item.1 ≡ not (is_dir item.1) = other_kind item there.1 in
        let file : ◌≡◌ {A = ℕ} (one_if (is_file item.1 && eqb from 2)) (one_if (not (is_dir item.1) && eqb from 2)) = ap (λ (b : Bool). one_if (b && eqb from 2)) kind in
        record {
          root_files = omega (arith, root_room to r2 two short, at_most_here (not (is_dir item.1)) (eqb to 2));
          root_folders = omega (arith, root_room to r2 two short, at_most_here (is_dir item.1) (eqb to 2));
          files_left = omega (arith, file, root_files_have item from there.0 left);
          folders_left = root_folders_have item from there.0 left;
          first = some_child mdb.next_id from (catalog_in old) item r1 sound there.0 there.1 left one.was one.folder;
          second = omega (arith, short);
        }

-- ---- the laws

pub creation_fits : ValencesAreCounted → CatalogIsSound → CreationFits
creation_fits valences catalogs total dir id name r old h long choice f = room_for_one catalogs total old h long dir id name r choice f valences

pub removal_fits : CatalogIsSound → RemovalFits
unfolding volume_in
removal_fits catalogs total dir name item r old h c f =
    counts_item catalogs total old h dir item r c.id c.was (sym (item_parent (contents_in old) (catalog_in old) item) ∙ (delete_chosen (volume_in old) dir name _ c.is).under) f

pub move_fits : ValencesAreCounted → CatalogIsSound → MoveFits
move_fits valences catalogs total dir new_dir name item r1 r2 old h c one two = counts_move catalogs total old h valences dir new_dir name item r1 r2 c one two
