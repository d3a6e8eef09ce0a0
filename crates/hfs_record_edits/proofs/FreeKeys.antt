-- Keys that are free where a call has tested the name.
use Rattle.std.proofs.Common.{◌≡◌, inl, inr, ⊎_elim, ℕ, ◌≤◌, Bool, true, false, cond, not, eqb, List, [], ◌∷◌, length, refl, sym, ◌∙◌, ap, arith, Option, Some, None}
use Rattle.std.specs.Prelude.{Ok, is_some}
use Rattle.std.specs.FinMap as map
use Rattle.std.specs.List.{find}
use Rattle.std.specs.Option.{option_map}
use Rattle.std.specs.Ordering.{nat_cmp, is_eq, ordering_then, ordering_reverse}
use Rattle.std.specs.Cmp.{nat_cmp_is}
use Rattle.std.specs.declared.cmp.Ordering.{Ordering}
use Rattle.std.specs.declared.cmp.Ordering.TheVariants.{Less, Equal, Greater}
use Rattle.std.proofs.lemmas.Bool.{cases_eq, eq-eqb, ne_eqb, true≢false, and_parts, and_from}
use Rattle.std.proofs.lemmas.Option.{same_Some}
use Rattle.hfs_fields.specs.declared.key.CatKey.{CatKey}
use Rattle.hfs_fields.specs.Keys.{cat_cmp}
use Rattle.hfs_fields.specs.Order.{name_cmp, name_cmp_total, same_name}
use Rattle.hfs_fields.specs.Records.{is_item, item_id}
use Rattle.hfs_fields.specs.Each.{Each}
use Rattle.hfs_fields.specs.Members.{In}
use Rattle.hfs_fields.proofs.MemberLemmas.{each_in, found_in}
use Rattle.hfs_btree.specs.Pairs.{lookup}
use Rattle.hfs_model.specs.Volume.{Entry}
use Rattle.hfs_model.specs.Children as model
use Rattle.hfs_model.specs.Children.{entries_of}
use Rattle.hfs_model.specs.Choices.{is_held, is_taken, is_other_named, to_create, to_rename, to_move}
use Rattle.hfs_catalog.specs.Records.{Record, Catalog, item_with, is_child_of}
use Rattle.hfs_catalog.specs.Lookups.{is_child_named, child_named}
use Rattle.hfs_catalog.specs.Sound.{IsRecord, IsRoot, IsGiven, IsSoundCatalog}
use Rattle.hfs_catalog.specs.Items.{item_of, entry_of}
use Rattle.hfs_catalog.proofs.CatalogLawTypes.{EntriesAreRecords, NamedAreRecords}
use Rattle.hfs_check.specs.Parts.{Blocks, mdb_in, catalog_in}
use Rattle.hfs_check.specs.Sound.{AreBlocksSound}
use Rattle.hfs_check.proofs.LawTypes.{CatalogIsSound}
use Rattle.hfs_check.specs.VolumeOf.{contents_in, volume_in}
use Rattle.hfs_record_edits.proofs.OnceLemmas.{counted, none_counted, item_found}
use Rattle.hfs_record_edits.specs.Changes.{IsFolderWith}
use Rattle.hfs_record_edits.specs.SettingLaws.{IsChoice, with_name}
use Rattle.hfs_record_edits.specs.MoveLaws.{under_folder}
use Rattle.hfs_record_edits.proofs.PlaceLaws.{FolderIdIs, CreationIsFree, NextIsThreadless, MoveIsFree, RenameIsFree}
use Rattle.hfs_catalog.proofs.Held.{with_id}
use Rattle.hfs_record_edits.proofs.Items.{item_parent, item_name}
use Rattle.hfs_record_edits.proofs.Linked.{sound_once}
use Rattle.hfs_record_edits.proofs.Added.{no_thread}
use Rattle.hfs_record_edits.proofs.Chosen.{may_create, may_move, may_rename}
use Rattle.hfs_record_edits.proofs.NewItems.{named_long}
use Rattle.hfs_model.proofs.Facts.{not_some}

-- ---- keys that are equal in order

then_tied : (o q : Ordering) → is_eq (ordering_then o q) ≡ true → (o ≡ Equal) × (q ≡ Equal)
then_tied Less q e = absurd (true≢false (sym e))
then_tied Equal Less e = absurd (true≢false (sym e))
then_tied Equal Equal e = (refl, refl)
then_tied Equal Greater e = absurd (true≢false (sym e))
then_tied Greater q e = absurd (true≢false (sym e))

unlike_empty : (name other : List ℕ) → 1 ≤ length name → length other ≡ 0 → is_eq (name_cmp name other) ≡ true → ⊥
unlike_empty [] other le none e = omega (arith, le)
unlike_empty (c ∷ name) [] le none e = true≢false (sym e)
unlike_empty (c ∷ name) (d ∷ other) le none e = omega (arith, none)

same_back : (x y : List ℕ) → name_cmp x y ≡ Equal → same_name y x ≡ true
same_back x y e = ap is_eq (name_cmp_total.antisymm y x ∙ ap ordering_reverse e)

-- a name that is the same as one that is the same as a third
pub same_through : (x y z : List ℕ) → same_name x y ≡ true → same_name y z ≡ true → same_name x z ≡ true
same_through x y z e f = ap is_eq (name_cmp_total.congr x y z (tied (name_cmp x y) e)) ∙ f
  where
    tied : (o : Ordering) → is_eq o ≡ true → o ≡ Equal
    tied Less e = absurd (true≢false (sym e))
    tied Equal e = refl
    tied Greater e = absurd (true≢false (sym e))

-- a key with a name is free where no item stands under its parent with the same name
pub no_key : (key : CatKey) → 1 ≤ length key.name → (catalog : Catalog) → Each IsRecord catalog
    → ((r : Record) → In r catalog → is_item r.1 ≡ true → r.0.parent ≡ key.parent → same_name r.0.name key.name ≡ true → ⊥) → lookup cat_cmp key catalog ≡ None
no_key key long [] records free = refl
no_key key long (r ∷ rest) records free = elim (is_eq (cat_cmp key r.0)) as (λ (b : Bool). is_eq (cat_cmp key r.0) ≡ b → cond b (Some r.1) (lookup cat_cmp key rest) ≡ None) [
  | true ↦ λ e.
      let both = then_tied (nat_cmp key.parent r.0.parent) (name_cmp key.name r.0.name) e in
      absurd (⊎_elim
      (λ item. free r (inl refl) item.0 (sym (map.nat_cmp-IsAntisymmetric key.parent r.0.parent both.0)) (same_back key.name r.0.name both.1))
      (λ thread. unlike_empty key.name r.0.name long thread.1 (ap is_eq both.1))
      records.0)
  | false ↦ λ e. no_key key long rest records.1 (λ x there. free x (inr there))
] refl

-- what a search that found none passes by
pub none_passes : {X : Type 0} (p : X → Bool) (xs : List X) (x : X) → find p xs ≡ None → In x xs → p x ≡ true → ⊥
none_passes p xs x none there e = let some = counted p xs x there e in omega (arith, some, none_counted p xs none)

none_mapped : {A B : Type 0} (f : A → B) (o : Option A) → is_some (option_map f o) ≡ false → o ≡ None
none_mapped f None e = refl
none_mapped f (Some x) e = absurd (true≢false e)

module _ (catalogs : CatalogIsSound) (total : ℕ) (old : Blocks) (h : AreBlocksSound total old) where
  abbrev catalog : Catalog
  catalog = catalog_in old

  sound : IsSoundCatalog (mdb_in old).next_id catalog
  sound = catalogs total old h

  pub folder_id : (dir : ℕ) (r : Record) → IsFolderWith catalog dir r → 2 ≤ dir
  folder_id dir r f =
      let there = with_id catalog dir r f.was in
      ⊎_elim (λ (root : IsRoot r). omega (arith, root.id, there.2)) (λ (given : IsGiven (mdb_in old).next_id r). omega (arith, given.least, there.2))
      (each_in _ catalog r sound.ids.each there.0 there.1)

  -- the folder holds no item of the name
  unheld : NamedAreRecords → (dir : ℕ) (name : List ℕ) → is_held (entries_of (volume_in old)) dir name ≡ false → (r : Record) → In r catalog → is_item r.1 ≡ true → r.0.parent ≡ dir
      → same_name r.0.name name ≡ true → ⊥
  unfolding is_held volume_in
  unheld named dir name free r there item parent same =
      let none : child_named catalog dir name ≡ None = none_mapped (entry_of (contents_in old) catalog) (child_named catalog dir name)
      (ap is_some (sym (named (contents_in old) (mdb_in old).next_id catalog sound dir name)) ∙ free) in
      none_passes (is_child_named dir name) catalog r none there
      (and_from (is_child_of dir r) (same_name r.0.name name) (and_from (is_item r.1) (eqb r.0.parent dir) item (eq-eqb r.0.parent dir parent)) same)

  pub creation_is_free : NamedAreRecords → (dir id : ℕ) (name : List ℕ) → to_create (volume_in old) dir name ≡ Ok id → lookup cat_cmp (record { parent = dir; name = name }) catalog ≡ None
  creation_is_free named dir id name choice =
      let may = may_create (volume_in old) dir name id choice in
      no_key (record { parent = dir; name = name }) (named_long name may.named) catalog sound.records (unheld named dir name may.free)

  item_long : (id : ℕ) (r : Record) → item_with catalog id ≡ Some r → 1 ≤ length r.0.name
  item_long id r was = let there = with_id catalog id r was in named_long r.0.name (each_in _ catalog r sound.names.items there.0 there.1)

  pub move_is_free : NamedAreRecords → (dir new_dir : ℕ) (name : List ℕ) (r : Record) → IsChoice old (to_move (volume_in old) dir name new_dir) r → lookup cat_cmp (under_folder new_dir r).0 catalog ≡ None
  move_is_free named dir new_dir name r c =
      let e : Entry = (c.id, item_of (contents_in old) catalog r) in
      let may = may_move (volume_in old) dir name new_dir e c.is in
      let passed = found_in (model.is_child_named dir name) (entries_of (volume_in old)) e may.child.found in
      let same : same_name r.0.name name ≡ true =
      ap (λ (n : List ℕ). same_name n name) (sym (item_name (contents_in old) catalog r)) ∙ (and_parts (eqb e.1.parent dir) (same_name e.1.name name) passed.1).1 in
      no_key (under_folder new_dir r).0 (item_long c.id r c.was) catalog sound.records
      (λ x there item parent like. unheld named new_dir name may.free x there item parent (same_through x.0.name r.0.name name like same))

  -- ---- a new name

  module _ (entries : EntriesAreRecords) (dir : ℕ) (name new_name : List ℕ) (r : Record) (c : IsChoice old (to_rename (volume_in old) dir name new_name) r)
      (apart : is_eq (cat_cmp r.0 (with_name new_name r).0) ≡ false) where
    abbrev e : Entry
    e = (c.id, item_of (contents_in old) catalog r)

    parent_is : r.0.parent ≡ dir
    parent_is = sym (item_parent (contents_in old) catalog r) ∙ (may_rename (volume_in old) dir name new_name e c.is).child.under

    -- no other has the name
    untaken : (x : Record) → In x catalog → is_item x.1 ≡ true → x.0.parent ≡ dir → same_name x.0.name new_name ≡ true → (item_id x.1 ≡ c.id → ⊥) → ⊥
    unfolding is_taken volume_in
    untaken x there item parent same other =
        let es = entries_of (volume_in old) in
        let none = not_some (find (is_other_named dir new_name c.id) es) (may_rename (volume_in old) dir name new_name e c.is).free in
        let its : Entry = entry_of (contents_in old) catalog x in
        let found : model.entry_at es (item_id x.1) ≡ Some its = entries (contents_in old) catalog (item_id x.1)
        ∙ ap (option_map (entry_of (contents_in old) catalog)) (item_found catalog x (sound_once (mdb_in old).next_id catalog sound).items there item) in
        let stands = (found_in (model.has_id (item_id x.1)) es its found).0 in
        let child : model.is_child_named dir new_name its ≡ true = and_from (eqb its.1.parent dir) (same_name its.1.name new_name)
        (eq-eqb its.1.parent dir (item_parent (contents_in old) catalog x ∙ parent))
        (ap (λ (n : List ℕ). same_name n new_name) (item_name (contents_in old) catalog x) ∙ same) in
        none_passes (is_other_named dir new_name c.id) es its none stands
        (and_from (model.is_child_named dir new_name its) (not (eqb (item_id x.1) c.id)) child (ap not (ne_eqb (item_id x.1) c.id other)))

    -- and its own isn't
    itself : (x : Record) → In x catalog → is_item x.1 ≡ true → same_name x.0.name new_name ≡ true → item_id x.1 ≡ c.id → ⊥
    itself x there item same at =
        let is : x ≡ r = same_Some x r (sym (item_found catalog x (sound_once (mdb_in old).next_id catalog sound).items there item) ∙ ap (item_with catalog) at ∙ c.was) in
        let tied : same_name r.0.name new_name ≡ true = ap (λ (y : Record). same_name y.0.name new_name) (sym is) ∙ same in
        true≢false (sym tied ∙ sym (ap is_eq (first_tied r.0.parent (name_cmp r.0.name new_name))) ∙ apart)
      where
        first_tied : (n : ℕ) (q : Ordering) → ordering_then (nat_cmp n n) q ≡ q
        first_tied n q = ap (λ (o : Ordering). ordering_then o q) (equal n)
          where
            equal : (n : ℕ) → nat_cmp n n ≡ Equal
            equal n = sym (nat_cmp_is n n Equal refl)

    pub rename_is_free : lookup cat_cmp (with_name new_name r).0 catalog ≡ None
    rename_is_free =
        no_key (with_name new_name r).0 (named_long new_name (may_rename (volume_in old) dir name new_name e c.is).named) catalog sound.records
        (λ x there item parent same. ⊎_elim
        (λ (at : item_id x.1 ≡ c.id). itself x there item same at)
        (λ (other : item_id x.1 ≡ c.id → ⊥). untaken x there item (parent ∙ parent_is) same other)
        (cases_eq (item_id x.1) c.id))

-- ---- the laws

pub folder_ids : CatalogIsSound → FolderIdIs
folder_ids catalogs total dir r old h f = folder_id catalogs total old h dir r f

pub creations_are_free : NamedAreRecords → CatalogIsSound → CreationIsFree
creations_are_free named catalogs total dir id name old h choice = creation_is_free catalogs total old h named dir id name choice

pub next_is_threadless : CatalogIsSound → NextIsThreadless
next_is_threadless catalogs total old h = no_thread (mdb_in old).next_id (catalog_in old) h.mdb.next_id (catalogs total old h)

pub moves_are_free : NamedAreRecords → CatalogIsSound → MoveIsFree
moves_are_free named catalogs total dir new_dir name r old h c = move_is_free catalogs total old h named dir new_dir name r c

pub renames_are_free : EntriesAreRecords → CatalogIsSound → RenameIsFree
renames_are_free entries catalogs total dir name new_name r old h c apart = rename_is_free catalogs total old h entries dir name new_name r c apart
