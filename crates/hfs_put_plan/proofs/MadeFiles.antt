-- A file that was just made, and the ends of its forks.
use Rattle.std.proofs.Common.{◌≡◌, ⊎_elim, ℕ, ◌+◌, false, IsTrue, List, [], ◌∷◌, replicate, Option, Some, None, refl, sym, ◌∙◌, ap, subst, Ok}
use Rattle.std.specs.Prelude.{not}
use Rattle.std.specs.Cmp.{eq_by_cmp_equiv}
use Rattle.std.specs.FinMap as map
use Rattle.std.specs.Option.{option_map, option_map_or}
use Rattle.std.proofs.lemmas.Bool.{cases_eq}
use Rattle.hfs_fields.specs.Names.{is_item_name}
use Rattle.hfs_fields.specs.Order.{same_name, name_cmp_total}
use Rattle.hfs_model.specs.declared.codes.TheConstants.{BAD_NAME, DUPLICATE, NOT_A_FOLDER}
use Rattle.hfs_model.specs.declared.item.File.{File as FileRecord}
use Rattle.hfs_model.specs.declared.item.Item.{Item}
use Rattle.hfs_model.specs.declared.item.Kind.{Kind}
use Rattle.hfs_model.specs.declared.item.Kind.TheVariants.{File}
use Rattle.hfs_model.specs.Changes.{touched, new_file, new_item}
use Rattle.hfs_model.specs.Children.{entry_at, is_folder, entries_of}
use Rattle.hfs_model.specs.Choices.{is_locked, lock_code, is_held, to_create}
use Rattle.hfs_model.specs.Lawful.{Has}
use Rattle.hfs_model.specs.Volume.{Entry, Items, Volume}
use Rattle.hfs_model.proofs.Facts.{not_refused, has_entry, not_held, same_some, none_is_some}
use Rattle.hfs_model.proofs.Keeps.{get_here, get_there, found_in}
use Rattle.hfs_model.proofs.MappedEntries.{mapped_item, mapped_items, mapped, get-mapped}

-- the item of that name with this ID, and none other in its folder
pub record IsAlone (m : Items) (dir : ℕ) (name : List ℕ) (n : ℕ) (item : Item) : Type 0 where
  pub has : Has m n item
  pub under : item.parent ≡ dir
  pub named : IsTrue (same_name item.name name)
  pub only : (q : ℕ) (j : Item) → Has m q j → j.parent ≡ dir → IsTrue (same_name j.name name) → q ≡ n

-- the file of that name with this ID, and none other in its folder, changed at this moment, as was the volume
pub record IsMade (v : Volume) (dir : ℕ) (name : List ℕ) (now n : ℕ) (item : Item) (file : FileRecord) : Type 0 where
  pub has : Has v.items n item
  pub under : item.parent ≡ dir
  pub named : IsTrue (same_name item.name name)
  pub only : (q : ℕ) (j : Item) → Has v.items q j → j.parent ≡ dir → IsTrue (same_name j.name name) → q ≡ n
  pub kind : item.kind ≡ File file
  pub modified : item.modified ≡ now
  pub changed : v.changed ≡ now

-- ---- an item behind a change of kinds

module _ (g : ℕ → Kind → Kind) (m : Items) where
  pub has-mapped : (q : ℕ) (i : Item) → Has m q i → Has (mapped_items g m) q (mapped_item g q i)
  has-mapped q i has = get-mapped g m q ∙ ap (option_map (mapped_item g q)) has

  -- each item is one that was changed
  pub mapped-has : (q : ℕ) (j : Item) → Has (mapped_items g m) q j → (i : Item) × Has m q i × (j ≡ mapped_item g q i)
  mapped-has q j has = at (map.get m q) refl
    where
      at : (o : Option Item) → map.get m q ≡ o → (i : Item) × Has m q i × (j ≡ mapped_item g q i)
      at None is = absurd (none_is_some (map.get (mapped_items g m) q) j (get-mapped g m q ∙ ap (option_map (mapped_item g q)) is) has)
      at (Some i) is = (i, is, same_some j (mapped_item g q i) (sym has ∙ get-mapped g m q ∙ ap (option_map (mapped_item g q)) is))

-- the file stays the one, with what its kind is then
pub made-mapped : (g : ℕ → Kind → Kind) (v : Volume) (dir : ℕ) (name : List ℕ) (now n : ℕ) (item : Item) (file new : FileRecord)
    → IsMade v dir name now n item file
    → g n (File file) ≡ File new → IsMade (mapped g v) dir name now n (mapped_item g n item) new
made-mapped g v dir name now n item file new made is = record {
  has = has-mapped g v.items n item made.has;
  under = made.under;
  named = made.named;
  only = λ q j has under named.
      let old = mapped-has g v.items q j has in
      made.only q old.0 old.1 (sym (ap (λ (i : Item). i.parent) old.2) ∙ under) (subst (λ (i : Item). IsTrue (same_name i.name name)) old.2 named);
  kind = ap (g n) made.kind ∙ is;
  modified = made.modified;
  changed = made.changed;
}

-- ---- behind Create

-- an empty file, as Create makes it
abbrev pub empty_file : FileRecord
empty_file = record { kept = 0 ∷ 0 ∷ 128 ∷ replicate 99 0; locked = false; has_thread = false; «data» = []; resource = [] }

-- the folder has no item of that name
name_is_free : (v : Volume) (dir : ℕ) (name : List ℕ) (id : ℕ) → to_create v dir name ≡ Ok id → is_held (entries_of v) dir name ≡ false
unfolding to_create
name_is_free v dir name id is =
    let a = not_refused (is_locked v) (lock_code v) _ id is in
    let b = not_refused (not (is_item_name name)) BAD_NAME _ id a.1 in
    let c = not_refused (not (is_folder (entries_of v) dir)) NOT_A_FOLDER _ id b.1 in
    (not_refused (is_held (entries_of v) dir name) DUPLICATE _ id c.1).0

module _ (m : Items) (dir now : ℕ) where
  -- each item had its name and folder before
  touched-has : (q : ℕ) (j : Item) → Has (touched m dir now) q j → (i : Item) × Has m q i × (i.parent ≡ j.parent) × (i.name ≡ j.name)
  touched-has q j has = at (entry_at (map.entries m) dir) refl has
    where
      at : (o : Option Entry) → entry_at (map.entries m) dir ≡ o → Has (option_map_or (λ (e : Entry). map.insert m e.0
          (record e.1 { modified = now })) o m) q j
          → (i : Item) × Has m q i × (i.parent ≡ j.parent) × (i.name ≡ j.name)
      at None is has = (j, has, refl, refl)
      at (Some e) is has = ⊎_elim
          (λ (new : (q ≡ e.0) × (j ≡ record e.1 { modified = now })).
          (e.1, ap (map.get m) new.0 ∙ (has_entry m dir e is).1, ap (λ (i : Item). i.parent) (sym new.1), ap (λ (i : Item). i.name) (sym new.1)))
          (λ (old : (q ≡ e.0 → ⊥) × Has m q j). (j, old.1, refl, refl))
          (found_in m e.0 (record e.1 { modified = now }) q j has)

  -- an item that was changed now is the same
  has-touched : (n : ℕ) (x : Item) → Has m n x → x.modified ≡ now → Has (touched m dir now) n x
  has-touched n x has is-now = at (entry_at (map.entries m) dir) refl
    where
      at : (o : Option Entry) → entry_at (map.entries m) dir ≡ o → Has (option_map_or (λ (e : Entry). map.insert m e.0
          (record e.1 { modified = now })) o m) n x
      at None is = has
      at (Some e) is = ⊎_elim
          (λ (same : n ≡ e.0).
          let here : e.1 ≡ x = same_some e.1 x (sym (has_entry m dir e is).1 ∙ ap (map.get m) (sym same) ∙ has) in
          ap (map.get (map.insert m e.0 (record e.1 { modified = now }))) same ∙ get_here m e.0 (record e.1 { modified = now })
          ∙ ap (λ (i : Item). Some (record i { modified = now })) here ∙ ap (λ (t : ℕ). Some (record x { modified = t })) (sym is-now))
          (λ (other : n ≡ e.0 → ⊥). get_there m e.0 (record e.1 { modified = now }) n other ∙ has)
          (cases_eq n e.0)

-- what Create and DirCreate make of the volume
abbrev pub created : Kind → Volume → ℕ → List ℕ → ℕ → Volume
created kind v dir name now = record v {
  items = touched (map.insert v.items v.next_id (new_item kind dir name now)) dir now;
  changed = now;
  next_id = v.next_id + 1;
}

pub created-alone : (kind : Kind) (v : Volume) (dir : ℕ) (name : List ℕ) (now id : ℕ) → to_create v dir name ≡ Ok id
    → IsAlone (created kind v dir name now).items dir name v.next_id (new_item kind dir name now)
created-alone kind v dir name now id is = record {
  has = has-touched (map.insert v.items v.next_id x) dir now v.next_id x (get_here v.items v.next_id x) refl;
  under = refl;
  named = (eq_by_cmp_equiv name_cmp_total).refl name;
  only = λ q j has under named.
      let old = touched-has (map.insert v.items v.next_id x) dir now q j has in
      ⊎_elim
      (λ (new : (q ≡ v.next_id) × (old.0 ≡ x)). new.0)
      (λ (stood : (q ≡ v.next_id → ⊥) × Has v.items q old.0).
      absurd (not_held v.items dir name (name_is_free v dir name id is) q old.0 stood.1 (sym (old.2 ∙ under))
      (subst (λ (l : List ℕ). IsTrue (same_name l name)) (sym old.3) named)))
      (found_in v.items v.next_id x q old.0 old.1);
}
  where
    x : Item
    x = new_item kind dir name now

pub created-made : (v : Volume) (dir : ℕ) (name : List ℕ) (now id : ℕ) → to_create v dir name ≡ Ok id
    → IsMade (created new_file v dir name now) dir name now v.next_id (new_item new_file dir name now) empty_file
created-made v dir name now id is =
    let alone = created-alone new_file v dir name now id is in
    record { has = alone.has; under = alone.under; named = alone.named; only = alone.only; kind = refl; modified = refl; changed = refl }
