-- What the volume's queries find among a sound catalog's items.
use Rattle.std.proofs.Common.{◌≡◌, ⊎_elim, ℕ, ◌≤◌, Bool, true, cond, ◌&&◌, eqb, List, [], ◌∷◌, length, filter, refl, sym, ◌∙◌, ap, Option, Some, None}
use Rattle.std.specs.Option.{option_map}
use Rattle.std.specs.Ordering.{nat_cmp}
use Rattle.std.specs.Cmp.{unsigned_ties}
use Rattle.std.specs.FinMap as fin
use Rattle.std.proofs.lemmas.Bool.{eq-eqb, ne_eqb, cases_eq, and_parts, and_from}
use Rattle.std.proofs.lemmas.List.{length-map}
use Rattle.std.proofs.lemmas.List.Sums.{length-filter}
use Rattle.hfs_fields.specs.Order.{same_name}
use Rattle.hfs_fields.specs.Records.{is_item, item_id}
use Rattle.hfs_model.specs.declared.item.Item.{Item}
use Rattle.hfs_model.specs.Volume.{Items, Entry}
use Rattle.hfs_model.specs.Children as model
use Rattle.hfs_model.specs.Laws.{ChildrenAreOne, CountsChildren}
use Rattle.hfs_catalog.specs.Records.{Record, Catalog, item_with, is_child_of, valence_of}
use Rattle.hfs_catalog.specs.Sound.{IsSoundCatalog}
use Rattle.hfs_catalog.specs.Items.{Contents, item_of, entry_of, items_in}
use Rattle.hfs_catalog.specs.Lookups.{is_child_named, child_named}
use Rattle.hfs_catalog.proofs.DistinctLemmas.{later_from_distinct}
use Rattle.hfs_fields.proofs.MemberLemmas.{found_in}
use Rattle.hfs_catalog.proofs.Held.{with_id, item_parent, item_name, items_are_records, has_item, has_record}
use Rattle.hfs_catalog.proofs.NameOrder.{found_by_id, records_are_children}
use Rattle.hfs_catalog.proofs.Found.{only}
use Rattle.hfs_model.proofs.Facts.{scan_finds, no_entry}

-- ---- by an ID

pub found_entry : (es : List Entry) (q : ℕ) → model.entry_at es q ≡ option_map (λ (i : Item). (q, i)) (fin.find nat_cmp q es)
found_entry [] q = refl
found_entry (f ∷ fs) q = ⊎_elim
    (λ (same : f.0 ≡ q).
    let whole : f ≡ (q, f.1) = λ i. (same i, f.1) in
    ap (λ b. cond b (Some f) (model.entry_at fs q)) (eq-eqb f.0 q same) ∙ ap Some whole
    ∙ sym (ap (λ b. option_map (λ (i : Item). (q, i)) (cond b (Some f.1) (fin.find nat_cmp q fs))) (sym (unsigned_ties q f.0) ∙ eq-eqb q f.0 (sym same))))
    (λ (other : f.0 ≡ q → ⊥).
    ap (λ b. cond b (Some f) (model.entry_at fs q)) (ne_eqb f.0 q other) ∙ found_entry fs q
    ∙ sym (ap (λ b. option_map (λ (i : Item). (q, i)) (cond b (Some f.1) (fin.find nat_cmp q fs))) (sym (unsigned_ties q f.0) ∙ ne_eqb q f.0 (λ (same : q ≡ f.0). other (sym same)))))
    (cases_eq f.0 q)

pub entries_are_records : (contents : Contents) (catalog : Catalog) (id : ℕ)
    → model.entry_at (fin.entries (items_in contents catalog)) id ≡ option_map (entry_of contents catalog) (item_with catalog id)
entries_are_records contents catalog id =
    found_entry (fin.entries (items_in contents catalog)) id
    ∙ ap (option_map (λ (i : Item). (id, i))) (sym (fin.get-entries (items_in contents catalog) id) ∙ items_are_records contents catalog id)
    ∙ elim (item_with catalog id) as (λ (o : Option Record). item_with catalog id ≡ o → option_map (λ (i : Item). (id, i)) (option_map (item_of contents catalog) o) ≡ option_map (entry_of contents catalog) o) [
      | None ↦ λ e. refl
      | Some r ↦ λ e. let own : item_id r.1 ≡ id = (with_id catalog id r e).2 in λ i. Some (sym own i, item_of contents catalog r)
    ] refl

-- ---- by a name

module _ (contents : Contents) (next : ℕ) (catalog : Catalog) (h : IsSoundCatalog next catalog) (dir : ℕ) (name : List ℕ) where
  abbrev m : Items
  m = items_in contents catalog

  abbrev in_catalog : Option Entry
  in_catalog = option_map (entry_of contents catalog) (child_named catalog dir name)

  record_named : (r : Record) → model.is_child_named dir name (entry_of contents catalog r) ≡ (eqb r.0.parent dir && same_name r.0.name name)
  record_named r = λ i. eqb (item_parent contents catalog r i) dir && same_name (item_name contents catalog r i) name

  swapped : (a b c : Bool) → a ≡ true → (b && c) ≡ true → ((a && b) && c) ≡ true
  swapped a b c e f = let both = and_parts b c f in and_from (a && b) c (and_from a b e both.0) both.1

  from_entry : (e : Entry) → model.child_named (fin.entries m) dir name ≡ Some e → in_catalog ≡ Some e
  from_entry e is =
      let found = scan_finds (model.is_child_named dir name) (fin.entries m) e (fin.entries_sorted m) is in
      let rec = has_record contents catalog e.0 e.1 (fin.get-entries m e.0 ∙ found.0) in
      let id : item_id rec.of.1 ≡ e.0 = rec.same in
      let item : item_of contents catalog rec.of ≡ e.1 = rec.is in
      let whole : entry_of contents catalog rec.of ≡ e = λ i. (id i, item i) in
      let named : is_child_named dir name rec.of ≡ true = swapped (is_item rec.of.1) (eqb rec.of.0.parent dir) (same_name rec.of.0.name name) rec.item (sym (record_named rec.of) ∙ ap (model.is_child_named dir name) whole ∙ found.1) in
      ap (option_map (entry_of contents catalog)) (only catalog dir name rec.of h.places.rises rec.there named) ∙ ap Some whole

  from_record : (r : Record) → child_named catalog dir name ≡ Some r → model.child_named (fin.entries m) dir name ≡ None → ⊥
  from_record r is none =
      let found = found_in (is_child_named dir name) catalog r is in
      let outer = and_parts (is_child_of dir r) (same_name r.0.name name) found.1 in
      let inner = and_parts (is_item r.1) (eqb r.0.parent dir) outer.0 in
      let has = has_item contents catalog (item_id r.1) r (found_by_id catalog r (later_from_distinct catalog h.ids.distinct) found.0 inner.0) in
      no_entry (model.is_child_named dir name) (fin.entries m) (item_id r.1) (item_of contents catalog r) none (sym (fin.get-entries m (item_id r.1)) ∙ has)
      (record_named r ∙ and_from (eqb r.0.parent dir) (same_name r.0.name name) inner.1 outer.1)

  pub named_are_records : model.child_named (fin.entries m) dir name ≡ in_catalog
  named_are_records = elim (model.child_named (fin.entries m) dir name) as (λ (o : Option Entry). model.child_named (fin.entries m) dir name ≡ o → o ≡ in_catalog) [
    | Some e ↦ λ is. sym (from_entry e is)
    | None ↦ λ none. elim (child_named catalog dir name) as (λ (o : Option Record). child_named catalog dir name ≡ o → None ≡ option_map (entry_of contents catalog) o) [
      | None ↦ λ e. refl
      | Some r ↦ λ e. absurd (from_record r e none)
    ] refl
  ] refl

-- ---- how many children

pub valences_are_counted : (contents : Contents) (next : ℕ) (catalog : Catalog) → 16 ≤ next → IsSoundCatalog next catalog → (dir : ℕ) → ChildrenAreOne → CountsChildren
    → model.valence (fin.entries (items_in contents catalog)) dir ≡ valence_of catalog dir
valences_are_counted contents next catalog least h dir one counts =
    sym (counts (fin.entries (items_in contents catalog)) dir)
    ∙ sym (ap (λ (es : List Entry). length es) (records_are_children contents next catalog h dir least one))
    ∙ length-map (filter (is_child_of dir) catalog) (entry_of contents catalog)
    ∙ length-filter (is_child_of dir) catalog
