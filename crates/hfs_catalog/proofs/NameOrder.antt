-- The records under a folder are its children in name order.
use Rattle.hfs_model.proofs.Members.{in_from_contains, contains_from_in}
use Rattle.std.proofs.Common.{◌≡◌, inl, inr, ⊎_elim, ℕ, zero, suc, ◌<◌, ◌≤◌, Bool, true, false, cond, eqb, List, [], ◌∷◌, length, get_or, map, filter, refl, sym, ◌∙◌, ap, subst, arith, Some}
use Rattle.std.specs.List.{Contains}
use Rattle.std.specs.declared.cmp.Ordering.{Ordering}
use Rattle.std.specs.declared.cmp.Ordering.TheVariants.{Less, Equal}
use Rattle.std.specs.Ordering.{ordering_then}
use Rattle.std.specs.Cmp.{nat_cmp_is}
use Rattle.std.specs.FinMap as fin
use Rattle.std.proofs.lemmas.Bool.{eqb-true, eq-eqb, true≢false, and_parts, and_from, false_from_ne_true}
use Rattle.hfs_fields.specs.Order.{name_cmp}
use Rattle.hfs_fields.specs.Keys.{cat_cmp}
use Rattle.hfs_fields.specs.Records.{is_item, item_id}
use Rattle.hfs_fields.specs.Each.{Each}
use Rattle.hfs_btree.specs.Pairs.{Rises}
use Rattle.hfs_fields.proofs.ElementLemmas.{each-at}
use Rattle.hfs_model.specs.declared.item.Item.{Item}
use Rattle.hfs_model.specs.Volume.{Volume, Entry}
use Rattle.hfs_model.specs.Children.{children}
use Rattle.hfs_model.specs.Lawful.{Has}
use Rattle.hfs_model.specs.Laws.{AreChildren, ChildrenAreOne}
use Rattle.hfs_catalog.specs.Records.{Record, Catalog, has_id, item_with, is_child_of}
use Rattle.hfs_catalog.specs.Sound.{IsSoundCatalog}
use Rattle.hfs_catalog.specs.Items.{Contents, item_of, entry_of, items_in}
use Rattle.hfs_catalog.proofs.ItemsLaws.{children_in}
use Rattle.hfs_fields.proofs.ScanLemmas.{Later}
use Rattle.hfs_catalog.proofs.DistinctLemmas.{Differs, later_from_distinct}
use Rattle.hfs_fields.specs.Members.{In}
use Rattle.hfs_fields.proofs.MemberLemmas.{each_in}
use Rattle.hfs_catalog.proofs.Held.{item_parent, item_name, has_item, has_record}
use Rattle.hfs_catalog.proofs.Lawful.{sound_is_lawful}

-- ---- what a list holds

-- ---- with distinct IDs a record is found by its own

pub found_by_id : (catalog : Catalog) (r : Record) → Later Differs catalog → In r catalog → is_item r.1 ≡ true → item_with catalog (item_id r.1) ≡ Some r
found_by_id [] r d i item = absurd i
found_by_id (s ∷ rest) r d i item = ⊎_elim
    (λ (here : s ≡ r).
    let passes : has_id (item_id r.1) s ≡ true = ap (λ (q : Record). has_id (item_id r.1) q) here ∙ and_from (is_item r.1) (eqb (item_id r.1) (item_id r.1)) item (eq-eqb (item_id r.1) (item_id r.1) refl) in
    ap (λ (b : Bool). cond b (Some s) (item_with rest (item_id r.1))) passes ∙ ap Some here)
    (λ (there : In r rest).
    let fails : has_id (item_id r.1) s ≡ false = false_from_ne_true _ (each_in (Differs s) rest r d.0 there item) in
    ap (λ (b : Bool). cond b (Some s) (item_with rest (item_id r.1))) fails ∙ found_by_id rest r d.1 there item)
    i

module _ (contents : Contents) (whole : Catalog) (dir : ℕ) where
  abbrev entries : Catalog → List Entry
  entries catalog = map (entry_of contents whole) (filter (is_child_of dir) catalog)

  -- ---- the entries under a folder are those of its records

  record HasChild (catalog : Catalog) (e : Entry) : Type 0 where
    of : Record
    there : In of catalog
    child : is_child_of dir of ≡ true
    is : entry_of contents whole of ≡ e

  lower : (s : Record) (rest : Catalog) (e : Entry) → HasChild rest e → HasChild (s ∷ rest) e
  lower s rest e h = record { of = h.of; there = inr h.there; child = h.child; is = h.is }

  child_of_entry : (catalog : Catalog) (e : Entry) → In e (entries catalog) → HasChild catalog e
  child_of_entry [] e i = absurd i
  child_of_entry (s ∷ rest) e i = elim (is_child_of dir s) as (λ (b : Bool). is_child_of dir s ≡ b → In e (map (entry_of contents whole) (cond b (s ∷ filter (is_child_of dir) rest) (filter (is_child_of dir) rest))) → HasChild (s ∷ rest) e) [
    | true ↦ λ child j. ⊎_elim
        (λ (here : entry_of contents whole s ≡ e). record { of = s; there = inl refl; child = child; is = here })
        (λ (later : In e (entries rest)). lower s rest e (child_of_entry rest e later))
        j
    | false ↦ λ other j. lower s rest e (child_of_entry rest e j)
  ] refl i

  entry_of_child : (catalog : Catalog) (r : Record) → In r catalog → is_child_of dir r ≡ true → In (entry_of contents whole r) (entries catalog)
  entry_of_child [] r i child = absurd i
  entry_of_child (s ∷ rest) r i child = elim (is_child_of dir s) as (λ (b : Bool). is_child_of dir s ≡ b → In (entry_of contents whole r) (map (entry_of contents whole) (cond b (s ∷ filter (is_child_of dir) rest) (filter (is_child_of dir) rest)))) [
    | true ↦ λ e. ⊎_elim
        (λ (here : s ≡ r). inl (ap (entry_of contents whole) here))
        (λ (there : In r rest). inr (entry_of_child rest r there child))
        i
    | false ↦ λ e. ⊎_elim
        (λ (here : s ≡ r). absurd (true≢false (sym child ∙ ap (is_child_of dir) (sym here) ∙ e)))
        (λ (there : In r rest). entry_of_child rest r there child)
        i
  ] refl

  -- ---- their names rise

  abbrev IsBelow : Entry → Entry → Type 0
  IsBelow e f = name_cmp e.1.name f.1.name ≡ Less

  by_name : (r s : Record) → r.0.parent ≡ dir → s.0.parent ≡ dir → cat_cmp r.0 s.0 ≡ Less → IsBelow (entry_of contents whole r) (entry_of contents whole s)
  by_name r s p q e =
      (λ i. name_cmp (item_name contents whole r i) (item_name contents whole s i))
      ∙ ap (λ (o : Ordering). ordering_then o (name_cmp r.0.name s.0.name)) (nat_cmp_is r.0.parent s.0.parent Equal (p ∙ sym q)) ∙ e

  parent_of_child : (r : Record) → is_child_of dir r ≡ true → r.0.parent ≡ dir
  parent_of_child r child = eqb-true r.0.parent dir (and_parts (is_item r.1) (eqb r.0.parent dir) child).1

  below_later : (r : Record) (catalog : Catalog) → r.0.parent ≡ dir → Each (λ s. cat_cmp r.0 s.0 ≡ Less) catalog → Each (IsBelow (entry_of contents whole r)) (entries catalog)
  below_later r [] p h = tt
  below_later r (s ∷ rest) p h = elim (is_child_of dir s) as (λ (b : Bool). is_child_of dir s ≡ b → Each (IsBelow (entry_of contents whole r)) (map (entry_of contents whole) (cond b (s ∷ filter (is_child_of dir) rest) (filter (is_child_of dir) rest)))) [
    | true ↦ λ child. (by_name r s p (parent_of_child s child) h.0, below_later r rest p h.1)
    | false ↦ λ other. below_later r rest p h.1
  ] refl

  names_rise : (catalog : Catalog) → Rises cat_cmp catalog → Later IsBelow (entries catalog)
  names_rise [] h = tt
  names_rise (r ∷ rest) h = elim (is_child_of dir r) as (λ (b : Bool). is_child_of dir r ≡ b → Later IsBelow (map (entry_of contents whole) (cond b (r ∷ filter (is_child_of dir) rest) (filter (is_child_of dir) rest)))) [
    | true ↦ λ child. (below_later r rest (parent_of_child r child) h.0, names_rise rest h.1)
    | false ↦ λ other. names_rise rest h.1
  ] refl

pairs_from_later : {X : Type 0} (V : X → X → Type 0) (xs : List X) → Later V xs → (i j : ℕ) (d : X) → i < j → j < length xs → V (get_or xs i d) (get_or xs j d)
pairs_from_later V [] h i j d lt len = absurd (omega arith)
pairs_from_later V (x ∷ xs) h zero zero d lt len = absurd (omega arith)
pairs_from_later V (x ∷ xs) h zero (suc j) d lt len = each-at (V x) xs j d h.0 (omega arith)
pairs_from_later V (x ∷ xs) h (suc i) zero d lt len = absurd (omega arith)
pairs_from_later V (x ∷ xs) h (suc i) (suc j) d lt len = pairs_from_later V xs h.1 i j d (omega arith) (omega arith)

-- ---- the law

module _ (contents : Contents) (next : ℕ) (catalog : Catalog) (h : IsSoundCatalog next catalog) (dir : ℕ) where
  child_has : (e : Entry) → HasChild contents catalog dir catalog e → Has (items_in contents catalog) e.0 e.1 × (e.1.parent ≡ dir)
  child_has e c =
      let parts = and_parts (is_item c.of.1) (eqb c.of.0.parent dir) c.child in
      let found = found_by_id catalog c.of (later_from_distinct catalog h.ids.distinct) c.there parts.0 in
      subst (λ (f : Entry). Has (items_in contents catalog) f.0 f.1 × (f.1.parent ≡ dir)) c.is
      (has_item contents catalog (item_id c.of.1) c.of found, item_parent contents catalog c.of ∙ eqb-true c.of.0.parent dir parts.1)

  has_child : (e : Entry) → Has (items_in contents catalog) e.0 e.1 → e.1.parent ≡ dir → In e (children_in contents catalog dir)
  has_child e has under =
      let rec = has_record contents catalog e.0 e.1 has in
      let parent : rec.of.0.parent ≡ dir = sym (item_parent contents catalog rec.of) ∙ ap (λ (i : Item). i.parent) rec.is ∙ under in
      let child : is_child_of dir rec.of ≡ true = and_from (is_item rec.of.1) (eqb rec.of.0.parent dir) rec.item (eq-eqb rec.of.0.parent dir parent) in
      let id : item_id rec.of.1 ≡ e.0 = rec.same in
      let item : item_of contents catalog rec.of ≡ e.1 = rec.is in
      let is : entry_of contents catalog rec.of ≡ e = λ i. (id i, item i) in
      subst (λ (f : Entry). In f (children_in contents catalog dir)) is (entry_of_child contents catalog dir catalog rec.of rec.there child)

  are_children : AreChildren (items_in contents catalog) dir (children_in contents catalog dir)
  are_children = record {
    each = λ e. (
      λ (c : Contains (children_in contents catalog dir) e). child_has e (child_of_entry contents catalog dir catalog e (in_from_contains (children_in contents catalog dir) e c.0 c.1 c.2)),
      λ (p : Has (items_in contents catalog) e.0 e.1 × (e.1.parent ≡ dir)). contains_from_in (children_in contents catalog dir) e (has_child e p.0 p.1),
    );
    rise = pairs_from_later (IsBelow contents catalog dir) (children_in contents catalog dir) (names_rise contents catalog dir catalog h.places.rises);
  }

  pub records_are_children : 16 ≤ next → ChildrenAreOne → children_in contents catalog dir ≡ children (fin.entries (items_in contents catalog)) dir
  records_are_children least one =
      let v : Volume = record { items = items_in contents catalog; next_id = next; changed = 0; hardware_locked = false; software_locked = false; block_size = 512 } in
      one v (sound_is_lawful contents next catalog least h) dir (children_in contents catalog dir) are_children
