-- From each item of a sound volume but the root names lead up to the payload.
use Rattle.std.proofs.Common.{◌≡◌, ◌≢◌, ℕ, zero, suc, ◌<◌, Bool, true, false, cond, ◌&&◌, ◌==◌, if◌then◌else◌, List, [], ◌∷◌, map, length, get_or, Option, Some, None, refl, sym, ap, subst, ◌∙◌, arith, inl, inr, ◌⊎◌}
use Rattle.std.specs.Prelude.{find}
use Rattle.std.specs.Option.{is_some, option_map, option_map_or}
use Rattle.std.proofs.lemmas.List.{length-map}
use Rattle.std.proofs.lemmas.Bool.{cases_eq, and_parts, eqb-true, eq-eqb, ne_eqb}
use Rattle.hfs_fields.specs.Records.{is_dir, is_item, item_id}
use Rattle.hfs_fields.specs.Each.{Each}
use Rattle.hfs_fields.proofs.ElementLemmas.{each-at}
use Rattle.hfs_fields.proofs.MemberLemmas.{found_in}
use Rattle.hfs_btree.specs.Sound.{IsDistinct, IsOther}
use Rattle.hfs_model.specs.Chains.{Leads}
use Rattle.hfs_catalog.proofs.Indexed.{same_some}
use Rattle.hfs_catalog.specs.Records.{Record, Catalog, has_id, item_with, item_ids, items_of as items_in}
use Rattle.hfs_catalog.specs.Parents.{parent_in}
use Rattle.hfs_catalog.specs.Sound.{HasPlace, EachItem}
use Rattle.hfs_check.specs.Parts.{catalog_in}
use Rattle.hfs_remains.specs.CatalogRecords.{found}
use Rattle.hfs_remains_places.specs.declared.things.Thing.{Thing}
use Rattle.hfs_remains_places.specs.Folders.{thing_at, place_of}
use Rattle.hfs_remains_places.specs.Things.{folder_of}
use Rattle.hfs_remains_places.specs.Chains.{place_at, ups_of}
use Rattle.hfs_remains_places.proofs.ChainLemmas.{up-of}
use Rattle.hfs_remains_places.proofs.PathLemmas.{above-is, above-number}
use Rattle.hfs_remains_places.specs.Laws.{HasWay}
use Rattle.hfs_remains_forks.specs.Records.{folder_number, thing_of}
use Rattle.hfs_remains_forks.specs.Laws.{things_in, HasSomeWay, SoundItemsHaveWays}
use Rattle.hfs_remains_forks.proofs.SoundThingLemmas.{at-item, each-kept, folder-there}

-- ---- the items of a catalog

items-are-items : (records : Catalog) → Each (λ r. is_item r.1 ≡ true) (items_in records)
items-are-items [] = tt
items-are-items (r ∷ records) = by (is_item r.1) refl (items-are-items records)
  where
    by : (b : Bool) → is_item r.1 ≡ b → Each (λ r. is_item r.1 ≡ true) (items_in records) → Each (λ r. is_item r.1 ≡ true) (cond b (r ∷ items_in records) (items_in records))
    by true e rest = (e, rest)
    by false e rest = rest

other-at : (ids : List ℕ) (n i : ℕ) → Each (IsOther n) ids → i < length ids → get_or ids i 0 ≡ n → ⊥
other-at ids n i others within same = each-at (IsOther n) ids i 0 others within same

id-at : (items : Catalog) (i : ℕ) (d : Record) → i < length items → get_or (map (λ (r : Record). item_id r.1) items) i 0 ≡ item_id (get_or items i d).1
id-at [] i d within = absurd (omega (arith, within))
id-at (r ∷ items) zero d within = refl
id-at (r ∷ items) (suc i) d within = id-at items i d (omega (arith, within))

length-ids : (items : Catalog) → length (map (λ (r : Record). item_id r.1) items) ≡ length items
length-ids [] = refl
length-ids (r ∷ items) = ap suc (length-ids items)

-- an item is the one with its ID
one-with-id : (records : Catalog) → IsDistinct (item_ids records) → (i : ℕ) (d : Record) → i < length (items_in records)
    → item_with records (item_id (get_or (items_in records) i d).1) ≡ Some (get_or (items_in records) i d)
one-with-id [] once i d within = absurd (omega (arith, within))
one-with-id (r ∷ records) once i d within = by (is_item r.1) refl once i within (λ distinct k lt. one-with-id records distinct k d lt)
  where
    by : (b : Bool) → is_item r.1 ≡ b → IsDistinct (map (λ (q : Record). item_id q.1) (cond b (r ∷ items_in records) (items_in records))) → (i : ℕ)
        → i < length (cond b (r ∷ items_in records) (items_in records))
        → (IsDistinct (item_ids records) → (k : ℕ) → k < length (items_in records) → item_with records (item_id (get_or (items_in records) k d).1) ≡ Some (get_or (items_in records) k d))
        → find (has_id (item_id (get_or (cond b (r ∷ items_in records) (items_in records)) i d).1)) (r ∷ records) ≡ Some (get_or (cond b (r ∷ items_in records) (items_in records)) i d)
    by true item once zero within rest =
        (λ t. cond (item t && eq-eqb (item_id r.1) (item_id r.1) refl t) (Some r) (find (has_id (item_id r.1)) records))
    by true item once (suc i) within rest =
        let q = get_or (items_in records) i d in
        let lt : i < length (items_in records) = omega (arith, within) in
        let other : (item_id r.1 == item_id q.1) ≡ false =
        ne_eqb (item_id r.1) (item_id q.1) (λ e. other-at (item_ids records) (item_id r.1) i once.0 (omega (arith, lt, length-ids (items_in records))) (id-at (items_in records) i d lt ∙ sym e)) in
        (λ t. cond (item t && other t) (Some r) (find (has_id (item_id q.1)) records)) ∙ rest once.1 i lt
    by false item once i within rest =
        let q = get_or (items_in records) i d in
        (λ t. cond (item t && (item_id r.1 == item_id q.1)) (Some r) (find (has_id (item_id q.1)) records)) ∙ rest once i within

-- ---- a way

some-is : (o : Option Record) (p : ℕ) → option_map (λ (r : Record). r.0.parent) o ≡ Some p → (r : Record) × (o ≡ Some r)
some-is None p e = cc
some-is (Some r) p e = (r, refl)

dir-of : (o : Option Record) (r : Record) → o ≡ Some r → option_map_or (λ (q : Record). is_dir q.1) o false ≡ true → is_dir r.1 ≡ true
dir-of o r is dir = sym (ap (λ (x : Option Record). option_map_or (λ (q : Record). is_dir q.1) x false) is) ∙ dir

some-place : (o : Option ℕ) → is_some o ≡ true → (p : ℕ) × (o ≡ Some p)
some-place None e = cc
some-place (Some p) e = (p, refl)

number-of : (body : List ℕ) (n : ℕ) → folder_number body ≡ Some n → item_id body ≡ n
number-of body n e = by (is_dir body) e
  where
    by : (b : Bool) → (if b then Some (item_id body) else None) ≡ Some n → item_id body ≡ n
    by true e = cc
    by false e = cc

-- one name more
with-name : (things : List Thing) (i p : ℕ) → place_at (ups_of things) i ≡ Some p → (names : List (List ℕ)) → HasWay things names p → HasSomeWay things i
with-name things i p up [] way = absurd way
with-name things i p up (m ∷ names) way = record { names = (thing_at things i).name ∷ m ∷ names; way = (refl, p, up, way) }

module _ (catalog : Catalog) (once : IsDistinct (item_ids catalog)) (parents : EachItem (λ r. (item_id r.1 ≡ 2) ⊎ HasPlace catalog r) catalog) (d : Record) where
  abbrev item-at : ℕ → Record
  item-at i = get_or (items_in catalog) i d

  length-things : length (things_in catalog) ≡ length (items_in catalog)
  length-things = length-map (map (found false) (items_in catalog)) thing_of ∙ length-map (items_in catalog) (found false)

  has-place : (i : ℕ) → i < length (items_in catalog) → item_id (item-at i).1 ≢ 2 → HasPlace catalog (item-at i)
  has-place i within other =
      elim (each-at (λ r. is_item r.1 ≡ true → (item_id r.1 ≡ 2) ⊎ HasPlace catalog r) (items_in catalog) i d (each-kept (λ r. is_item r.1 ≡ true → (item_id r.1 ≡ 2) ⊎ HasPlace catalog r) (λ r. is_item r.1) catalog parents) within
      (each-at (λ r. is_item r.1 ≡ true) (items_in catalog) i d (items-are-items catalog) within)) [
        | inl root ↦ absurd (other root)
        | inr place ↦ place
      ]

  -- the folder in which an item lies
  module _ (i : ℕ) (within : i < length (items_in catalog)) (other : item_id (item-at i).1 ≢ 2) (inner : (item-at i).0.parent ≢ 2) where
    abbrev number : ℕ
    number = (item-at i).0.parent

    folder-place : (z : ℕ) → parent_in catalog number ≡ Some z → (p : ℕ) × (place_of (things_in catalog) number ≡ Some p)
    folder-place z next =
        let q = some-is (item_with catalog number) z next in
        let there = found_in (has_id number) catalog q.0 q.1 in
        let id = and_parts (is_item q.0.1) (item_id q.0.1 == number) there.1 in
        let dir = dir-of (item_with catalog number) q.0 q.1 (has-place i within other).parent in
        some-place (place_of (things_in catalog) number) (folder-there catalog 0 number q.0 there.0 id.0 dir (eqb-true (item_id q.0.1) number id.1))

    above-place : (p : ℕ) → place_of (things_in catalog) number ≡ Some p → folder_of (things_in catalog) number ≡ Some p
    above-place p is = ap (λ (b : Bool). if b then None else place_of (things_in catalog) number) (ne_eqb number 2 inner) ∙ is

    up-is-place : (p : ℕ) → place_of (things_in catalog) number ≡ Some p → place_at (ups_of (things_in catalog)) i ≡ Some p
    up-is-place p is =
        up-of (things_in catalog) i (omega (arith, within, length-things))
        ∙ ap (λ (t : Thing). folder_of (things_in catalog) t.parent) (at-item (items_in catalog) i d within)
        ∙ above-place p is

    -- it is the item with that ID
    above-id : (p : ℕ) → place_of (things_in catalog) number ≡ Some p → (p < length (items_in catalog)) × (item_id (item-at p).1 ≡ number)
    above-id p is =
        let place = above-place p is in
        let below : p < length (items_in catalog) = omega (arith, (above-is (things_in catalog) number p place).below, length-things) in
        (below, number-of (item-at p).1 number (sym (ap (λ (t : Thing). t.folder) (at-item (items_in catalog) p d below)) ∙ above-number (things_in catalog) number p place))

  here : (i : ℕ) → i < length (items_in catalog) → (item-at i).0.parent ≡ 2 → HasSomeWay (things_in catalog) i
  here i within two = record {
    names = (thing_at (things_in catalog) i).name ∷ [];
    way = (refl, ap (λ (t : Thing). t.parent) (at-item (items_in catalog) i d within) ∙ two);
  }

  -- an item has the parent that is looked up
  own-parent : (i : ℕ) → i < length (items_in catalog) → parent_in catalog (item_id (item-at i).1) ≡ Some (item-at i).0.parent
  own-parent i within = ap (option_map (λ (r : Record). r.0.parent)) (one-with-id catalog once i d within)

  way-from : (n i : ℕ) → i < length (items_in catalog) → item_id (item-at i).1 ≢ 2 → Leads (parent_in catalog) n (item-at i).0.parent 2 → HasSomeWay (things_in catalog) i
  way-from zero i within other leads = here i within leads
  way-from (suc n) i within other leads =
      elim (cases_eq (item-at i).0.parent 2) [
        | inl two ↦ here i within two
        | inr inner ↦ deeper inner (λ p below beside on. way-from n p below beside on)
      ]
    where
      deeper : (item-at i).0.parent ≢ 2
          → ((p : ℕ) → p < length (items_in catalog) → item_id (item-at p).1 ≢ 2 → Leads (parent_in catalog) n (item-at p).0.parent 2 → HasSomeWay (things_in catalog) p)
          → HasSomeWay (things_in catalog) i
      deeper inner rest =
          let place = folder-place i within other inner leads.0 leads.1 in
          let p = place.0 in
          let above = above-id i within other inner p place.1 in
          let own : parent_in catalog (item-at i).0.parent ≡ Some (item-at p).0.parent = ap (parent_in catalog) (sym above.1) ∙ own-parent p above.0 in
          let same : leads.0 ≡ (item-at p).0.parent = same_some leads.0 (item-at p).0.parent (sym leads.1 ∙ own) in
          let found-way = rest p above.0 (λ e. inner (sym above.1 ∙ e)) (subst (λ (z : ℕ). Leads (parent_in catalog) n z 2) same leads.2) in
          with-name (things_in catalog) i p (up-is-place i within other inner p place.1) found-way.names found-way.way

  -- the chain of an item begins with its parent
  from-chain : (i : ℕ) → i < length (items_in catalog) → item_id (item-at i).1 ≢ 2 → (steps : ℕ) → Leads (parent_in catalog) steps (item_id (item-at i).1) 2 → HasSomeWay (things_in catalog) i
  from-chain i within other zero leads = absurd (other leads)
  from-chain i within other (suc n) leads =
      let same : leads.0 ≡ (item-at i).0.parent = same_some leads.0 (item-at i).0.parent (sym leads.1 ∙ own-parent i within) in
      way-from n i within other (subst (λ (z : ℕ). Leads (parent_in catalog) n z 2) same leads.2)

pub ways-are : SoundItemsHaveWays
ways-are total blocks h i d within other =
    let place = has-place (catalog_in blocks) h.ids.distinct h.places.records.parents d i within other in
    from-chain (catalog_in blocks) h.ids.distinct h.places.records.parents d i within other place.chain.0 place.chain.1
