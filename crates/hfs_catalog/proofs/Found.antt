-- What the first pair from a key on says of a look-up.
use Rattle.std.proofs.Common.{◌≡◌, ⊎_elim, ℕ, ◌≤◌, Bool, true, false, cond, ◌&&◌, eqb, List, [], ◌∷◌, length, refl, sym, ◌∙◌, ap, arith, Option, Some, None}
use Rattle.std.specs.Bool.{IsTrue}
use Rattle.std.specs.List.{find}
use Rattle.std.specs.Option.{option_map, unwrap_or}
use Rattle.std.specs.declared.cmp.Ordering.{Ordering}
use Rattle.std.specs.declared.cmp.Ordering.TheVariants.{Less, Equal}
use Rattle.std.specs.Ordering.{is_eq, is_gt, ordering_then, ordering_reverse}
use Rattle.std.specs.Cmp.{nat_cmp_is}
use Rattle.std.proofs.lemmas.Bool.{eqb-true, eq-eqb, true≢false, and_parts, and_from, or_cases, false_from_ne_true}
use Rattle.hfs_fields.specs.declared.key.CatKey.{CatKey}
use Rattle.hfs_fields.specs.declared.thread_record.ThreadRecord.{ThreadRecord}
use Rattle.hfs_fields.specs.Order.{name_cmp, same_name}
use Rattle.hfs_fields.specs.Keys.{cat_cmp, cat_cmp_total}
use Rattle.hfs_fields.specs.Records.{type_byte, is_dir, is_file, is_item, is_thread, is_dir_thread, is_file_thread, begins_thread, thread_record_of}
use Rattle.hfs_fields.specs.Each.{Each}
use Rattle.hfs_btree.specs.Pairs.{Rises, pairs_from}
use Rattle.hfs_fields.proofs.ElementLemmas.{each-mono}
use Rattle.hfs_btree.specs.Sound.{IsDistinct}
use Rattle.hfs_btree.specs.Lookups.{first_pair}
use Rattle.hfs_btree.proofs.LookupLemmas.{le-lt}
use Rattle.hfs_catalog.specs.declared.item.CatalogItem.{CatalogItem}
use Rattle.hfs_catalog.specs.Records.{Record, Catalog, item_with, item_ids, is_child_of, is_thread_of}
use Rattle.hfs_catalog.specs.Sound.{IsRecord, AreNamesSound, ArePlacesSound, HasItem}
use Rattle.hfs_catalog.specs.Lookups.{catalog_item, is_child_named, child_named, thread_of, named_at, thread_at}
use Rattle.hfs_fields.specs.Members.{In}
use Rattle.hfs_fields.proofs.MemberLemmas.{each_in, found_in}
use Rattle.hfs_catalog.proofs.Held.{with_id}
use Rattle.hfs_catalog.proofs.Lawful.{one_record, same_keys}
use Rattle.hfs_model.proofs.InOrder.{none_some}

not_greater : (o : Ordering) → o ≡ Equal → is_gt o ≡ true → ⊥
not_greater o e g = true≢false (sym g ∙ ap is_gt e)

not_less : (o : Ordering) → o ≡ Equal → o ≡ Less → ⊥
not_less o e l = true≢false (ap is_eq (sym e) ∙ ap is_eq l)

-- ---- one record at a key

module _ (test : Record → Bool) (key : CatKey) where
  -- the records that pass have the key, in the order of keys
  abbrev Ties : Catalog → Type 0
  Ties catalog = Each (λ r. test r ≡ true → cat_cmp key r.0 ≡ Equal) catalog

  none_later : (r : Record) (rest : Catalog) → is_gt (cat_cmp key r.0) ≡ false → Each (λ q. cat_cmp r.0 q.0 ≡ Less) rest → Ties rest → find test rest ≡ None
  none_later r [] low h t = refl
  none_later r (q ∷ rest) low h t =
      let fails : test q ≡ false = false_from_ne_true (test q) (λ e. not_less _ (t.0 e) (le-lt cat_cmp cat_cmp_total key r.0 q.0 low h.0)) in
      ap (λ b. cond b (Some q) (find test rest)) fails ∙ none_later r rest low h.1 t.1

  module _ (B : Type 0) (of : Record → B) (at : Option Record → Option B) (none : at None ≡ None) where
    -- what is found is the first record from the key on, if that one passes
    pub found_first : (catalog : Catalog) → Rises cat_cmp catalog → Ties catalog → Each (λ r. at (Some r) ≡ cond (test r) (Some (of r)) None) catalog
        → at (first_pair (pairs_from cat_cmp key catalog)) ≡ option_map of (find test catalog)
    found_first [] h t some = none
    found_first (r ∷ rest) h t some = elim (is_gt (cat_cmp key r.0)) as (λ (b : Bool). is_gt (cat_cmp key r.0) ≡ b → at (first_pair (cond b (pairs_from cat_cmp key rest) (r ∷ rest))) ≡ option_map of (cond (test r) (Some r) (find test rest))) [
      | true ↦ λ above.
          let fails : test r ≡ false = false_from_ne_true (test r) (λ e. not_greater _ (t.0 e) above) in
          found_first rest h.1 t.1 some.1 ∙ sym (ap (λ b. option_map of (cond b (Some r) (find test rest))) fails)
      | false ↦ λ low. some.0 ∙ elim (test r) as (λ (b : Bool). cond b (Some (of r)) None ≡ option_map of (cond b (Some r) (find test rest))) [
        | true ↦ refl
        | false ↦ sym (ap (option_map of) (none_later r rest low h.0 t.1))
      ]
    ] refl

every : (P : Record → Type 0) → ((r : Record) → P r) → (catalog : Catalog) → Each P catalog
every P all [] = tt
every P all (r ∷ rest) = (all r, every P all rest)

-- ---- a child by its name

tied : (dir : ℕ) (name : List ℕ) (r : Record) → is_child_named dir name r ≡ true → cat_cmp (record { parent = dir; name = name }) r.0 ≡ Equal
tied dir name r e =
    let both = and_parts (is_child_of dir r) (same_name r.0.name name) e in
    let parent : r.0.parent ≡ dir = eqb-true r.0.parent dir (and_parts (is_item r.1) (eqb r.0.parent dir) both.0).1 in
    let back : cat_cmp r.0 (record { parent = dir; name = name }) ≡ Equal = same_keys r (record { parent = dir; name = name }, []) parent both.1 in
    cat_cmp_total.antisymm (record { parent = dir; name = name }) r.0 ∙ ap ordering_reverse back

pub named_first : (catalog : Catalog) (dir : ℕ) (name : List ℕ) → Rises cat_cmp catalog
    → named_at dir name (first_pair (pairs_from cat_cmp (record { parent = dir; name = name }) catalog)) ≡ option_map catalog_item (child_named catalog dir name)
named_first catalog dir name h =
    found_first (is_child_named dir name) (record { parent = dir; name = name }) CatalogItem catalog_item (named_at dir name) refl catalog h
    (every _ (tied dir name) catalog) (every _ (λ r. refl) catalog)

-- ---- a thread by its ID

pub thread_is_short : (body : List ℕ) → is_thread body ≡ true → length body ≡ 46
thread_is_short body e = ⊎_elim
    (λ (folder : is_dir_thread body ≡ true). eqb-true (length body) 46 (and_parts (eqb (type_byte body) 3) (eqb (length body) 46) folder).1)
    (λ (file : is_file_thread body ≡ true). eqb-true (length body) 46 (and_parts (eqb (type_byte body) 4) (eqb (length body) 46) file).1)
    (or_cases (is_dir_thread body) (is_file_thread body) e)

pub item_is_long : (body : List ℕ) → is_item body ≡ true → 70 ≤ length body
item_is_long body e = ⊎_elim
    (λ (folder : is_dir body ≡ true). let len = eqb-true (length body) 70 (and_parts (eqb (type_byte body) 1) (eqb (length body) 70) folder).1 in omega arith)
    (λ (file : is_file body ≡ true). let len = eqb-true (length body) 102 (and_parts (eqb (type_byte body) 2) (eqb (length body) 102) file).1 in omega arith)
    (or_cases (is_dir body) (is_file body) e)

-- the key of a thread has an empty name
pub unnamed : (r : Record) → IsRecord r → is_thread r.1 ≡ true → r.0.name ≡ []
unnamed r h thread = ⊎_elim
    (λ (item : IsTrue (is_item r.1) × (1 ≤ length r.0.name)). absurd (omega (arith, thread_is_short r.1 thread, item_is_long r.1 item.0)))
    (λ (other : IsTrue (is_thread r.1) × (length r.0.name ≡ 0)). nil r.0.name other.1)
    h
  where
    nil : (xs : List ℕ) → length xs ≡ 0 → xs ≡ []
    nil [] e = refl
    nil (x ∷ xs) e = absurd (omega arith)

thread_ties : (id : ℕ) (r : Record) → IsRecord r → is_thread_of id r ≡ true → cat_cmp (record { parent = id; name = [] }) r.0 ≡ Equal
thread_ties id r h e =
    let both = and_parts (is_thread r.1) (eqb r.0.parent id) e in
    let parent : r.0.parent ≡ id = eqb-true r.0.parent id both.1 in
    let name : r.0.name ≡ [] = unnamed r h both.0 in
    (λ i. cat_cmp (record { parent = id; name = [] }) (record { parent = parent i; name = name i })) ∙ itself
  where
    itself : cat_cmp (record { parent = id; name = [] }) (record { parent = id; name = [] }) ≡ Equal
    itself = ap (λ (o : Ordering). ordering_then o (name_cmp [] [])) (sym (nat_cmp_is id id Equal refl))

readable : (id : ℕ) (r : Record) → (IsTrue (is_thread r.1) → IsTrue (begins_thread r.1) × Unit {0}) → thread_at id (Some r) ≡ cond (is_thread_of id r) (Some (thread_record_of r.1)) None
readable id r h = elim (is_thread_of id r) as (λ (b : Bool). is_thread_of id r ≡ b → cond (b && begins_thread r.1) (Some (thread_record_of r.1)) None ≡ cond b (Some (thread_record_of r.1)) None) [
  | true ↦ λ e. ap (λ (b : Bool). cond b (Some (thread_record_of r.1)) None) (h (and_parts (is_thread r.1) (eqb r.0.parent id) e).0).0
  | false ↦ λ e. refl
] refl

pub thread_first : (catalog : Catalog) (id : ℕ) → Rises cat_cmp catalog → Each IsRecord catalog → AreNamesSound catalog
    → thread_at id (first_pair (pairs_from cat_cmp (record { parent = id; name = [] }) catalog)) ≡ option_map (λ (r : Record). thread_record_of r.1) (thread_of catalog id)
thread_first catalog id h records names =
    found_first (is_thread_of id) (record { parent = id; name = [] }) ThreadRecord (λ r. thread_record_of r.1) (thread_at id) refl catalog h
    (each-mono _ _ catalog (λ r is. thread_ties id r is) records)
    (each-mono _ _ catalog (λ r is. readable id r (λ thread. ((is thread).0, tt))) names.threads)

-- ---- an item by its thread

pub missed : (test : Record → Bool) (catalog : Catalog) (r : Record) → find test catalog ≡ None → In r catalog → test r ≡ true → ⊥
missed test [] r none i e = i
missed test (q ∷ rest) r none i e = elim (test q) as (λ (b : Bool). test q ≡ b → cond b (Some q) (find test rest) ≡ None → ⊥) [
  | true ↦ λ passes some. none_some q some
  | false ↦ λ fails later. ⊎_elim (λ (here : q ≡ r). true≢false (sym e ∙ ap test (sym here) ∙ fails)) (λ (there : In r rest). missed test rest r later there e) i
] refl none

-- the one child of that name
pub only : (catalog : Catalog) (dir : ℕ) (name : List ℕ) (item : Record) → Rises cat_cmp catalog → In item catalog → is_child_named dir name item ≡ true → child_named catalog dir name ≡ Some item
only catalog dir name item h i e = elim (child_named catalog dir name) as (λ (o : Option Record). child_named catalog dir name ≡ o → o ≡ Some item) [
  | None ↦ λ none. absurd (missed (is_child_named dir name) catalog item none i e)
  | Some other ↦ λ some.
      let found = found_in (is_child_named dir name) catalog other some in
      let tie : cat_cmp other.0 item.0 ≡ Equal = sym (cat_cmp_total.congr (record { parent = dir; name = name }) other.0 item.0 (tied dir name other found.1)) ∙ tied dir name item e in
      ap Some (one_record catalog other item h found.0 i tie)
] refl

pub by_thread : (catalog : Catalog) (id : ℕ) (thread : Record) → ArePlacesSound catalog → IsDistinct (item_ids catalog) → thread_of catalog id ≡ Some thread
    → child_named catalog (thread_record_of thread.1).parent (thread_record_of thread.1).name ≡ item_with catalog id
by_thread catalog id thread places distinct is =
    let found = found_in (is_thread_of id) catalog thread is in
    let both = and_parts (is_thread thread.1) (eqb thread.0.parent id) found.1 in
    let key : thread.0.parent ≡ id = eqb-true thread.0.parent id both.1 in
    let has : HasItem catalog thread = each_in _ catalog thread places.threads found.0 both.0 in
    let there = with_id catalog thread.0.parent has.0 has.1 in
    let of_it : is_child_named (thread_record_of thread.1).parent (thread_record_of thread.1).name has.0 ≡ true =
    and_from _ _ (and_from (is_item has.0.1) _ there.1 (eq-eqb has.0.0.parent (thread_record_of thread.1).parent (sym has.2.parent))) has.2.name in
    only catalog (thread_record_of thread.1).parent (thread_record_of thread.1).name has.0 places.rises there.0 of_it ∙ sym has.1 ∙ ap (item_with catalog) key

pub by_its_thread : (catalog : Catalog) (id : ℕ) (t : ThreadRecord) → ArePlacesSound catalog → IsDistinct (item_ids catalog) → option_map (λ (r : Record). thread_record_of r.1) (thread_of catalog id) ≡ Some t
    → child_named catalog t.parent t.name ≡ item_with catalog id
by_its_thread catalog id t places distinct is = elim (thread_of catalog id) as (λ (o : Option Record). thread_of catalog id ≡ o → option_map (λ (r : Record). thread_record_of r.1) o ≡ Some t → child_named catalog t.parent t.name ≡ item_with catalog id) [
  | None ↦ λ e none. absurd (none_some t (sym none))
  | Some thread ↦ λ e some.
      let same : thread_record_of thread.1 ≡ t = ap (λ (o : Option ThreadRecord). unwrap_or o t) some in
      ap (λ (u : ThreadRecord). child_named catalog u.parent u.name) (sym same) ∙ by_thread catalog id thread places distinct e
] refl is
