-- The things of a sound volume: its items alone, no two of which are called the same in one folder.
use Rattle.std.proofs.Common.{◌≡◌, ℕ, zero, suc, ◌+◌, ◌<◌, Bool, true, false, cond, ◌||◌, ◌==◌, if◌then◌else◌, List, [], ◌∷◌, ◌++◌, map, length, take, get_or, Option, Some, None, refl, sym, ap, subst, ◌∙◌, arith, inl, inr, ◌⊎◌}
use Rattle.std.specs.Prelude.{filter}
use Rattle.std.specs.List.{position_from}
use Rattle.std.specs.Option.{is_some, option_map_or, option_to_list}
use Rattle.std.specs.Str.{bytes_eq}
use Rattle.std.specs.declared.cmp.Ordering.TheVariants.{Less, Equal}
use Rattle.std.specs.Ordering.{nat_cmp, ordering_then}
use Rattle.std.proofs.lemmas.Bool.{and_parts, eqb-true, eq-eqb, false_from_ne_true, or_left, or_right}
use Rattle.std.proofs.lemmas.List.{length-map}
use Rattle.std.proofs.lemmas.Cmp.{tied_itself, nat_cmp_total}
use Rattle.std.proofs.lemmas.Slice.Eq.{bytes_eq-Decides}
use Rattle.hfs_fields.specs.declared.key.CatKey.{CatKey}
use Rattle.hfs_fields.specs.Keys.{cat_cmp}
use Rattle.hfs_fields.specs.Order.{name_cmp}
use Rattle.hfs_fields.specs.Records.{is_dir, is_item, is_thread, is_dir_thread, item_id}
use Rattle.hfs_fields.specs.Each.{Each}
use Rattle.hfs_fields.specs.Members.{In}
use Rattle.hfs_fields.proofs.ElementLemmas.{each-at}
use Rattle.hfs_fields.proofs.MemberLemmas.{found_in}
use Rattle.hfs_btree.specs.Pairs.{Rises}
use Rattle.hfs_texts.proofs.HostNameLemmas.{host-names}
use Rattle.hfs_catalog.specs.Records.{Record, Catalog, has_id, items_of as items_in}
use Rattle.hfs_catalog.specs.Sound.{HasItem, EachThread}
use Rattle.hfs_check.specs.Parts.{Blocks, catalog_in}
use Rattle.hfs_check.specs.Sound.{AreBlocksSound}
use Rattle.hfs_remains.specs.CatalogRecords.{found}
use Rattle.hfs_remains_places.specs.declared.things.Thing.{Thing}
use Rattle.hfs_remains_places.specs.Folders.{thing_at, is_folder_of, place_of}
use Rattle.hfs_remains_places.specs.Things.{is_taken, named_behind}
use Rattle.hfs_remains_places.specs.Entries.{entry_row, has_entry_row}
use Rattle.hfs_remains_places.specs.Laws.{AreThings, HaveOwnNames, IsThing}
use Rattle.hfs_remains_places.proofs.RowPartLemmas.{rows-part}
use Rattle.hfs_remains_forks.specs.Records.{folder_number, thing_of, names_folder, named_by, namings_of}
use Rattle.hfs_remains_forks.specs.Laws.{SoundThingsAreItems, things_in}

-- ---- each folder that a thread names has an item

-- the folder of a record is found among the things of the records
pub folder-there : (records : Catalog) (k number : ℕ) (item : Record) → In item records → is_item item.1 ≡ true → is_dir item.1 ≡ true → item_id item.1 ≡ number
    → is_some (position_from (is_folder_of number) k (map thing_of (map (found false) (items_in records)))) ≡ true
folder-there [] k number item there is dir id = absurd there
folder-there (r ∷ records) k number item there is dir id = by (is_item r.1) refl there (λ later behind. folder-there records later number item behind is dir id)
  where
    own : r ≡ item → is_folder_of number (thing_of (found false r)) ≡ true
    own same =
        ap (λ (q : Record). option_map_or (λ n. n == number) (folder_number q.1) false) same
        ∙ ap (λ (b : Bool). option_map_or (λ n. n == number) (if b then Some (item_id item.1) else None) false) dir
        ∙ eq-eqb (item_id item.1) number id

    first : (b : Bool) (o : Option ℕ) → b ≡ true → is_some (cond b (Some k) o) ≡ true
    first true o e = refl
    first false o e = cc

    later : (b : Bool) (o : Option ℕ) → is_some o ≡ true → is_some (cond b (Some k) o) ≡ true
    later true o e = refl
    later false o e = e

    by : (b : Bool) → is_item r.1 ≡ b → (r ≡ item) ⊎ In item records
        → ((k : ℕ) → In item records → is_some (position_from (is_folder_of number) k (map thing_of (map (found false) (items_in records)))) ≡ true)
        → is_some (position_from (is_folder_of number) k (map thing_of (map (found false) (cond b (r ∷ items_in records) (items_in records))))) ≡ true
    by true e (inl same) rest = first (is_folder_of number (thing_of (found false r))) (position_from (is_folder_of number) (k + 1) (map thing_of (map (found false) (items_in records)))) (own same)
    by true e (inr behind) rest =
        later (is_folder_of number (thing_of (found false r))) (position_from (is_folder_of number) (k + 1) (map thing_of (map (found false) (items_in records)))) (rest (k + 1) behind)
    by false e (inl same) rest = let no : false ≡ true = sym e ∙ ap (λ (q : Record). is_item q.1) same ∙ is in cc
    by false e (inr behind) rest = rest k behind

-- a thread that names a folder is of a folder that is an item
named-taken : (catalog : Catalog) (r : Record) → (is_thread r.1 ≡ true → HasItem catalog r) → names_folder (found false r) ≡ true
    → is_taken (map thing_of (map (found false) (items_in catalog))) r.0.parent ≡ true
named-taken catalog r threads names =
    let thread : is_dir_thread r.1 ≡ true = (and_parts _ (is_dir_thread r.1) (and_parts _ _ (and_parts _ _ names).0).0).1 in
    let has = threads (or_left (is_dir_thread r.1) _ thread) in
    let item = has.0 in
    let there = found_in (has_id r.0.parent) catalog item has.1 in
    let id = and_parts (is_item item.1) (item_id item.1 == r.0.parent) there.1 in
    let dir : is_dir item.1 ≡ true = sym has.2.kind ∙ thread in
    or_right (r.0.parent == 2) (is_some (place_of (map thing_of (map (found false) (items_in catalog))) r.0.parent))
    (folder-there catalog 0 r.0.parent item there.0 id.0 dir (eqb-true (item_id item.1) r.0.parent id.1))

none-named : (things : List Thing) (records : Catalog) → Each (λ r. names_folder (found false r) ≡ true → is_taken things r.0.parent ≡ true) records
    → named_behind things (namings_of (map (found false) records)) ≡ things
none-named things [] each = refl
none-named things (r ∷ records) each = by (names_folder (found false r)) each.0 (none-named things records each.1)
  where
    by : (b : Bool) → (b ≡ true → is_taken things r.0.parent ≡ true) → named_behind things (namings_of (map (found false) records)) ≡ things
        → named_behind things (option_to_list (if b then Some (named_by (found false r)) else None) ++ namings_of (map (found false) records)) ≡ things
    by true taken rest =
        ap (λ (t : Bool). named_behind (if t then things else things ++ named_by (found false r) ∷ []) (namings_of (map (found false) records))) (taken refl) ∙ rest
    by false taken rest = rest

each-taken : (catalog records : Catalog) → EachThread (HasItem catalog) records
    → Each (λ r. names_folder (found false r) ≡ true → is_taken (map thing_of (map (found false) (items_in catalog))) r.0.parent ≡ true) records
each-taken catalog [] each = tt
each-taken catalog (r ∷ records) each = (named-taken catalog r each.0, each-taken catalog records each.1)

pub things-are : SoundThingsAreItems
things-are total blocks h =
    none-named (map thing_of (map (found false) (items_in (catalog_in blocks)))) (catalog_in blocks) (each-taken (catalog_in blocks) (catalog_in blocks) h.places.records.threads)

-- ---- names

-- keys of one folder, one above the other, have other names in order
not-alike : (a b : CatKey) → cat_cmp a b ≡ Less → a.parent ≡ b.parent → name_cmp a.name b.name ≡ Equal → ⊥
not-alike a b less parents names =
    let same : nat_cmp a.parent b.parent ≡ Equal = ap (λ (n : ℕ). nat_cmp a.parent n) (sym parents) ∙ tied_itself {R = nat_cmp} nat_cmp_total a.parent in
    let equal : cat_cmp a b ≡ Equal = (λ t. ordering_then (same t) (names t)) in
    let no : Equal ≡ Less = sym equal ∙ less in cc

pub each-kept : (P : Record → Type 0) (p : Record → Bool) (records : Catalog) → Each P records → Each P (filter p records)
each-kept P p [] each = tt
each-kept P p (r ∷ records) each = by (p r) (each-kept P p records each.1)
  where
    by : (b : Bool) → Each P (filter p records) → Each P (cond b (r ∷ filter p records) (filter p records))
    by true rest = (each.0, rest)
    by false rest = rest

rises-kept : (p : Record → Bool) (records : Catalog) → Rises cat_cmp records → Rises cat_cmp (filter p records)
rises-kept p [] rises = tt
rises-kept p (r ∷ records) rises = by (p r) (rises-kept p records rises.1)
  where
    by : (b : Bool) → Rises cat_cmp (filter p records) → Rises cat_cmp (cond b (r ∷ filter p records) (filter p records))
    by true rest = (each-kept (λ q. cat_cmp r.0 q.0 ≡ Less) p records rises.0, rest)
    by false rest = rest

abbrev pub thing-in : Record → Thing
thing-in r = thing_of (found false r)

pub at-item : (items : Catalog) (i : ℕ) (d : Record) → i < length items → thing_at (map thing_of (map (found false) items)) i ≡ thing-in (get_or items i d)
at-item [] i d lt = absurd (omega (arith, lt))
at-item (q ∷ items) zero d lt = refl
at-item (q ∷ items) (suc i) d lt = at-item items i d (omega (arith, lt))

apart : (r : Record) (items : Catalog) (i : ℕ) → Each (λ q. cat_cmp r.0 q.0 ≡ Less) items → i < length items → IsThing (thing-in r) → IsThing (thing_at (map thing_of (map (found false) items)) i)
    → bytes_eq (entry_row (thing-in r)) (entry_row (thing_at (map thing_of (map (found false) items)) i)) ≡ false
apart r items i less inside first second =
    let at = at-item items i r inside in
    let q = get_or items i r in
    let is : IsThing (thing-in q) = subst IsThing at second in
    false_from_ne_true (bytes_eq (entry_row (thing-in r)) (entry_row (thing_at (map thing_of (map (found false) items)) i)))
    (λ so.
    let same : entry_row (thing-in r) ≡ entry_row (thing-in q) =
    (bytes_eq-Decides (entry_row (thing-in r)) (entry_row (thing_at (map thing_of (map (found false) items)) i))).0 so ∙ ap entry_row at in
    let alike = rows-part (thing-in r) (thing-in q) first is same in
    not-alike r.0 q.0 (each-at (λ q. cat_cmp r.0 q.0 ≡ Less) items i r less inside) alike.parents (host-names.one_in_case r.0.name q.0.name first.bytes is.bytes alike.hosts))

own-names : (items : Catalog) → Rises cat_cmp items → ((i : ℕ) → i < length items → IsThing (thing_at (map thing_of (map (found false) items)) i))
    → (i : ℕ) → i < length items → has_entry_row (take i (map thing_of (map (found false) items))) (entry_row (thing_at (map thing_of (map (found false) items)) i)) ≡ false
own-names [] rises are i within = absurd (omega (arith, within))
own-names (r ∷ items) rises are zero within = refl
own-names (r ∷ items) rises are (suc i) within =
    let things = map thing_of (map (found false) items) in
    let inside : i < length items = omega (arith, within) in
    let other : bytes_eq (entry_row (thing-in r)) (entry_row (thing_at things i)) ≡ false = apart r items i rises.0 inside (are 0 (omega arith)) (are (suc i) within) in
    let rest = own-names items rises.1 (λ k lt. are (suc k) (omega (arith, lt))) i inside in
    λ t. other t || rest t

pub names-own : (total : ℕ) (blocks : Blocks) → AreBlocksSound total blocks → AreThings (things_in (catalog_in blocks)) → HaveOwnNames (things_in (catalog_in blocks))
names-own total blocks h are i within =
    let items = items_in (catalog_in blocks) in
    let all : length (map thing_of (map (found false) items)) ≡ length items = length-map (map (found false) items) thing_of ∙ length-map items (found false) in
    own-names items (rises-kept (λ r. is_item r.1) (catalog_in blocks) h.places.records.rises) (λ k lt. are.each k (omega (arith, lt, all))) i (omega (arith, within, all))
