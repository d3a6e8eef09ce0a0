-- The steps of going through the catalog's records in their order.
use Rattle.std.proofs.Common.{◌≡◌, ⊎_elim, ℕ, zero, suc, ◌-◌, ◌<◌, ◌≤◌, Bool, true, false, cond, ◌&&◌, eqb, List, [], ◌∷◌, ◌++◌, length, drop, map, slice_get, refl, sym, ◌∙◌, ap, arith, append_assoc, Some, None}
use Rattle.std.specs.Option.{option_map, option_to_list, is_some}
use Rattle.std.specs.declared.cmp.Ordering.{Ordering}
use Rattle.std.specs.declared.cmp.Ordering.TheVariants.{Less, Equal, Greater}
use Rattle.std.specs.Ordering.{is_gt, is_lt, ordering_then}
use Rattle.std.specs.Cmp.{nat_cmp_is}
use Rattle.std.proofs.lemmas.Bool.{eqb-true, eq-eqb, ne_eqb, true≢false, cases_lt, cases_order, and_right, false_from_ne_true}
use Rattle.hfs_fields.specs.declared.key.CatKey.{CatKey}
use Rattle.hfs_fields.specs.Order.{name_cmp}
use Rattle.hfs_fields.specs.Keys.{cat_cmp}
use Rattle.hfs_fields.specs.Records.{is_item}
use Rattle.hfs_fields.specs.Each.{Each}
use Rattle.hfs_btree.specs.Pairs.{Rises, pairs_from}
use Rattle.hfs_btree.specs.Lookups.{first_pair}
use Rattle.hfs_catalog.specs.declared.item.CatalogItem.{CatalogItem}
use Rattle.hfs_catalog.specs.Records.{Record, Catalog, has_id, item_with, is_child_of}
use Rattle.hfs_catalog.specs.Lookups.{catalog_item, children_of, with_id_at, first_key, item_at, is_under}

-- ---- keys with an empty name come first

no_less : (name : List ℕ) → is_gt (name_cmp [] name) ≡ false
no_less [] = refl
no_less (c ∷ cs) = refl

below_parent : (dir : ℕ) (k : CatKey) → is_gt (cat_cmp (first_key dir) k) ≡ true → k.parent < dir
below_parent dir k above = ⊎_elim
    (λ (same : dir ≡ k.parent). absurd (true≢false (sym above ∙ ap (λ (o : Ordering). is_gt (ordering_then o (name_cmp [] k.name))) (sym (nat_cmp_is dir k.parent Equal same)) ∙ no_less k.name)))
    (λ apart. ⊎_elim
    (λ (lower : dir < k.parent). absurd (true≢false (sym above ∙ ap (λ (o : Ordering). is_gt (ordering_then o (name_cmp [] k.name))) (sym (nat_cmp_is dir k.parent Less lower)))))
    (λ (higher : k.parent < dir). higher)
    apart)
    (cases_order dir k.parent)

from_parent : (dir : ℕ) (k : CatKey) → is_gt (cat_cmp (first_key dir) k) ≡ false → dir ≤ k.parent
from_parent dir k low = ⊎_elim
    (λ (higher : k.parent < dir). absurd (true≢false (ap (λ (o : Ordering). is_gt (ordering_then o (name_cmp [] k.name))) (nat_cmp_is dir k.parent Greater higher) ∙ low)))
    (λ (le : dir ≤ k.parent). le)
    (cases_lt k.parent dir)

pub parents_rise : (x y : CatKey) → cat_cmp x y ≡ Less → x.parent ≤ y.parent
parents_rise x y less = ⊎_elim
    (λ (higher : y.parent < x.parent). absurd (true≢false (ap is_lt (sym less) ∙ ap (λ (o : Ordering). is_lt (ordering_then o (name_cmp x.name y.name))) (sym (nat_cmp_is x.parent y.parent Greater higher)))))
    (λ (le : x.parent ≤ y.parent). le)
    (cases_lt y.parent x.parent)

-- ---- a search through all records

from_least : (catalog : Catalog) → pairs_from cat_cmp (first_key 0) catalog ≡ catalog
from_least [] = refl
from_least (r ∷ rest) = ap (λ (b : Bool). cond b (pairs_from cat_cmp (first_key 0) rest) (r ∷ rest))
    (false_from_ne_true (is_gt (cat_cmp (first_key 0) r.0)) (λ above. nothing_below (below_parent 0 r.0 above)))
  where
    nothing_below : r.0.parent < 0 → ⊥
    nothing_below lt = omega arith

pub scan_begins : (catalog : Catalog) (id : ℕ) → item_with catalog id ≡ item_with (pairs_from cat_cmp (first_key 0) catalog) id
scan_begins catalog id = ap (λ (ps : Catalog). item_with ps id) (sym (from_least catalog))

pub scan_goes_on : (ps : Catalog) (id : ℕ) → is_some (with_id_at id (first_pair ps)) ≡ false → item_with ps id ≡ item_with (drop 1 ps) id
scan_goes_on [] id none = refl
scan_goes_on (r ∷ rest) id none = elim (has_id id r) as (λ (b : Bool). is_some (cond b (Some (catalog_item r)) None) ≡ false → cond b (Some r) (item_with rest id) ≡ item_with rest id) [
  | true ↦ λ e. absurd (true≢false e)
  | false ↦ λ e. refl
] none

pub scan_finds : (ps : Catalog) (id : ℕ) → is_some (with_id_at id (first_pair ps)) ≡ true → with_id_at id (first_pair ps) ≡ option_map catalog_item (item_with ps id)
scan_finds [] id some = absurd (true≢false (sym some))
scan_finds (r ∷ rest) id some = elim (has_id id r) as (λ (b : Bool). is_some (cond b (Some (catalog_item r)) None) ≡ true → cond b (Some (catalog_item r)) None ≡ option_map catalog_item (cond b (Some r) (item_with rest id))) [
  | true ↦ λ e. refl
  | false ↦ λ e. absurd (true≢false (sym e))
] some

pub scan_ends : (ps : Catalog) (id : ℕ) → eqb (length ps) 0 ≡ true → option_map catalog_item (item_with ps id) ≡ None
scan_ends [] id e = refl
scan_ends (r ∷ rest) id e = absurd (omega (arith, eqb-true (length (r ∷ rest)) 0 e))

-- ---- a folder's children

-- what is left of a walk through the records of a folder, and what was found
pub record IsListing (whole : Catalog) (dir : ℕ) (found : List CatalogItem) (ps : Catalog) : Type 0 where
  pub rises : Rises cat_cmp ps
  pub from : Each (λ r. dir ≤ r.0.parent) ps
  pub same : map catalog_item (children_of whole dir) ≡ found ++ map catalog_item (children_of ps dir)

all_from : (dir : ℕ) (r : Record) (rest : Catalog) → dir ≤ r.0.parent → Each (λ q. cat_cmp r.0 q.0 ≡ Less) rest → Each (λ q. dir ≤ q.0.parent) rest
all_from dir r [] le h = tt
all_from dir r (q ∷ rest) le h = (omega (arith, parents_rise r.0 q.0 h.0), all_from dir r rest le h.1)

pub listing_begins : (catalog : Catalog) (dir : ℕ) → Rises cat_cmp catalog → IsListing catalog dir [] (pairs_from cat_cmp (first_key dir) catalog)
listing_begins [] dir h = record { rises = tt; from = tt; same = refl }
listing_begins (r ∷ rest) dir h = elim (is_gt (cat_cmp (first_key dir) r.0)) as (λ (b : Bool). is_gt (cat_cmp (first_key dir) r.0) ≡ b → IsListing (r ∷ rest) dir [] (cond b (pairs_from cat_cmp (first_key dir) rest) (r ∷ rest))) [
  | true ↦ λ above.
      let later = listing_begins rest dir h.1 in
      let lower : r.0.parent < dir = below_parent dir r.0 above in
      let other : is_child_of dir r ≡ false = and_right (is_item r.1) (eqb r.0.parent dir) (ne_eqb r.0.parent dir (λ (e : r.0.parent ≡ dir). omega arith)) in
      record {
        rises = later.rises;
        from = later.from;
        same = ap (λ (b : Bool). map catalog_item (cond b (r ∷ children_of rest dir) (children_of rest dir))) other ∙ later.same;
      }
  | false ↦ λ low.
      let le : dir ≤ r.0.parent = from_parent dir r.0 low in
      record { rises = h; from = (le, all_from dir r rest le h.0); same = refl }
] refl

pub listing_goes_on : (whole : Catalog) (dir : ℕ) (found more : List CatalogItem) (ps : Catalog) → is_under dir (first_pair ps) ≡ true → IsListing whole dir found ps
    → more ≡ found ++ option_to_list (item_at (first_pair ps)) → IsListing whole dir more (drop 1 ps)
listing_goes_on whole dir found more [] under h is = absurd (true≢false (sym under))
listing_goes_on whole dir found more (r ∷ rest) under h is = record {
  rises = h.rises.1;
  from = h.from.1;
  same = h.same ∙ taken ∙ ap (λ (l : List CatalogItem). l ++ map catalog_item (children_of rest dir)) (sym is);
}
  where
    here : (b : Bool) → found ++ map catalog_item (cond (b && eqb r.0.parent dir) (r ∷ children_of rest dir) (children_of rest dir)) ≡ (found ++ option_to_list (cond b (Some (catalog_item r)) None)) ++ map catalog_item (children_of rest dir)
    here true = ap (λ (b : Bool). found ++ map catalog_item (cond b (r ∷ children_of rest dir) (children_of rest dir))) under ∙ sym (append_assoc found (catalog_item r ∷ []) (map catalog_item (children_of rest dir)))
    here false = sym (append_assoc found [] (map catalog_item (children_of rest dir)))

    taken : found ++ map catalog_item (children_of (r ∷ rest) dir) ≡ (found ++ option_to_list (item_at (Some r))) ++ map catalog_item (children_of rest dir)
    taken = here (is_item r.1)

none_under : (dir : ℕ) (ps : Catalog) → Each (λ r. dir < r.0.parent) ps → children_of ps dir ≡ []
none_under dir [] h = refl
none_under dir (r ∷ rest) h =
    let other : is_child_of dir r ≡ false = and_right (is_item r.1) (eqb r.0.parent dir) (ne_eqb r.0.parent dir (λ (e : r.0.parent ≡ dir). omega (arith, h.0))) in
    ap (λ (b : Bool). cond b (r ∷ children_of rest dir) (children_of rest dir)) other ∙ none_under dir rest h.1

pub all_above : (dir : ℕ) (r : Record) (rest : Catalog) → dir < r.0.parent → Each (λ q. cat_cmp r.0 q.0 ≡ Less) rest → Each (λ q. dir < q.0.parent) rest
all_above dir r [] lt h = tt
all_above dir r (q ∷ rest) lt h = (omega (arith, parents_rise r.0 q.0 h.0), all_above dir r rest lt h.1)

past : (dir : ℕ) (ps : Catalog) → is_under dir (first_pair ps) ≡ false → Rises cat_cmp ps → Each (λ r. dir ≤ r.0.parent) ps → children_of ps dir ≡ []
past dir [] out h from = refl
past dir (r ∷ rest) out h from =
    let above : dir < r.0.parent = strict r.0.parent from.0 out in
    none_under dir (r ∷ rest) (above, all_above dir r rest above h.0)
  where
    strict : (p : ℕ) → dir ≤ p → eqb p dir ≡ false → dir < p
    strict p le out = ⊎_elim (λ (lt : dir < p). lt) (λ (ge : p ≤ dir). let same : p ≡ dir = omega arith in absurd (true≢false (sym (eq-eqb p dir same) ∙ out))) (cases_lt dir p)

pub listing_ends : (whole : Catalog) (dir : ℕ) (found : List CatalogItem) (ps : Catalog) → is_under dir (first_pair ps) ≡ false → IsListing whole dir found ps → found ≡ map catalog_item (children_of whole dir)
listing_ends whole dir found ps out h = sym (h.same ∙ ap (λ (l : Catalog). found ++ map catalog_item l) (past dir ps out h.rises h.from) ∙ nil found)
  where
    nil : (xs : List CatalogItem) → xs ++ [] ≡ xs
    nil [] = refl
    nil (x ∷ xs) = ap (λ (l : List CatalogItem). x ∷ l) (nil xs)

-- ---- a folder's child at a place

-- what is left of a walk through the records of a folder to the child at a place, and how many children come before it
pub record IsApproach (whole : Catalog) (dir place left : ℕ) (ps : Catalog) : Type 0 where
  pub rises : Rises cat_cmp ps
  pub from : Each (λ r. dir ≤ r.0.parent) ps
  pub same : slice_get (map catalog_item (children_of whole dir)) place ≡ slice_get (map catalog_item (children_of ps dir)) left

pub approach_begins : (catalog : Catalog) (dir place : ℕ) → Rises cat_cmp catalog → IsApproach catalog dir place place (pairs_from cat_cmp (first_key dir) catalog)
approach_begins catalog dir place h =
    let all = listing_begins catalog dir h in
    record { rises = all.rises; from = all.from; same = ap (λ (l : List CatalogItem). slice_get l place) all.same }

-- past a record that is none of an item
pub approach_skips : (whole : Catalog) (dir place left : ℕ) (ps : Catalog) → is_under dir (first_pair ps) ≡ true → is_some (item_at (first_pair ps)) ≡ false
    → IsApproach whole dir place left ps → IsApproach whole dir place left (drop 1 ps)
approach_skips whole dir place left [] under none h = absurd (true≢false (sym under))
approach_skips whole dir place left (r ∷ rest) under none h = record {
  rises = h.rises.1;
  from = h.from.1;
  same = h.same ∙ other (is_item r.1) none;
}
  where
    other : (b : Bool) → is_some (cond b (Some (catalog_item r)) None) ≡ false
        → slice_get (map catalog_item (cond (b && eqb r.0.parent dir) (r ∷ children_of rest dir) (children_of rest dir))) left ≡ slice_get (map catalog_item (children_of rest dir)) left
    other true e = absurd (true≢false e)
    other false e = refl

-- the children from an item's record on
here_is : (dir : ℕ) (r : Record) (rest : Catalog) (left : ℕ) (b : Bool) → eqb r.0.parent dir ≡ true → is_some (cond b (Some (catalog_item r)) None) ≡ true
    → slice_get (map catalog_item (cond (b && eqb r.0.parent dir) (r ∷ children_of rest dir) (children_of rest dir))) left ≡ slice_get (catalog_item r ∷ map catalog_item (children_of rest dir)) left
here_is dir r rest left true under some = ap (λ (b : Bool). slice_get (map catalog_item (cond b (r ∷ children_of rest dir) (children_of rest dir))) left) under
here_is dir r rest left false under some = absurd (true≢false (sym some))

-- past an item's record
pub approach_goes_on : (whole : Catalog) (dir place left : ℕ) (ps : Catalog) → is_under dir (first_pair ps) ≡ true → is_some (item_at (first_pair ps)) ≡ true → (left ≡ 0 → ⊥)
    → IsApproach whole dir place left ps → IsApproach whole dir place (left - 1) (drop 1 ps)
approach_goes_on whole dir place left [] under some more h = absurd (true≢false (sym under))
approach_goes_on whole dir place zero (r ∷ rest) under some more h = absurd (more refl)
approach_goes_on whole dir place (suc left) (r ∷ rest) under some more h = record {
  rises = h.rises.1;
  from = h.from.1;
  same = h.same ∙ here_is dir r rest (suc left) (is_item r.1) under some
      ∙ (let e : left ≡ suc left - 1 = omega arith in ap (slice_get (map catalog_item (children_of rest dir))) e);
}

-- the item of the place
pub approach_finds : (whole : Catalog) (dir place left : ℕ) (ps : Catalog) → is_under dir (first_pair ps) ≡ true → is_some (item_at (first_pair ps)) ≡ true → left ≡ 0
    → IsApproach whole dir place left ps → item_at (first_pair ps) ≡ slice_get (map catalog_item (children_of whole dir)) place
approach_finds whole dir place left [] under some last h = absurd (true≢false (sym under))
approach_finds whole dir place left (r ∷ rest) under some last h =
    own (is_item r.1) some
    ∙ sym (h.same ∙ ap (slice_get (map catalog_item (children_of (r ∷ rest) dir))) last ∙ here_is dir r rest 0 (is_item r.1) under some)
  where
    own : (b : Bool) → is_some (cond b (Some (catalog_item r)) None) ≡ true → cond b (Some (catalog_item r)) None ≡ Some (catalog_item r)
    own true e = refl
    own false e = absurd (true≢false (sym e))

pub approach_ends : (whole : Catalog) (dir place left : ℕ) (ps : Catalog) → is_under dir (first_pair ps) ≡ false → IsApproach whole dir place left ps
    → None ≡ slice_get (map catalog_item (children_of whole dir)) place
approach_ends whole dir place left ps out h = sym (h.same ∙ ap (λ (l : Catalog). slice_get (map catalog_item l) left) (past dir ps out h.rises h.from))
