-- The records under one ID stand together.
use Rattle.std.proofs.Common.{◌≡◌, ⊎_elim, ℕ, zero, suc, ◌<◌, ◌≤◌, Bool, true, false, cond, ◌&&◌, ◌||◌, eqb, ltb, [], ◌∷◌, length, drop, get_or, refl, sym, ◌∙◌, ap, arith}
use Rattle.std.specs.List.{filter, list_any}
use Rattle.std.specs.List.Sorted.{IsPartitionedBy, IsPartitionPoint}
use Rattle.std.specs.declared.cmp.Ordering.TheVariants.{Less}
use Rattle.std.proofs.lemmas.Bool.{cases_lt, eq-eqb, ne_eqb, ltb-true, ltb-false, lt-ltb, true≢false}
use Rattle.hfs_fields.specs.Keys.{cat_cmp}
use Rattle.hfs_fields.specs.Records.{is_item, is_thread}
use Rattle.hfs_fields.specs.Each.{Each}
use Rattle.hfs_btree.specs.Pairs.{Rises}
use Rattle.hfs_catalog.specs.Records.{Record, Catalog, has_thread}
use Rattle.hfs_catalog.specs.Lookups.{children_of}
use Rattle.hfs_items.specs.Levels.{first_under}
use Rattle.hfs_catalog.proofs.Steps.{parents_rise, all_above}

least : (r : Record) (rest : Catalog) (j : ℕ) (d : Record) → Each (λ q. cat_cmp r.0 q.0 ≡ Less) rest → j < length rest → r.0.parent ≤ (get_or rest j d).0.parent
least r [] j d h lt = absurd (omega arith)
least r (q ∷ rest) zero d h lt = parents_rise r.0 q.0 h.0
least r (q ∷ rest) (suc j) d h lt = least r rest j d h.1 (omega arith)

parents_at : (catalog : Catalog) (i j : ℕ) (d : Record) → Rises cat_cmp catalog → i ≤ j → j < length catalog → (get_or catalog i d).0.parent ≤ (get_or catalog j d).0.parent
parents_at [] i j d h le lt = absurd (omega arith)
parents_at (r ∷ rest) zero zero d h le lt = omega arith
parents_at (r ∷ rest) zero (suc j) d h le lt = least r rest j d h.0 (omega arith)
parents_at (r ∷ rest) (suc i) zero d h le lt = absurd (omega arith)
parents_at (r ∷ rest) (suc i) (suc j) d h le lt = parents_at rest i j d h.1 (omega arith) (omega arith)

abbrev pub is_before : ℕ → Record → Bool
is_before id r = ltb r.0.parent id

pub parted : (catalog : Catalog) (id : ℕ) → Rises cat_cmp catalog → IsPartitionedBy (is_before id) catalog
parted catalog id h i j d le lt below =
    let under = ltb-true (get_or catalog j d).0.parent id below in
    lt-ltb (get_or catalog i d).0.parent id (omega (arith, under, parents_at catalog i j d h le lt))

-- ---- those from the first one on

abbrev pub of_id : ℕ → Record → Bool
of_id id r = eqb r.0.parent id

-- behind a later record there is none
none_later : (id : ℕ) (ps : Catalog) → Each (λ q. id < q.0.parent) ps → filter (of_id id) ps ≡ []
none_later id [] h = refl
none_later id (q ∷ ps) h =
    ap (λ (b : Bool). cond b (q ∷ filter (of_id id) ps) (filter (of_id id) ps)) (ne_eqb q.0.parent id (λ (same : q.0.parent ≡ id). omega (arith, h.0, same)))
    ∙ none_later id ps h.1

from_here : (id : ℕ) (ps : Catalog) → Rises cat_cmp ps → ((k : ℕ) (d : Record) → k < length ps → id ≤ (get_or ps k d).0.parent) → first_under id ps ≡ filter (of_id id) ps
from_here id [] h from = refl
from_here id (r ∷ ps) h from = elim (eqb r.0.parent id) as (λ (b : Bool). eqb r.0.parent id ≡ b → cond b (r ∷ first_under id ps) [] ≡ cond b (r ∷ filter (of_id id) ps) (filter (of_id id) ps)) [
  | true ↦ λ is. ap (λ (l : Catalog). r ∷ l) (from_here id ps h.1 (λ k d lt. from (suc k) d (omega arith)))
  | false ↦ λ other.
      let above : id < r.0.parent = strict r.0.parent (from 0 r (omega arith)) other in
      sym (none_later id ps (all_above id r ps above h.0))
] refl
  where
    strict : (p : ℕ) → id ≤ p → eqb p id ≡ false → id < p
    strict p le out = ⊎_elim (λ (lt : id < p). lt) (λ (ge : p ≤ id). let same : p ≡ id = omega arith in absurd (true≢false (sym (eq-eqb p id same) ∙ out))) (cases_lt id p)

pub from_point : (id : ℕ) (catalog : Catalog) (i : ℕ) → Rises cat_cmp catalog → i ≤ length catalog → IsPartitionPoint (λ r. is_before id r ≡ true) (λ r. is_before id r ≡ false) catalog i
    → first_under id (drop i catalog) ≡ filter (of_id id) catalog
from_point id catalog zero h le point = from_here id catalog h (λ k d lt. ltb-false (get_or catalog k d).0.parent id (point.1 k d (omega arith) lt))
from_point id [] (suc i) h le point = refl
from_point id (r ∷ rest) (suc i) h le point =
    let below = ltb-true r.0.parent id (point.0 0 r (omega arith) (omega arith)) in
    from_point id rest i h.1 (omega arith) (λ k d low lt. point.0 (suc k) d (omega arith) (omega arith), λ k d low lt. point.1 (suc k) d (omega arith) (omega arith))
    ∙ sym (ap (λ (b : Bool). cond b (r ∷ filter (of_id id) rest) (filter (of_id id) rest)) (ne_eqb r.0.parent id (λ (same : r.0.parent ≡ id). omega (arith, below, same))))

-- ---- the items, and whether there is a thread

pub items_of_id : (id : ℕ) (ps : Catalog) → filter (λ r. is_item r.1) (filter (of_id id) ps) ≡ children_of ps id
items_of_id id [] = refl
items_of_id id (r ∷ ps) = elim (eqb r.0.parent id) as (λ (b : Bool). filter (λ q. is_item q.1) (cond b (r ∷ filter (of_id id) ps) (filter (of_id id) ps)) ≡ cond (is_item r.1 && b) (r ∷ children_of ps id) (children_of ps id)) [
  | true ↦ elim (is_item r.1) as (λ (c : Bool). cond c (r ∷ filter (λ q. is_item q.1) (filter (of_id id) ps)) (filter (λ q. is_item q.1) (filter (of_id id) ps)) ≡ cond (c && true) (r ∷ children_of ps id) (children_of ps id)) [
    | true ↦ ap (λ (l : Catalog). r ∷ l) (items_of_id id ps)
    | false ↦ items_of_id id ps
  ]
  | false ↦ elim (is_item r.1) as (λ (c : Bool). filter (λ q. is_item q.1) (filter (of_id id) ps) ≡ cond (c && false) (r ∷ children_of ps id) (children_of ps id)) [
    | true ↦ items_of_id id ps
    | false ↦ items_of_id id ps
  ]
]

pub thread_of_id : (id : ℕ) (ps : Catalog) → list_any (λ (r : Record). is_thread r.1) (filter (of_id id) ps) ≡ has_thread ps id
thread_of_id id [] = refl
thread_of_id id (r ∷ ps) = elim (eqb r.0.parent id) as (λ (b : Bool). list_any (λ (q : Record). is_thread q.1) (cond b (r ∷ filter (of_id id) ps) (filter (of_id id) ps)) ≡ ((is_thread r.1 && b) || has_thread ps id)) [
  | true ↦ elim (is_thread r.1) as (λ (c : Bool). (c || list_any (λ (q : Record). is_thread q.1) (filter (of_id id) ps)) ≡ ((c && true) || has_thread ps id)) [ true ↦ refl | false ↦ thread_of_id id ps ]
  | false ↦ elim (is_thread r.1) as (λ (c : Bool). list_any (λ (q : Record). is_thread q.1) (filter (of_id id) ps) ≡ ((c && false) || has_thread ps id)) [ true ↦ thread_of_id id ps | false ↦ thread_of_id id ps ]
]
