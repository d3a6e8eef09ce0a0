-- Lemmas about the definitions of specs/Once.antt.
use Rattle.std.proofs.Common.{◌≡◌, ◌⊎◌, inl, inr, ⊎_elim, ℕ, ◌+◌, ◌<◌, ◌≤◌, Bool, true, false, cond, ◌&&◌, ◌||◌, eqb, List, [], ◌∷◌, length, map, count_by, refl, sym, ap, ◌∙◌, subst, arith, Some, None}
use Rattle.std.specs.List.{find}
use Rattle.std.specs.declared.cmp.Ordering.{Ordering}
use Rattle.std.specs.declared.cmp.Ordering.TheVariants.{Less, Equal}
use Rattle.std.specs.Ordering.{nat_cmp, ordering_then}
use Rattle.std.specs.Cmp.{nat_cmp_is}
use Rattle.std.proofs.lemmas.Bool.{eqb-true, eq-eqb, true≢false, and_parts, and_from}
use Rattle.std.proofs.lemmas.List.Sums.{sum_by-cons}
use Rattle.hfs_fields.specs.Order.{name_cmp}
use Rattle.hfs_fields.specs.Keys.{cat_cmp}
use Rattle.hfs_fields.specs.Records.{is_dir, is_file, is_item, is_thread, is_dir_thread, is_file_thread, type_byte, item_id}
use Rattle.hfs_fields.specs.Each.{Each}
use Rattle.hfs_btree.specs.Pairs.{Rises}
use Rattle.hfs_btree.specs.Sound.{IsDistinct, IsOther}
use Rattle.hfs_fields.specs.Members.{In}
use Rattle.hfs_catalog.specs.Records.{Record, Catalog, has_id, items_of, item_ids, item_with, is_thread_of}
use Rattle.hfs_catalog.specs.Sound.{IsRecord}
use Rattle.hfs_catalog.specs.Lookups.{thread_of}
use Rattle.hfs_record_edits.specs.Swaps.{one_if}
use Rattle.hfs_record_edits.specs.Once.{IsOnce}
use Rattle.hfs_catalog.proofs.Found.{unnamed}
use Rattle.hfs_catalog.proofs.Lawful.{none_same, less_equal}

-- ---- of any list

module _ {X : Type 0} (p : X → Bool) where
  cons : (x : X) (xs : List X) → count_by p (x ∷ xs) ≡ one_if (p x) + count_by p xs
  cons x xs = sum_by-cons (λ (y : X). cond (p y) 1 0) x xs

  one : (b : Bool) → b ≡ true → ◌≡◌ {A = ℕ} (one_if b) 1
  one b e = ap one_if e

  no : (b : Bool) → b ≡ false → ◌≡◌ {A = ℕ} (one_if b) 0
  no b e = ap one_if e

  -- one that stands there and passes is counted
  pub counted : (xs : List X) (x : X) → In x xs → p x ≡ true → 0 < count_by p xs
  counted [] x there e = absurd there
  counted (y ∷ ys) x there e = ⊎_elim
      (λ (here : y ≡ x). omega (arith, cons y ys, one (p y) (ap p here ∙ e)))
      (λ (later : In x ys). omega (arith, cons y ys, counted ys x later e))
      there

  -- one that stands there and passes is found, where at most one passes
  pub once_found : (xs : List X) (x : X) → count_by p xs ≤ 1 → In x xs → p x ≡ true → find p xs ≡ Some x
  once_found [] x le there e = absurd there
  once_found (y ∷ ys) x le there e = elim (p y) as (λ (b : Bool). p y ≡ b → cond b (Some y) (find p ys) ≡ Some x) [
    | true ↦ λ h. ⊎_elim
        (λ (here : y ≡ x). ap Some here)
        (λ (later : In x ys). absurd (let some = counted ys x later e in omega (arith, le, cons y ys, one (p y) h, some)))
        there
    | false ↦ λ h. ⊎_elim
        (λ (here : y ≡ x). absurd (true≢false (sym e ∙ ap p (sym here) ∙ h)))
        (λ (later : In x ys). once_found ys x (omega (arith, le, cons y ys)) later e)
        there
  ] refl

  -- where none is found, none passes
  pub none_counted : (xs : List X) → find p xs ≡ None → count_by p xs ≡ 0
  none_counted [] e = refl
  none_counted (x ∷ xs) e = elim (p x) as (λ (b : Bool). p x ≡ b → cond b (Some x) (find p xs) ≡ None → count_by p (x ∷ xs) ≡ 0) [
    | true ↦ λ h some. absurd (some_none x some)
    | false ↦ λ h later. omega (arith, cons x xs, no (p x) h, none_counted xs later)
  ] refl e
    where
      some_none : (x : X) → Some x ≡ None → ⊥
      some_none x e = cc

-- ---- IDs

pub ids_counted : (catalog : Catalog) (k : ℕ) → count_by (λ (z : ℕ). eqb z k) (item_ids catalog) ≡ count_by (has_id k) catalog
ids_counted [] k = refl
ids_counted (r ∷ rest) k = elim (is_item r.1) as (λ (b : Bool). is_item r.1 ≡ b → count_by (λ (z : ℕ). eqb z k) (map (λ (q : Record). item_id q.1) (cond b (r ∷ items_of rest) (items_of rest))) ≡ count_by (has_id k) (r ∷ rest)) [
  | true ↦ λ e.
      let same : ◌≡◌ {A = ℕ} (one_if (has_id k r)) (one_if (eqb (item_id r.1) k)) = ap (λ (b : Bool). one_if (b && eqb (item_id r.1) k)) e in
      omega (arith, cons (λ (z : ℕ). eqb z k) (item_id r.1) (item_ids rest), cons (has_id k) r rest, same, ids_counted rest k)
  | false ↦ λ e.
      let none : ◌≡◌ {A = ℕ} (one_if (has_id k r)) 0 = ap (λ (b : Bool). one_if (b && eqb (item_id r.1) k)) e in
      omega (arith, cons (has_id k) r rest, none, ids_counted rest k)
] refl

others : (x : ℕ) (xs : List ℕ) → count_by (λ (z : ℕ). eqb z x) xs ≡ 0 → Each (IsOther x) xs
others x [] e = tt
others x (y ∷ ys) e = (
  λ (same : y ≡ x). absurd (omega (arith, e, cons (λ (z : ℕ). eqb z x) y ys, one (λ (z : ℕ). eqb z x) (eqb y x) (eq-eqb y x same))),
  others x ys (omega (arith, e, cons (λ (z : ℕ). eqb z x) y ys)),
)

distinct_from_counts : (xs : List ℕ) → ((k : ℕ) → count_by (λ (z : ℕ). eqb z k) xs ≤ 1) → IsDistinct xs
distinct_from_counts [] h = tt
distinct_from_counts (x ∷ xs) h = (
  others x xs (omega (arith, h x, cons (λ (z : ℕ). eqb z x) x xs, one (λ (z : ℕ). eqb z x) (eqb x x) (eq-eqb x x refl))),
  distinct_from_counts xs (λ k. omega (arith, h k, cons (λ (z : ℕ). eqb z k) x xs)),
)

counts_from_distinct : (xs : List ℕ) → IsDistinct xs → (k : ℕ) → count_by (λ (z : ℕ). eqb z k) xs ≤ 1
counts_from_distinct [] h k = omega arith
counts_from_distinct (x ∷ xs) h k = elim (eqb x k) as (λ (b : Bool). eqb x k ≡ b → count_by (λ (z : ℕ). eqb z k) (x ∷ xs) ≤ 1) [
  | true ↦ λ e. omega (arith, cons (λ (z : ℕ). eqb z k) x xs, one (λ (z : ℕ). eqb z k) (eqb x k) e, none_same k xs (subst (λ (y : ℕ). Each (IsOther y) xs) (eqb-true x k e) h.0))
  | false ↦ λ e. omega (arith, cons (λ (z : ℕ). eqb z k) x xs, no (λ (z : ℕ). eqb z k) (eqb x k) e, counts_from_distinct xs h.1 k)
] refl

pub distinct_once : (catalog : Catalog) → IsDistinct (item_ids catalog) → IsOnce catalog
distinct_once catalog h k = omega (arith, ids_counted catalog k, counts_from_distinct (item_ids catalog) h k)

pub once_distinct : (catalog : Catalog) → IsOnce catalog → IsDistinct (item_ids catalog)
once_distinct catalog h = distinct_from_counts (item_ids catalog) (λ k. omega (arith, ids_counted catalog k, h k))

-- an item that stands there is found by its ID
pub item_found : (catalog : Catalog) (r : Record) → IsOnce catalog → In r catalog → is_item r.1 ≡ true → item_with catalog (item_id r.1) ≡ Some r
item_found catalog r once there item = once_found (has_id (item_id r.1)) catalog r (once (item_id r.1)) there (and_from (is_item r.1) (eqb (item_id r.1) (item_id r.1)) item (eq-eqb (item_id r.1) (item_id r.1) refl))

-- ---- threads

kinds : (a b c d : ℕ) → a ≡ b → a ≡ c → (b ≡ c → ⊥) → ⊥
kinds a b c d e f apart = apart (sym e ∙ f)

-- an item is no thread
pub item_or_thread : (body : List ℕ) → is_item body ≡ true → is_thread body ≡ true → ⊥
item_or_thread body item thread =
    let t : ℕ = type_byte body in
    let low : (t ≡ 1) ⊎ (t ≡ 2) = by_or (is_dir body) (is_file body) item (λ d. inl (eqb-true t 1 (and_parts (eqb t 1) (eqb (length body) 70) d).0)) (λ f. inr (eqb-true t 2 (and_parts (eqb t 2) (eqb (length body) 102) f).0)) in
    let high : (t ≡ 3) ⊎ (t ≡ 4) = by_or (is_dir_thread body) (is_file_thread body) thread (λ d. inl (eqb-true t 3 (and_parts (eqb t 3) (eqb (length body) 46) d).0)) (λ f. inr (eqb-true t 4 (and_parts (eqb t 4) (eqb (length body) 46) f).0)) in
    ⊎_elim
    (λ (a : t ≡ 1). ⊎_elim (λ (b : t ≡ 3). omega (arith, a, b)) (λ (b : t ≡ 4). omega (arith, a, b)) high)
    (λ (a : t ≡ 2). ⊎_elim (λ (b : t ≡ 3). omega (arith, a, b)) (λ (b : t ≡ 4). omega (arith, a, b)) high)
    low
  where
    by_or : (a b : Bool) {C : Type 0} → (a || b) ≡ true → (a ≡ true → C) → (b ≡ true → C) → C
    by_or true b e f g = f refl
    by_or false b e f g = g e

tie : (r s : Record) (k : ℕ) → r.0.parent ≡ k → s.0.parent ≡ k → r.0.name ≡ [] → s.0.name ≡ [] → cat_cmp r.0 s.0 ≡ Equal
tie r s k rp sp rn sn = (λ i. ordering_then (nat_cmp (rp i) (sp i)) (name_cmp (rn i) (sn i))) ∙ ap (λ (o : Ordering). ordering_then o (name_cmp [] [])) (sym (nat_cmp_is k k Equal refl))

none_above : (k : ℕ) (r : Record) (rest : Catalog) → r.0.parent ≡ k → r.0.name ≡ [] → Each (λ (q : Record). cat_cmp r.0 q.0 ≡ Less) rest → Each IsRecord rest → count_by (is_thread_of k) rest ≡ 0
none_above k r [] parent name above records = refl
none_above k r (s ∷ rest) parent name above records = elim (is_thread_of k s) as (λ (b : Bool). is_thread_of k s ≡ b → count_by (is_thread_of k) (s ∷ rest) ≡ 0) [
  | true ↦ λ e.
      let parts = and_parts (is_thread s.1) (eqb s.0.parent k) e in
      absurd (less_equal (cat_cmp r.0 s.0) above.0 (tie r s k parent (eqb-true s.0.parent k parts.1) name (unnamed s records.0 parts.0)))
  | false ↦ λ e. omega (arith, cons (is_thread_of k) s rest, no (is_thread_of k) (is_thread_of k s) e, none_above k r rest parent name above.1 records.1)
] refl

-- where keys rise, there is one thread of an ID
pub thread_once : (catalog : Catalog) → Rises cat_cmp catalog → Each IsRecord catalog → (k : ℕ) → count_by (is_thread_of k) catalog ≤ 1
thread_once [] h records k = omega arith
thread_once (r ∷ rest) h records k = elim (is_thread_of k r) as (λ (b : Bool). is_thread_of k r ≡ b → count_by (is_thread_of k) (r ∷ rest) ≤ 1) [
  | true ↦ λ e.
      let parts = and_parts (is_thread r.1) (eqb r.0.parent k) e in
      let none = none_above k r rest (eqb-true r.0.parent k parts.1) (unnamed r records.0 parts.0) h.0 records.1 in
      omega (arith, cons (is_thread_of k) r rest, one (is_thread_of k) (is_thread_of k r) e, none)
  | false ↦ λ e. omega (arith, cons (is_thread_of k) r rest, no (is_thread_of k) (is_thread_of k r) e, thread_once rest h.1 records.1 k)
] refl

pub thread_found : (catalog : Catalog) (t : Record) (k : ℕ) → count_by (is_thread_of k) catalog ≤ 1 → In t catalog → is_thread_of k t ≡ true → thread_of catalog k ≡ Some t
thread_found catalog t k once there is = once_found (is_thread_of k) catalog t once there is
