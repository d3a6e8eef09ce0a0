-- The check of places, by its parts.
use Rattle.std.proofs.Common.{◌≡◌, ℕ, ◌≤◌, Bool, true, false, cond, ◌&&◌, List, [], ◌∷◌, ◌++◌, length, refl, sym, ◌∙◌, ap, arith, Option, Some, None}
use Rattle.std.specs.Prelude.{nat_le}
use Rattle.std.proofs.lemmas.Bool.{leb-true, le-leb}
use Rattle.std.proofs.lemmas.List.{length-append}
use Rattle.hfs_fields.specs.Records.{is_dir, is_item, is_thread, item_id}
use Rattle.hfs_fields.specs.First.{first_failing}
use Rattle.hfs_fields.proofs.ScanLemmas.{found_at}
use Rattle.hfs_catalog.specs.Records.{Record, Catalog, has_thread}
use Rattle.hfs_catalog.specs.Indexes.{earlier}
use Rattle.hfs_catalog.specs.Faults.{implies, is_above, is_parent_right, is_thread_right, is_place_right}

earlier_than : (n : ℕ) (o : Option ℕ) → ((k : ℕ) → o ≡ Some k → n ≤ k) → earlier (Some n) o ≡ Some n
earlier_than n None least = refl
earlier_than n (Some k) least = ap (λ (b : Bool). cond b (Some n) (Some k)) (le-leb n k (least k refl))

later_than : (n : ℕ) (o : Option ℕ) → ((k : ℕ) → o ≡ Some k → n ≤ k) → earlier o (Some n) ≡ Some n
later_than n None least = refl
later_than n (Some k) least = elim (nat_le k n) as (λ (b : Bool). nat_le k n ≡ b → cond b (Some k) (Some n) ≡ Some n) [
  | true ↦ λ e. let same : k ≡ n = omega (arith, leb-true k n e, least k refl) in ap (λ (m : ℕ). Some m) same
  | false ↦ λ e. refl
] refl

-- what is found stands no earlier than where the scan begins
found_later : {X : Type 0} (test : List X → X → Bool) (before xs : List X) (k : ℕ) → first_failing test before xs ≡ Some k → length before ≤ k
found_later test before xs k is = let found = found_at test before xs k is in omega (arith, found.place)

-- the first that fails one of two tests
pub first_of_both : {X : Type 0} (a b : List X → X → Bool) (before xs : List X) → first_failing (λ before x. a before x && b before x) before xs ≡ earlier (first_failing a before xs) (first_failing b before xs)
first_of_both a b before [] = refl
first_of_both a b before (x ∷ xs) = elim (a before x) as (λ (p : Bool). cond (p && b before x) (first_failing (λ before x. a before x && b before x) (before ++ x ∷ []) xs) (Some (length before)) ≡ earlier (cond p (first_failing a (before ++ x ∷ []) xs) (Some (length before))) (first_failing b before (x ∷ xs))) [
  | true ↦ elim (b before x) as (λ (q : Bool). cond q (first_failing (λ before x. a before x && b before x) (before ++ x ∷ []) xs) (Some (length before)) ≡ earlier (first_failing a (before ++ x ∷ []) xs) (cond q (first_failing b (before ++ x ∷ []) xs) (Some (length before)))) [
    | true ↦ first_of_both a b (before ++ x ∷ []) xs
    | false ↦ sym (later_than (length before) (first_failing a (before ++ x ∷ []) xs) (λ k e. omega (arith, found_later a (before ++ x ∷ []) xs k e, length-append before (x ∷ []))))
  ]
  | false ↦ sym (earlier_than (length before) (first_failing b before (x ∷ xs)) (found_later b before (x ∷ xs)))
]

module _ (catalog : Catalog) where
  abbrev pub unordered : Option ℕ
  unordered = first_failing is_above [] catalog

  abbrev pub lone : Option ℕ
  lone = first_failing (λ _ r. implies (is_item r.1) (is_parent_right catalog r)) [] catalog

  abbrev pub unthreaded : Option ℕ
  unthreaded = first_failing (λ _ r. implies (is_dir r.1) (has_thread catalog (item_id r.1))) [] catalog

  abbrev pub astray : Option ℕ
  astray = first_failing (λ _ r. implies (is_thread r.1) (is_thread_right catalog r)) [] catalog

  pub misplaced_is : first_failing (is_place_right catalog) [] catalog ≡ earlier (earlier (earlier unordered lone) unthreaded) astray
  unfolding is_place_right
  misplaced_is =
      let parents = λ (before : Catalog) (r : Record). is_above before r && implies (is_item r.1) (is_parent_right catalog r) in
      let threads = λ (before : Catalog) (r : Record). parents before r && implies (is_dir r.1) (has_thread catalog (item_id r.1)) in
      first_of_both threads (λ _ r. implies (is_thread r.1) (is_thread_right catalog r)) [] catalog
      ∙ ap (λ (o : Option ℕ). earlier o astray)
      (first_of_both parents (λ _ r. implies (is_dir r.1) (has_thread catalog (item_id r.1))) [] catalog
      ∙ ap (λ (o : Option ℕ). earlier o unthreaded) (first_of_both is_above (λ _ r. implies (is_item r.1) (is_parent_right catalog r)) [] catalog))
