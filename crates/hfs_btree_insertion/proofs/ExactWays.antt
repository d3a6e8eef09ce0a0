-- In an exact tree no node on the way to a key that is above the least has a first key above it.
use Rattle.std.proofs.Common.{◌≡◌, ℕ, zero, suc, ◌+◌, ◌-◌, ◌<◌, Bool, true, false, List, [], ◌∷◌, ◌++◌, length, get_or, refl, sym, ap, ◌∙◌, subst, arith, append-nil, inl, inr}
use Rattle.std.specs.Prelude.{not}
use Rattle.std.specs.Ordering.{is_gt}
use Rattle.std.specs.Cmp.{IsTotalOrder}
use Rattle.std.specs.List.{flat_map, prefix_len}
use Rattle.std.specs.declared.cmp.Ordering.TheVariants.{Equal}
use Rattle.std.proofs.lemmas.Bool.{not-true, cases_Bool, cond-true, cond-false}
use Rattle.hfs_btree.specs.declared.key.Key.{Ghosts}
use Rattle.hfs_btree.specs.Pairs.{Pairs, Rises, IsAtMost}
use Rattle.hfs_fields.specs.Each.{Each}
use Rattle.hfs_fields.proofs.ElementLemmas.{each-at, each-left, each-right, each-mono, each-both}
use Rattle.hfs_btree.proofs.LookupLemmas.{le-lt}
use Rattle.hfs_btree.specs.Tree.{Store, Spot, records_in, children, spots, first_of, turn, under}
use Rattle.hfs_btree.specs.Header.{header_in, depth_of, root_level, tree_turn, tree_content}
use Rattle.hfs_btree.specs.Sound.{IsSound, IsRight, IsExact, AreKeysExact, AreKeysInOrder, first_key}
use Rattle.hfs_btree.specs.Search.{is_not_above, child_for, leaf_under}
use Rattle.hfs_btree_edits.specs.Edits.{IsAboveFirst}
use Rattle.hfs_btree_edits.specs.LevelParts.{entry_key}
use Rattle.hfs_btree.proofs.LevelLemmas.{records-some, at-spot}
use Rattle.hfs_btree.proofs.DescentLemmas.{next-split, place-within}
use Rattle.hfs_btree_insertion.proofs.Contents.{content, under-content, content-under, Keyed, AreRecordsInOrder, records-keyed, HavePairs, have-pairs, middle-most}
use Rattle.hfs_btree_insertion.proofs.Exacts.{first-entry}

-- the last of the first that fit fits
by-count : (p : List ℕ → Bool) (n : ℕ) (xs : List (List ℕ)) → prefix_len p xs ≡ suc n → p (get_or xs n []) ≡ true
by-count p n [] count = absurd (omega (arith, count))
by-count p zero (x ∷ xs) count =
    elim (cases_Bool (p x)) [
      | inl fits ↦ fits
      | inr other ↦ absurd (let none : prefix_len p (x ∷ xs) ≡ 0 = cond-false (p x) (1 + prefix_len p xs) 0 other in omega (arith, count, none))
    ]
by-count p (suc n) (x ∷ xs) count =
    elim (cases_Bool (p x)) [
      | inl fits ↦ (let more : prefix_len p (x ∷ xs) ≡ 1 + prefix_len p xs = cond-true (p x) (1 + prefix_len p xs) 0 fits in by-count p n xs (omega (arith, count, more)))
      | inr other ↦ absurd (let none : prefix_len p (x ∷ xs) ≡ 0 = cond-false (p x) (1 + prefix_len p xs) 0 other in omega (arith, count, none))
    ]

pub last-fits : (p : List ℕ → Bool) (xs : List (List ℕ)) → 0 < prefix_len p xs → p (get_or xs (prefix_len p xs - 1) []) ≡ true
last-fits p xs some = by-count p (prefix_len p xs - 1) xs (omega (arith, some))

first-prefix : (p : List ℕ → Bool) (xs : List (List ℕ)) → 0 < length xs → p (get_or xs 0 []) ≡ true → 0 < prefix_len p xs
first-prefix p [] some h = absurd (omega (arith, some))
first-prefix p (x ∷ xs) some h = let count : prefix_len p (x ∷ xs) ≡ 1 + prefix_len p xs = cond-true (p x) (1 + prefix_len p xs) 0 h in omega (arith, count)

module _ {K : Type 0} (g : Ghosts K) (total : IsTotalOrder g.compare) (nodes : Store) (key : K) where
  abbrev pub IsNotAbove : K → Type 0
  IsNotAbove x = is_gt (g.compare x key) ≡ false

  abbrev Fact : Spot → Type 0
  Fact spot = IsRight g nodes spot × AreKeysExact g nodes spot.above spot.n

  -- no index node on the way from a node so many levels above the leaves has all of its keys above the key, nor has the leaf
  pub record HasLowWay (k n : ℕ) : Type 0 where
    pub low : (j : ℕ) → j < k → 0 < prefix_len (is_not_above g key) (records_in nodes (leaf_under g nodes key j n))
    pub leaf : IsNotAbove (first_key g nodes 0 (leaf_under g nodes key k n))

  module _ (k n : ℕ) (before behind : List ℕ) (fine : Each Fact (turn g nodes (suc (suc k)) (before ++ n ∷ behind))) (first : IsNotAbove (first_key g nodes (suc k) n)) where
    here : (l : ℕ) × Fact (record { left = l; n = n; right = first_of behind; above = suc k })
    here = at-spot Fact (suc k) 0 before n behind (each-left Fact (spots (suc k) 0 (before ++ n ∷ behind)) (turn g nodes (suc k) (flat_map (children g nodes) (before ++ n ∷ behind))) fine)

    some : 0 < length (records_in nodes n)
    some = records-some g nodes Fact (λ spot h. h.0) _ here.1.0

    few : 0 < prefix_len (is_not_above g key) (records_in nodes n)
    few = first-prefix (is_not_above g key) (records_in nodes n) some (ap not first)

    -- the child's first key isn't above the key
    child-first : IsNotAbove (first_key g nodes k (child_for g key (records_in nodes n)))
    child-first =
        let q = prefix_len (is_not_above g key) (records_in nodes n) - 1 in
        let e = get_or (records_in nodes n) (prefix_len (is_not_above g key) (records_in nodes n) - 1) [] in
        let equal : g.compare (g.index_key e) (first_key g nodes k (g.child e)) ≡ Equal =
        each-at (λ x. g.compare (g.index_key x) (first_key g nodes k (g.child x)) ≡ Equal) (records_in nodes n) (prefix_len (is_not_above g key) (records_in nodes n) - 1) [] here.1.1 (place-within g key (records_in nodes n) some) in
        let fits : not (is_gt (g.compare (g.index_key e) key)) ≡ true = last-fits (is_not_above g key) (records_in nodes n) few in
        ap is_gt (sym (total.congr (g.index_key e) (first_key g nodes k (g.child e)) key equal)) ∙ not-true (is_gt (g.compare (g.index_key e) key)) fits

    next : Each Fact (turn g nodes (suc k) (flat_map (children g nodes) (before ++ n ∷ behind)))
    next = each-right Fact (spots (suc k) 0 (before ++ n ∷ behind)) (turn g nodes (suc k) (flat_map (children g nodes) (before ++ n ∷ behind))) fine

  low-step : (k n : ℕ) → 0 < prefix_len (is_not_above g key) (records_in nodes n) → HasLowWay k (child_for g key (records_in nodes n)) → (j : ℕ) → j < suc k
      → 0 < prefix_len (is_not_above g key) (records_in nodes (leaf_under g nodes key j n))
  low-step k n few rest zero lt = few
  low-step k n few rest (suc j) lt = rest.low j (omega (arith, lt))

  pub low-way : (k n : ℕ) (before behind : List ℕ) → Each Fact (turn g nodes (suc k) (before ++ n ∷ behind)) → IsNotAbove (first_key g nodes k n) → HasLowWay k n
  low-way zero n before behind fine first = record { low = λ j lt. absurd (omega (arith, lt)); leaf = first }
  low-way (suc k) n before behind fine first =
      let entries = some k n before behind fine first in
      let cut = next-split g nodes before n behind (prefix_len (is_not_above g key) (records_in nodes n) - 1) (place-within g key (records_in nodes n) entries) in
      let P : List ℕ → Type 0 = λ ns. Each Fact (turn g nodes (suc k) ns) in
      let rest = low-way k (child_for g key (records_in nodes n)) _ _ (subst P cut (next k n before behind fine first)) (child-first k n before behind fine first) in
      record { low = low-step k n (few k n before behind fine first) rest; leaf = rest.leaf }

-- ---- the root

module _ {K : Type 0} (g : Ghosts K) (total : IsTotalOrder g.compare) (old : Store) (d : ℕ) (deep : depth_of old ≡ suc d) (sound : IsSound g old) where
  abbrev root : ℕ
  root = (header_in old).root

  turn-old : tree_turn g old ≡ turn g old (suc d) (root ∷ [])
  turn-old = ap (λ (j : ℕ). turn g old j (root_level old)) deep

  rights : Each (IsRight g old) (turn g old (suc d) (root ∷ []))
  rights = let P : List Spot → Type 0 = λ ss. Each (IsRight g old) ss in subst P turn-old sound.structure.levels.each

  keyed-old : Each (Keyed g old) (turn g old (suc d) (root ∷ []))
  keyed-old = let P : List Spot → Type 0 = λ ss. Each (Keyed g old) ss in subst P turn-old sound.ordered.keys

  first-keyed : (k : ℕ) (ns : List ℕ) (n : ℕ) → Each (Keyed g old) (turn g old (suc k) (n ∷ ns)) → AreKeysInOrder g old k n
  first-keyed k ns n h = h.0

  root-keyed : AreRecordsInOrder g old d (records_in old root)
  root-keyed = records-keyed g old d root (records_in old root) refl (first-keyed d [] root keyed-old)

  root-rises : Rises g.compare (content g old d (records_in old root))
  root-rises =
      let P : Pairs K → Type 0 = λ ps. Rises g.compare ps in
      subst P (content-under g old d deep ∙ append-nil (under g old d root) ∙ under-content g old d root) sound.ordered.rises

  records-all : Each (λ (x : Spot). 0 < length (records_in old x.n)) (turn g old (suc d) (root ∷ []))
  records-all = each-mono (IsRight g old) _ (turn g old (suc d) (root ∷ [])) (λ x h. records-some g old (IsRight g old) (λ spot y. y) x h) rights

  rest-of : (k n : ℕ) (P : Spot → Type 0) → Each P (turn g old (suc k) (n ∷ [])) → P (record { left = 0; n = n; right = 0; above = k }) × Each P (turn g old k (flat_map (children g old) (n ∷ [])))
  rest-of k n P h = (h.0, h.1)

  root-some : HavePairs g old d (records_in old root)
  root-some =
      let Q : Spot → Type 0 = λ x. 0 < length (records_in old x.n) in
      let P : List ℕ → Type 0 = λ ns. Each Q (turn g old d ns) in
      have-pairs g old d (records_in old root) (subst P (append-nil (children g old root)) (rest-of d root Q records-all).1)

  root-first : 0 < length (records_in old root)
  root-first = (rest-of d root (λ (x : Spot). 0 < length (records_in old x.n)) records-all).0

  least : IsAtMost g.compare (entry_key g d (get_or (records_in old root) 0 [])) (under g old d root)
  least =
      let Q : Pairs K → Type 0 = λ ps. IsAtMost g.compare (entry_key g d (get_or (records_in old root) 0 [])) ps in
      subst Q (sym (under-content g old d root)) (middle-most g old total d (records_in old root) 0 root-first root-rises root-keyed root-some)

  -- what is at most some pairs is not above a key that is above the first of them
  at-most-first : (x key : K) (ps : Pairs K) → IsAtMost g.compare x ps → IsAboveFirst g.compare key ps → is_gt (g.compare x key) ≡ false
  at-most-first x key [] most above = absurd above
  at-most-first x key (p ∷ ps) most above = ap is_gt (le-lt g.compare total x p.0 key most.0 above)

  root-content : tree_content g old ≡ under g old d root
  root-content = content-under g old d deep ∙ append-nil (under g old d root)

  -- the root's first key isn't above a key that is above the least
  pub root-low : (key : K) → IsAboveFirst g.compare key (tree_content g old) → is_gt (g.compare (entry_key g d (get_or (records_in old root) 0 [])) key) ≡ false
  root-low key above =
      let A : Pairs K → Type 0 = λ ps. IsAboveFirst g.compare key ps in
      at-most-first (entry_key g d (get_or (records_in old root) 0 [])) key (under g old d root) least (subst A root-content above)

  -- the whole way, where the tree is exact
  pub exact-way : (key : K) → IsExact g old → IsAboveFirst g.compare key (tree_content g old) → HasLowWay g total old key d root
  exact-way key exact above =
      let F : K → Type 0 = λ x. is_gt (g.compare x key) ≡ false in
      let P : List Spot → Type 0 = λ ss. Each (λ (spot : Spot). IsRight g old spot × AreKeysExact g old spot.above spot.n) ss in
      let first = subst F (sym (first-entry g old d root)) (root-low key above) in
      low-way g total old key d root [] [] (subst P turn-old (each-both (IsRight g old) (λ spot. AreKeysExact g old spot.above spot.n) (tree_turn g old) sound.structure.levels.each exact)) first
