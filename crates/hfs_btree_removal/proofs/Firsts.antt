-- A node of a sound tree at its level, and its first key: at most the keys of all pairs under it.
use Rattle.std.proofs.Common.{◌≡◌, ℕ, zero, suc, ◌<◌, List, [], ◌∷◌, ◌++◌, length, map, get_or, refl, sym, ap, ◌∙◌, subst, arith}
use Rattle.std.specs.List.{flat_map}
use Rattle.std.specs.Cmp.{IsTotalOrder}
use Rattle.std.specs.Ordering.{is_gt}
use Rattle.std.specs.declared.cmp.Ordering.TheVariants.{Equal}
use Rattle.std.proofs.lemmas.List.Folds.{flat_map-map}
use Rattle.hfs_btree.specs.declared.key.Key.{Ghosts}
use Rattle.hfs_btree.specs.Pairs.{Order, Pairs, Rises, IsAtMost}
use Rattle.hfs_fields.specs.Each.{Each}
use Rattle.hfs_fields.proofs.ElementLemmas.{each-mono, each-left, each-right, each-unmap}
use Rattle.hfs_btree.specs.Tree.{Store, Spot, records_in, children, pair_of, pairs, first_of, spots, turn, under, level_below, last_level}
use Rattle.hfs_btree.specs.Header.{depth_of, root_level, leaves, tree_turn}
use Rattle.hfs_btree.specs.Sound.{IsRight, IsSound, HasStructure, AreKeysInOrder, ArePartsInOrder, part_of, first_key}
use Rattle.hfs_btree.proofs.LevelLemmas.{at-spot, under-some, records-some}
use Rattle.hfs_btree.proofs.DescentLemmas.{content-about}
use Rattle.hfs_btree_edits.proofs.EditedOrderLemmas.{each-flat}
use Rattle.hfs_btree_edits.specs.LevelParts.{lift}
use Rattle.hfs_btree_edits.proofs.LevelPartLemmas.{upper, turn-split}
use Rattle.hfs_btree_removal.proofs.DetachedOrder.{level-lift}
use Rattle.hfs_btree_removal.proofs.Told.{first-most}
use Rattle.hfs_fields.proofs.OrderLemmas.{equal-own}

pub equal-self : {K : Type 0} (cmp : Order K) (total : IsTotalOrder cmp) (x : K) → cmp x x ≡ Equal
equal-self cmp total x = equal-own (cmp x x) (total.antisymm x x)

pub rises-right : {K : Type 0} (cmp : Order K) (xs ys : Pairs K) → Rises cmp (xs ++ ys) → Rises cmp ys
rises-right cmp [] ys h = h
rises-right cmp (x ∷ xs) ys h = rises-right cmp xs ys h.1

pub rises-left : {K : Type 0} (cmp : Order K) (xs ys : Pairs K) → Rises cmp (xs ++ ys) → Rises cmp xs
rises-left cmp [] ys h = tt
rises-left cmp (x ∷ xs) ys h = (each-left _ xs ys h.0, rises-left cmp xs ys h.1)

module _ {K : Type 0} (g : Ghosts K) (nodes : Store) where
  -- the level below so many levels more
  pub level-next : (i : ℕ) (ns : List ℕ) → level_below g nodes (suc i) ns ≡ flat_map (children g nodes) (level_below g nodes i ns)
  level-next zero ns = refl
  level-next (suc i) ns = level-next i (flat_map (children g nodes) ns)

  module _ (i k : ℕ) (deep : depth_of nodes ≡ suc (lift i k)) (before : List ℕ) (n : ℕ) (behind : List ℕ) (level : level_below g nodes i (root_level nodes) ≡ before ++ n ∷ behind) where
    -- what holds at each spot of the tree holds from a level on
    pub from-level : (P : Spot → Type 0) → Each P (tree_turn g nodes) → Each P (turn g nodes (suc k) (before ++ n ∷ behind))
    from-level P h =
        let Q : List Spot → Type 0 = λ ss. Each P ss in
        let R : List ℕ → Type 0 = λ ns. Each P (turn g nodes (suc k) ns) in
        subst R level
        (each-right P (upper g nodes i k (root_level nodes)) (turn g nodes (suc k) (level_below g nodes i (root_level nodes)))
        (subst Q (ap (λ (d : ℕ). turn g nodes d (root_level nodes)) deep ∙ turn-split g nodes i k (root_level nodes)) h))

    pub at-level : (P : Spot → Type 0) → Each P (tree_turn g nodes) → (l : ℕ) × P (record { left = l; n = n; right = first_of behind; above = k })
    at-level P h = at-spot P k 0 before n behind (each-left P (spots k 0 (before ++ n ∷ behind)) (turn g nodes k (flat_map (children g nodes) (before ++ n ∷ behind))) (from-level P h))

    pub level-some : HasStructure g nodes → 0 < length (records_in nodes n)
    level-some st = records-some g nodes (IsRight g nodes) (λ spot h. h) _ (at-level (IsRight g nodes) st.levels.each).1

-- ---- the least key of a leaf

rise-most : {K : Type 0} (g : Ghosts K) (total : IsTotalOrder g.compare) (rs : List (List ℕ)) → 0 < length rs → Rises g.compare (map (pair_of g) rs) → IsAtMost g.compare (g.leaf_key (get_or rs 0 [])) (map (pair_of g) rs)
rise-most g total [] some h = absurd (omega arith)
rise-most g total (r ∷ rs) some h = (ap is_gt (equal-self g.compare total (g.leaf_key r)), each-mono _ _ (map (pair_of g) rs) (λ p e. ap is_gt e) h.0)

-- ---- of an index node

module _ {K : Type 0} (g : Ghosts K) (total : IsTotalOrder g.compare) (nodes : Store) (k : ℕ) where
  abbrev own : List ℕ → Pairs K
  own e = under g nodes k (g.child e)

  index-most : (rs : List (List ℕ)) → 0 < length rs → Each (λ e. 0 < length (own e)) rs → ArePartsInOrder g.compare [] (map (part_of g (under g nodes k)) rs) → IsAtMost g.compare (g.index_key (get_or rs 0 [])) (flat_map own rs)
  index-most [] some all h = absurd (omega arith)
  index-most (r ∷ rs) some all h = first-most g.compare total own g.index_key (g.index_key r) r rs (equal-self g.compare total (g.index_key r)) h.1 all h.2

module _ {K : Type 0} (g : Ghosts K) (total : IsTotalOrder g.compare) (nodes : Store) (sound : IsSound g nodes) where
  abbrev Right : Spot → Type 0
  Right = IsRight g nodes

  pub leaf-rises : (i : ℕ) → depth_of nodes ≡ suc (lift i zero) → (before : List ℕ) (n : ℕ) (behind : List ℕ) → level_below g nodes i (root_level nodes) ≡ before ++ n ∷ behind → Rises g.compare (pairs g nodes n)
  leaf-rises i deep before n behind level =
      let P : Pairs K → Type 0 = λ ps. Rises g.compare ps in
      let split : leaves g nodes ≡ before ++ n ∷ behind = ap (λ (d : ℕ). last_level g nodes d (root_level nodes)) deep ∙ level-lift g nodes i zero (root_level nodes) ∙ level in
      let all = subst P (content-about g nodes before n behind split) sound.ordered.rises in
      rises-left g.compare (pairs g nodes n) (flat_map (pairs g nodes) behind) (rises-right g.compare (flat_map (pairs g nodes) before) (pairs g nodes n ++ flat_map (pairs g nodes) behind) all)

  -- there is a pair under each child
  pub own-some : (i k : ℕ) → depth_of nodes ≡ suc (lift i (suc k)) → (before : List ℕ) (n : ℕ) (behind : List ℕ) → level_below g nodes i (root_level nodes) ≡ before ++ n ∷ behind
      → Each (λ e. 0 < length (under g nodes k (g.child e))) (records_in nodes n)
  own-some i k deep before n behind level =
      let Q : ℕ → Type 0 = λ m. 0 < length (under g nodes k m) in
      let L = before ++ n ∷ behind in
      let all = from-level g nodes i (suc k) deep before n behind level Right sound.structure.levels.each in
      let below = each-right Right (spots (suc k) 0 L) (turn g nodes (suc k) (flat_map (children g nodes) L)) all in
      let each : Each Q (flat_map (children g nodes) L) = under-some g nodes Right (λ spot h. h) k (flat_map (children g nodes) L) below in
      each-unmap Q g.child (records_in nodes n) (each-right (λ m. Each Q (children g nodes m)) before (n ∷ behind) (each-flat Q (children g nodes) L each)).0

  pub least : (k i : ℕ) → depth_of nodes ≡ suc (lift i k) → (before : List ℕ) (n : ℕ) (behind : List ℕ) → level_below g nodes i (root_level nodes) ≡ before ++ n ∷ behind
      → IsAtMost g.compare (first_key g nodes k n) (under g nodes k n)
  least zero i deep before n behind level = rise-most g total (records_in nodes n) (level-some g nodes i zero deep before n behind level sound.structure) (leaf-rises i deep before n behind level)
  least (suc k) i deep before n behind level =
      let keys = (at-level g nodes i (suc k) deep before n behind level (λ s. AreKeysInOrder g nodes s.above s.n) sound.ordered.keys).1 in
      let P : Pairs K → Type 0 = λ ps. IsAtMost g.compare (first_key g nodes (suc k) n) ps in
      subst P (sym (flat_map-map (under g nodes k) g.child (records_in nodes n)))
      (index-most g total nodes k (records_in nodes n) (level-some g nodes i (suc k) deep before n behind level sound.structure) (own-some i k deep before n behind level) keys)
