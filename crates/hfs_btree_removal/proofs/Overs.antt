-- The index keys over a pair, on the way down to it.
use Rattle.std.proofs.Common.{◌≡◌, ◌≢◌, ℕ, zero, suc, ◌+◌, ◌<◌, ◌≤◌, true, false, List, [], ◌∷◌, ◌++◌, length, map, get_or, take, drop, refl, sym, ap, ◌∙◌, subst, arith, inl, inr}
use Rattle.std.specs.Prelude.{remove, Ok}
use Rattle.std.specs.List.{flat_map}
use Rattle.std.specs.Cmp.{IsTotalOrder}
use Rattle.std.specs.Ordering.{is_gt}
use Rattle.std.specs.declared.cmp.Ordering.TheVariants.{Less}
use Rattle.hfs_btree.specs.declared.node.Node.{Node}
use Rattle.hfs_btree_removal.specs.declared.down.Step.{Step}
use Rattle.hfs_btree.specs.declared.key.Key.{Ghosts}
use Rattle.hfs_btree.specs.Pairs.{Order, Pairs, Rises, IsAtMost, IsAbove}
use Rattle.hfs_fields.specs.Each.{Each}
use Rattle.hfs_fields.specs.Members.{In}
use Rattle.hfs_fields.proofs.MemberLemmas.{each_in, in-left, in-right}
use Rattle.hfs_fields.proofs.ElementLemmas.{each-at}
use Rattle.hfs_btree.specs.Tree.{Store, node_in, records_in, records_of, children, pair_of, first_of, under, level_below}
use Rattle.hfs_btree.specs.Header.{depth_of, root_level}
use Rattle.hfs_btree.specs.Sound.{IsRight, IsSound, AreKeysInOrder, ArePartsInOrder}
use Rattle.hfs_btree.proofs.DecodedLemmas.{decoded-within}
use Rattle.hfs_btree.proofs.DescentLemmas.{next-split}
use Rattle.hfs_btree_removal.specs.Removal.{IsSettable, AreSettable}
use Rattle.hfs_btree_removal.specs.Ways.{IsStep, Leads}
use Rattle.hfs_btree_removal.proofs.Chains.{IsChain, bottom, only_child, only-one}
use Rattle.hfs_btree_edits.proofs.EditedLemmas.{height-in}
use Rattle.hfs_btree_edits.specs.LevelParts.{lift}
use Rattle.hfs_btree_edits.proofs.LevelPartLemmas.{lift-is}
use Rattle.hfs_btree_removal.proofs.Firsts.{level-next, at-level}
use Rattle.hfs_btree_removal.proofs.Passed.{high}

pub in-map : {X Y : Type 0} (f : X → Y) (xs : List X) (q : ℕ) (d : X) → q < length xs → In (f (get_or xs q d)) (map f xs)
in-map f [] q d lt = absurd (omega arith)
in-map f (x ∷ xs) zero d lt = inl refl
in-map f (x ∷ xs) (suc q) d lt = inr (in-map f xs q d (omega arith))

module _ {K : Type 0} (cmp : Order K) (key : List ℕ → K) (own : List ℕ → Pairs K) where
  abbrev part : List ℕ → K × Pairs K
  part e = (key e, own e)

  pub parts-at : (before : Pairs K) (rs : List (List ℕ)) (q : ℕ) → ArePartsInOrder cmp before (map part rs) → q < length rs → IsAtMost cmp (key (get_or rs q [])) (own (get_or rs q []))
  parts-at before [] q h lt = absurd (omega arith)
  parts-at before (r ∷ rs) zero h lt = h.1
  parts-at before (r ∷ rs) (suc q) h lt = parts-at (own r) rs q h.2 (omega arith)

  -- the second key is above the first one's pairs
  pub parts-second : (before : Pairs K) (rs : List (List ℕ)) → ArePartsInOrder cmp before (map part rs) → 2 ≤ length rs → IsAbove cmp (key (get_or (remove rs 0) 0 [])) (own (get_or rs 0 []))
  parts-second before [] h more = absurd (omega arith)
  parts-second before (r ∷ []) h more = absurd (omega arith)
  parts-second before (r ∷ r' ∷ rs) h more = h.2.0

pub leaf-second : {K : Type 0} (g : Ghosts K) (rs : List (List ℕ)) → Rises g.compare (map (pair_of g) rs) → 2 ≤ length rs → g.compare (g.leaf_key (get_or rs 0 [])) (g.leaf_key (get_or (remove rs 0) 0 [])) ≡ Less
leaf-second g [] h more = absurd (omega arith)
leaf-second g (r ∷ []) h more = absurd (omega arith)
leaf-second g (r ∷ r' ∷ rs) h more = h.0.0

module _ {K : Type 0} (g : Ghosts K) (nodes : Store) (x : K × List ℕ) where
  pub in-flat : (f : ℕ → Pairs K) (rs : List (List ℕ)) (q : ℕ) → q < length rs → In x (f (g.child (get_or rs q []))) → In x (flat_map f (map g.child rs))
  in-flat f [] q lt i = absurd (omega arith)
  in-flat f (r ∷ rs) zero lt i = in-left x (f (g.child r)) (flat_map f (map g.child rs)) i
  in-flat f (r ∷ rs) (suc q) lt i = in-right x (f (g.child r)) (flat_map f (map g.child rs)) (in-flat f rs q (omega arith) i)

-- the only pair of a chain is under its first node
pub in-chain : {K : Type 0} (g : Ghosts K) (nodes : Store) (k : ℕ) (front : List ℕ) (n : ℕ) (back : List ℕ) → IsChain g nodes k n
    → In (pair_of g (get_or (records_in nodes (bottom g nodes k front n back).n) 0 [])) (under g nodes k n)
in-chain g nodes zero front n back h = in-map (pair_of g) (records_in nodes n) 0 [] (omega (arith, h))
in-chain g nodes (suc k) front n back h =
    let f = flat_map (children g nodes) front in
    let b = flat_map (children g nodes) back in
    let x = pair_of g (get_or (records_in nodes (bottom g nodes k f (only_child g nodes n) b).n) 0 []) in
    let P : List ℕ → Type 0 = λ ns. In x (flat_map (under g nodes k) ns) in
    subst P (sym (only-one g nodes n h.0)) (in-left x (under g nodes k (only_child g nodes n)) [] (in-chain g nodes k f (only_child g nodes n) b h.1))

module _ {K : Type 0} (g : Ghosts K) (total : IsTotalOrder g.compare) (nodes : Store) (sound : IsSound g nodes) (c k : ℕ) where
  module _ (s : Step) (ss : List Step) (i : ℕ) (deep : depth_of nodes ≡ suc (lift i (suc (high ss k)))) (before : List ℕ) (n : ℕ) (behind : List ℕ)
      (level : level_below g nodes i (root_level nodes) ≡ before ++ n ∷ behind) (step : IsStep nodes n s) where
    pub step-within : s.place < length (records_in nodes n)
    step-within = let a = step.within in let b = step.count in omega arith

    pub deep-below : depth_of nodes ≡ suc (lift (suc i) (high ss k))
    deep-below = omega (arith, deep, lift-is i (suc (high ss k)), lift-is (suc i) (high ss k))

    pub level-below : level_below g nodes (suc i) (root_level nodes)
        ≡ (flat_map (children g nodes) before ++ map g.child (take s.place (records_in nodes n))) ++ g.child (get_or (records_in nodes n) s.place []) ∷ (map g.child (drop (suc s.place) (records_in nodes n)) ++ flat_map (children g nodes) behind)
    level-below = level-next g nodes i (root_level nodes) ∙ ap (flat_map (children g nodes)) level ∙ next-split g nodes before n behind s.place step-within

    pub spot-at : (l : ℕ) × IsRight g nodes (record { left = l; n = n; right = first_of behind; above = suc (high ss k) })
    spot-at = at-level g nodes i (suc (high ss k)) deep before n behind level (IsRight g nodes) sound.structure.levels.each

    pub keys-at : AreKeysInOrder g nodes (suc (high ss k)) n
    keys-at = (at-level g nodes i (suc (high ss k)) deep before n behind level (λ spot. AreKeysInOrder g nodes spot.above spot.n) sound.ordered.keys).1

    pub can-set : IsSettable g nodes s
    can-set =
        let F : List ℕ → Type 0 = λ e. g.is_index e ≡ true in
        let R : ℕ → Type 0 = λ m. s.place < length (records_in nodes m) in
        let S : ℕ → Type 0 = λ m. F (get_or (records_in nodes m) s.place []) in
        let T : List (List ℕ) → Type 0 = λ rs. Each F rs in
        let W : ℕ → Type 0 = λ m. m < length nodes in
        let all = subst T (sym (ap records_of spot-at.1.decodes)) spot-at.1.whole in
        record {
          within = subst W (sym step.node) (decoded-within nodes n spot-at.1.value spot-at.1.decodes);
          place = subst R (sym step.node) step-within;
          index = subst S (sym step.node) (each-at F (records_in nodes n) s.place [] all step-within);
        }

  -- the nodes of lower steps are other ones than a node that stands higher
  other-steps : (ss : List Step) (i : ℕ) → depth_of nodes ≡ suc (lift i (high ss k)) → (before : List ℕ) (n : ℕ) (behind : List ℕ) → level_below g nodes i (root_level nodes) ≡ before ++ n ∷ behind
      → Leads g nodes n ss c → (m : ℕ) (v : Node) → node_in nodes m ≡ Ok v → high ss k + 1 < v.height → Each (λ u. m ≢ u.node) ss
  other-steps [] i deep before n behind level leads m v is lt = tt
  other-steps (s ∷ ss) i deep before n behind level leads m v is lt =
      let spot = (spot-at s ss i deep before n behind level leads.0).1 in
      let ne : m ≢ s.node = λ e.
      absurd (let same : v.height ≡ spot.value.height = ap height-in (sym is ∙ ap (node_in nodes) (e ∙ leads.0.node) ∙ spot.decodes) in
      let its = spot.height in
      omega arith) in
      (ne, other-steps ss (suc i) (deep-below s ss i deep before n behind level leads.0) _ (g.child (get_or (records_in nodes n) s.place [])) _ (level-below s ss i deep before n behind level leads.0) leads.1 m v is (omega arith))

  pub settable : (ss : List Step) (i : ℕ) → depth_of nodes ≡ suc (lift i (high ss k)) → (before : List ℕ) (n : ℕ) (behind : List ℕ) → level_below g nodes i (root_level nodes) ≡ before ++ n ∷ behind
      → Leads g nodes n ss c → AreSettable g nodes ss
  settable [] i deep before n behind level leads = tt
  settable (s ∷ ss) i deep before n behind level leads =
      let spot = (spot-at s ss i deep before n behind level leads.0).1 in
      let deep' = deep-below s ss i deep before n behind level leads.0 in
      let level' = level-below s ss i deep before n behind level leads.0 in
      let son = g.child (get_or (records_in nodes n) s.place []) in
      let P : ℕ → Type 0 = λ m. Each (λ u. m ≢ u.node) ss in (
        can-set s ss i deep before n behind level leads.0,
        subst P (sym leads.0.node) (other-steps ss (suc i) deep' _ son _ level' leads.1 n spot.value spot.decodes (let e = spot.height in omega arith)),
        settable ss (suc i) deep' _ son _ level' leads.1,
      )

  module _ (x : K × List ℕ) where
    -- the key of the record on the way is at most the pair's
    abbrev pub IsUnder : Step → Type 0
    IsUnder s = is_gt (g.compare (g.index_key (get_or (records_in nodes s.node) s.place [])) x.0) ≡ false

    pub over : (ss : List Step) (i : ℕ) → depth_of nodes ≡ suc (lift i (high ss k)) → (before : List ℕ) (n : ℕ) (behind : List ℕ) → level_below g nodes i (root_level nodes) ≡ before ++ n ∷ behind
        → Leads g nodes n ss c → In x (under g nodes k c) → In x (under g nodes (high ss k) n) × Each IsUnder ss
    over [] i deep before n behind level leads h = let P : ℕ → Type 0 = λ m. In x (under g nodes k m) in (subst P (sym leads) h, tt)
    over (s ∷ ss) i deep before n behind level leads h =
        let son = g.child (get_or (records_in nodes n) s.place []) in
        let within = step-within s ss i deep before n behind level leads.0 in
        let ih = over ss (suc i) (deep-below s ss i deep before n behind level leads.0) _ son _ (level-below s ss i deep before n behind level leads.0) leads.1 h in
        let keys = keys-at s ss i deep before n behind level leads.0 in
        let most = parts-at g.compare g.index_key (λ e. under g nodes (high ss k) (g.child e)) [] (records_in nodes n) s.place keys within in
        let P : ℕ → Type 0 = λ m. is_gt (g.compare (g.index_key (get_or (records_in nodes m) s.place [])) x.0) ≡ false in (
          in-flat g nodes x (under g nodes (high ss k)) (records_in nodes n) s.place within ih.0,
          (subst P (sym leads.0.node) (each_in (λ p. is_gt (g.compare (g.index_key (get_or (records_in nodes n) s.place [])) p.0) ≡ false) (under g nodes (high ss k) son) x most ih.0), ih.1),
        )
