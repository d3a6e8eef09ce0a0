-- The left edge of a tree: the first node of each level.
use Rattle.std.proofs.Common.{◌≡◌, ◌≢◌, ℕ, zero, suc, ◌-◌, ◌<◌, List, [], ◌∷◌, ◌++◌, length, map, get_or, drop, refl, sym, ap, ◌∙◌, subst, arith, length-append}
use Rattle.std.specs.Prelude.{Result, true}
use Rattle.std.specs.List.{flat_map}
use Rattle.std.proofs.lemmas.List.{length-map}
use Rattle.hfs_btree.specs.declared.node.Node.{Node}
use Rattle.hfs_btree.specs.declared.fault.NodeFault.{NodeFault}
use Rattle.hfs_btree.specs.declared.key.Key.{Ghosts}
use Rattle.hfs_fields.specs.Each.{Each}
use Rattle.hfs_fields.proofs.ElementLemmas.{each-mono, each-unmap, each-append}
use Rattle.hfs_btree.specs.Tree.{Store, Spot, node_in, records_in, records_of, children, spots, first_of, turn, level_below, reads_at}
use Rattle.hfs_btree.specs.Header.{header_in, depth_of, root_level, leaves, tree_turn, tree_nodes}
use Rattle.hfs_btree.specs.Sound.{IsOther, IsRight, HasStructure}
use Rattle.hfs_btree_edits.specs.Edits.{level_above}
use Rattle.hfs_btree_edits.specs.LevelParts.{lift}
use Rattle.hfs_btree_edits.proofs.EditedLemmas.{height-in}
use Rattle.hfs_btree_edits.proofs.LevelPartLemmas.{lift-is}
use Rattle.hfs_btree_removal.proofs.Firsts.{level-next, at-level, level-some}
use Rattle.hfs_btree_removal.proofs.NamedOnce.{named-once, own-behind}
use Rattle.hfs_record_edits.specs.Edge.{edge}

pub split-first : (ns : List ℕ) → 0 < length ns → ns ≡ first_of ns ∷ drop 1 ns
split-first [] some = absurd (omega (arith, some))
split-first (n ∷ ns) some = refl

first-child : (f : List ℕ → ℕ) (rs : List (List ℕ)) (xs : List ℕ) → 0 < length rs → first_of (map f rs ++ xs) ≡ f (get_or rs 0 [])
first-child f [] xs some = absurd (omega (arith, some))
first-child f (r ∷ rs) xs some = refl

-- the root stands at the head of the edge
pub edge-root : {K : Type 0} (g : Ghosts K) (nodes : Store) → edge g nodes (depth_of nodes - 1) ≡ (header_in nodes).root
edge-root g nodes =
    let top : depth_of nodes - 1 - (depth_of nodes - 1) ≡ 0 = omega arith in
    ap (λ (j : ℕ). first_of (level_below g nodes j (root_level nodes))) top

module _ {K : Type 0} (g : Ghosts K) (nodes : Store) (structure : HasStructure g nodes) where
  pub deep-at : (k : ℕ) → k < depth_of nodes → depth_of nodes ≡ suc (lift (depth_of nodes - 1 - k) k)
  deep-at k lt = let is = lift-is (depth_of nodes - 1 - k) k in omega (arith, lt, is)

  deep-by : (i : ℕ) → i < depth_of nodes → depth_of nodes ≡ suc (lift i (depth_of nodes - 1 - i))
  deep-by i lt = let is = lift-is i (depth_of nodes - 1 - i) in omega (arith, lt, is)

  levels-some : (i : ℕ) → i < depth_of nodes → 0 < length (level_below g nodes i (root_level nodes))
  levels-some zero lt = omega arith
  levels-some (suc i) lt =
      let ns = level_below g nodes i (root_level nodes) in
      let above : i < depth_of nodes = omega (arith, lt) in
      let split = split-first ns (levels-some i above) in
      let has = level-some g nodes i (depth_of nodes - 1 - i) (deep-by i above) [] (first_of ns) (drop 1 ns) split structure in
      let is = ap (λ (xs : List ℕ). length xs) (level-next g nodes i (root_level nodes) ∙ ap (flat_map (children g nodes)) split) in
      let parts = length-append (children g nodes (first_of ns)) (flat_map (children g nodes) (drop 1 ns)) in
      let count = length-map (records_in nodes (first_of ns)) g.child in
      omega (arith, is, parts, count, has)

  pub edge-level : (k : ℕ) → k < depth_of nodes → level_above g nodes k ≡ edge g nodes k ∷ drop 1 (level_above g nodes k)
  edge-level k lt = split-first (level_above g nodes k) (levels-some (depth_of nodes - 1 - k) (omega (arith, lt)))

  -- what holds at each spot of the tree holds at the edge
  pub edge-at : (P : Spot → Type 0) → Each P (tree_turn g nodes) → (k : ℕ) → k < depth_of nodes → (l : ℕ) × P (record { left = l; n = edge g nodes k; right = first_of (drop 1 (level_above g nodes k)); above = k })
  edge-at P h k lt = at-level g nodes (depth_of nodes - 1 - k) k (deep-at k lt) [] (edge g nodes k) (drop 1 (level_above g nodes k)) (edge-level k lt) P h

  pub edge-right : (k : ℕ) → k < depth_of nodes → (l : ℕ) × IsRight g nodes (record { left = l; n = edge g nodes k; right = first_of (drop 1 (level_above g nodes k)); above = k })
  edge-right k lt = edge-at (IsRight g nodes) structure.levels.each k lt

  pub edge-some : (k : ℕ) → k < depth_of nodes → 0 < length (records_in nodes (edge g nodes k))
  edge-some k lt = level-some g nodes (depth_of nodes - 1 - k) k (deep-at k lt) [] (edge g nodes k) (drop 1 (level_above g nodes k)) (edge-level k lt) structure

  pub edge-entries : (k : ℕ) → k < depth_of nodes → Each (λ e. reads_at g k e ≡ true) (records_in nodes (edge g nodes k))
  edge-entries k lt =
      let node = (edge-right k lt).1 in
      let P : Result Node NodeFault → Type 0 = λ r. Each (λ e. reads_at g k e ≡ true) (records_of r) in
      subst P (sym node.decodes) node.whole

  pub edge-among : (m k : ℕ) → k < depth_of nodes → Each (IsOther m) (tree_nodes g nodes) → edge g nodes k ≢ m
  edge-among m k lt h = (edge-at (λ (s : Spot). IsOther m s.n) (each-unmap (IsOther m) (λ (s : Spot). s.n) (tree_turn g nodes) h) k lt).1

  -- the height of a node tells its level
  pub edge-height : (s : Spot) → IsRight g nodes s → (k : ℕ) → k < depth_of nodes → s.n ≡ edge g nodes k → s.above ≡ k
  edge-height s r k lt e =
      let node = (edge-right k lt).1 in
      let same : r.value.height ≡ node.value.height = ap height-in (sym r.decodes ∙ ap (node_in nodes) e ∙ node.decodes) in
      let a = r.height in
      let b = node.height in
      omega (arith, same, a, b)

  pub edge-apart : (j k : ℕ) → j < depth_of nodes → k < depth_of nodes → j ≢ k → edge g nodes j ≢ edge g nodes k
  edge-apart j k lt lt' ne e = ne (edge-height _ (edge-right j lt).1 k lt' e)

  -- the first record of a node on the edge names the next one
  pub edge-next : (k : ℕ) → suc k < depth_of nodes → edge g nodes k ≡ g.child (get_or (records_in nodes (edge g nodes (suc k))) 0 [])
  edge-next k lt =
      let i = depth_of nodes - 1 - suc k in
      let step : depth_of nodes - 1 - k ≡ suc (depth_of nodes - 1 - suc k) = omega (arith, lt) in
      ap (λ (j : ℕ). first_of (level_below g nodes j (root_level nodes))) step
      ∙ ap first_of (level-next g nodes i (root_level nodes) ∙ ap (flat_map (children g nodes)) (edge-level (suc k) lt))
      ∙ first-child g.child (records_in nodes (edge g nodes (suc k))) (flat_map (children g nodes) (drop 1 (level_above g nodes (suc k)))) (edge-some (suc k) lt)

  -- no other node names it, and no other record of that node
  pub edge-once : (k : ℕ) → suc k < depth_of nodes → Each (λ (s : Spot). s.n ≢ edge g nodes (suc k) → 0 < s.above → Each (λ x. x ≢ edge g nodes k) (children g nodes s.n)) (tree_turn g nodes)
  edge-once k lt =
      let P : ℕ → Type 0 = λ c. Each (λ (s : Spot). s.n ≢ edge g nodes (suc k) → 0 < s.above → Each (λ x. x ≢ c) (children g nodes s.n)) (tree_turn g nodes) in
      subst P (sym (edge-next k lt))
      (named-once g nodes structure (depth_of nodes - 1 - suc k) k (deep-at (suc k) lt) [] (edge g nodes (suc k)) (drop 1 (level_above g nodes (suc k))) (edge-level (suc k) lt) 0 (edge-some (suc k) lt))

  pub edge-own : (k : ℕ) → suc k < depth_of nodes → Each (λ e. g.child e ≢ edge g nodes k) (drop 1 (records_in nodes (edge g nodes (suc k))))
  edge-own k lt =
      let P : ℕ → Type 0 = λ c. Each (λ e. g.child e ≢ c) (drop 1 (records_in nodes (edge g nodes (suc k)))) in
      subst P (sym (edge-next k lt))
      (own-behind g nodes structure (depth_of nodes - 1 - suc k) k (deep-at (suc k) lt) [] (edge g nodes (suc k)) (drop 1 (level_above g nodes (suc k))) (edge-level (suc k) lt) 0 (edge-some (suc k) lt))

  -- the first leaf
  pub edge-leaves : 0 < depth_of nodes → leaves g nodes ≡ edge g nodes 0 ∷ drop 1 (level_above g nodes 0)
  edge-leaves some =
      let d = depth_of nodes - 1 in
      let deep : depth_of nodes ≡ suc (depth_of nodes - 1 - 0) = omega (arith, some) in
      ap (λ (j : ℕ). Rattle.hfs_btree.specs.Tree.last_level g nodes j (root_level nodes)) deep ∙ edge-level 0 some

-- spots stand below the first level
pub spots-within : (P : ℕ → Type 0) (k left : ℕ) (ns : List ℕ) → P k → Each (λ (s : Spot). P s.above) (spots k left ns)
spots-within P k left [] h = tt
spots-within P k left (n ∷ ns) h = (h, spots-within P k n ns h)

pub turn-within : {K : Type 0} (g : Ghosts K) (nodes : Store) (d : ℕ) (ns : List ℕ) → Each (λ (s : Spot). s.above < d) (turn g nodes d ns)
turn-within g nodes zero ns = tt
turn-within g nodes (suc k) ns =
    let next = flat_map (children g nodes) ns in
    each-append (λ (s : Spot). s.above < suc k) (spots k 0 ns) (turn g nodes k next) (spots-within (λ (a : ℕ). a < suc k) k 0 ns (omega arith))
    (each-mono (λ (s : Spot). s.above < k) (λ (s : Spot). s.above < suc k) (turn g nodes k next) (λ s lt. omega (arith, lt)) (turn-within g nodes k next))
