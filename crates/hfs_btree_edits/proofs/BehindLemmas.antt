-- The nodes of a tree's file that aren't the tree's own: no edit changes them.
use Rattle.std.proofs.Common.{◌≡◌, ℕ, zero, suc, ◌<◌, ◌≤◌, [], ◌∷◌, ◌++◌, length, get_or, drop, refl, sym, arith}
use Rattle.hfs_btree.specs.declared.key.Key.{Ghosts}
use Rattle.hfs_fields.specs.Each.{Each}
use Rattle.hfs_fields.proofs.ElementLemmas.{each-mono, each-append, each-map}
use Rattle.hfs_btree.specs.Tree.{Store, Spot}
use Rattle.hfs_btree.specs.Header.{header_in, own_nodes, map_nodes, tree_turn, tree_nodes}
use Rattle.hfs_btree.specs.Sound.{IsOther, IsMapNode, IsRight, IsSound}
use Rattle.hfs_btree_edits.specs.Stored.{bytes_in}
use Rattle.hfs_btree_edits.specs.Edits.{KeepsTree}

same-lists : (xs ys : Store) → length xs ≡ length ys → ((k : ℕ) → get_or ys k [] ≡ get_or xs k []) → ys ≡ xs
same-lists [] [] e h = refl
same-lists [] (y ∷ ys) e h = absurd (omega (arith, e))
same-lists (x ∷ xs) [] e h = absurd (omega (arith, e))
same-lists (x ∷ xs) (y ∷ ys) e h = let rest = same-lists xs ys (omega (arith, e)) (λ k. h (suc k)) in λ i. h 0 i ∷ rest i

same-behind : (n : ℕ) (xs ys : Store) → length xs ≡ length ys → ((k : ℕ) → n ≤ k → get_or ys k [] ≡ get_or xs k []) → drop n ys ≡ drop n xs
same-behind zero xs ys e h = same-lists xs ys e (λ k. h k (omega arith))
same-behind (suc n) [] [] e h = refl
same-behind (suc n) [] (y ∷ ys) e h = absurd (omega (arith, e))
same-behind (suc n) (x ∷ xs) [] e h = absurd (omega (arith, e))
same-behind (suc n) (x ∷ xs) (y ∷ ys) e h = same-behind n xs ys (omega (arith, e)) (λ k le. h (suc k) (omega (arith, le)))

module _ {K : Type 0} (g : Ghosts K) (nodes : Store) (sound : IsSound g nodes) (n : ℕ) (le : (header_in nodes).nodes ≤ n) where
  within-other : (m : ℕ) → m < (header_in nodes).nodes → IsOther n m
  within-other m lt e = absurd (omega (arith, lt, le, e))

  pub own-others : Each (IsOther n) (own_nodes nodes)
  own-others =
      let some = sound.structure.header.some in
      (within-other 0 (omega (arith, some)), each-mono (IsMapNode nodes) (IsOther n) (map_nodes nodes) (λ m is. within-other m is.within.1) sound.structure.map.chain)

  pub tree-others : Each (IsOther n) (tree_nodes g nodes)
  tree-others =
      each-map (IsOther n) (λ (s : Spot). s.n) (tree_turn g nodes)
      (each-mono (IsRight g nodes) (λ (s : Spot). IsOther n s.n) (tree_turn g nodes) (λ s right. within-other s.n right.within.1) sound.structure.levels.each)

module _ {K : Type 0} (g : Ghosts K) (old new : Store) (sound : IsSound g old) (keeps : KeepsTree g old new) where
  -- a node at or behind the number of the tree's nodes
  pub node-behind : (n : ℕ) → (header_in old).nodes ≤ n → bytes_in new n ≡ bytes_in old n
  node-behind n le =
      let same = keeps.frame.nodes in
      keeps.rest n
      (each-append (IsOther n) (own_nodes old) (tree_nodes g old ++ tree_nodes g new) (own-others g old sound n le)
      (each-append (IsOther n) (tree_nodes g old) (tree_nodes g new) (tree-others g old sound n le) (tree-others g new keeps.sound n (omega (arith, same, le)))))

  pub nodes-behind : drop (header_in old).nodes new ≡ drop (header_in old).nodes old
  nodes-behind = same-behind (header_in old).nodes old new (sym keeps.frame.file) (λ k le. node-behind k le)
