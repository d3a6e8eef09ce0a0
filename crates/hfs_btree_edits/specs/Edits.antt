-- What the edits of a tree make of it.
use Rattle.std.specs.Prelude.{◌≡◌, ◌≢◌, false, ℕ, zero, suc, ◌+◌, ◌-◌, ◌<◌, ◌≤◌, List, [], ◌∷◌, ◌++◌, length, if◌then◌else◌, Result, OnOk}
use Rattle.std.specs.declared.cmp.Ordering.TheVariants.{Less}
use Rattle.std.specs.Ordering.{is_eq, is_gt}
use Rattle.hfs_btree.specs.Node.{size_of}
use Rattle.hfs_btree.specs.Laid.{IsClear, IsZeroFrom}
use Rattle.hfs_btree.specs.declared.key.Key.{Ghosts}
use Rattle.hfs_btree.specs.Pairs.{Order, Pairs}
use Rattle.hfs_fields.specs.Each.{Each}
use Rattle.hfs_fields.specs.Members.{In}
use Rattle.hfs_btree.specs.Tree.{Store, records_in, level_below}
use Rattle.hfs_btree.specs.Header.{header_in, depth_of, root_level, own_nodes, is_marked, free_nodes, tree_content, tree_nodes}
use Rattle.hfs_btree.specs.Search.{leaf_under, leaf_for}
use Rattle.hfs_btree.specs.Sound.{IsOther, IsSound, IsExact, KeepsFrame}
use Rattle.hfs_btree_edits.specs.Stored.{bytes_in}
use Rattle.hfs_btree_edits.specs.KeptKeys.{tree_keys, EachKey, IsKeyOr}

-- ---- before and after

-- where the result is Ok, the fact holds of the nodes before and after
abbrev pub Edits : {T E V : Type 0} → Result T E → (Store → Store → Type 0) → (V → Store) → V → V → Type 0
Edits result Fact nodes old new = OnOk result (Fact (nodes old) (nodes new))

-- ---- pairs

-- the pairs with one more, in front of the first whose key isn't below its own
abbrev pub with_pair : {K : Type 0} → Order K → K → List ℕ → Pairs K → Pairs K
with_pair cmp key body [] = (key, body) ∷ []
with_pair cmp key body (p ∷ ps) = if is_gt (cmp key p.0) then p ∷ with_pair cmp key body ps else (key, body) ∷ p ∷ ps

-- the pairs without the first whose key is equal in the order
abbrev pub without_pair : {K : Type 0} → Order K → K → Pairs K → Pairs K
without_pair cmp key [] = []
without_pair cmp key (p ∷ ps) = if is_eq (cmp key p.0) then ps else p ∷ without_pair cmp key ps

-- the pairs with another in the place of the first whose key is equal to its own in the order
abbrev pub with_replaced : {K : Type 0} → Order K → K → List ℕ → Pairs K → Pairs K
with_replaced cmp key body [] = []
with_replaced cmp key body (p ∷ ps) = if is_eq (cmp key p.0) then (key, body) ∷ ps else p ∷ with_replaced cmp key body ps

-- the key is above the first, so there is one
abbrev pub IsAboveFirst : {K : Type 0} → Order K → K → Pairs K → Type 0
IsAboveFirst cmp key [] = ⊥
IsAboveFirst cmp key (p ∷ ps) = cmp p.0 key ≡ Less

-- ---- what all edits keep

-- A sound tree, exact where it was, with its frame; a node that is added is taken from the free ones, and one that is removed is given back to
-- them. Besides the header node, the map nodes and the nodes of the old and the new levels, no node of the file has changed.
pub record KeepsTree {K : Type 0} (g : Ghosts K) (old new : Store) : Type 0 where
  pub sound : IsSound g new
  pub exact : IsExact g old → IsExact g new
  pub frame : KeepsFrame g old new
  pub free : free_nodes new + length (tree_nodes g new) ≡ free_nodes old + length (tree_nodes g old)
  pub rest : (n : ℕ) → Each (IsOther n) (own_nodes old ++ (tree_nodes g old ++ tree_nodes g new)) → bytes_in new n ≡ bytes_in old n

-- ---- levels, counted from the leaves

-- the nodes that are k levels above the leaves
abbrev pub level_above : {K : Type 0} → Ghosts K → Store → ℕ → List ℕ
level_above g nodes k = level_below g nodes (depth_of nodes - 1 - k) (root_level nodes)

-- that one of them where the search for a key passes
abbrev pub node_for : {K : Type 0} → Ghosts K → Store → K → ℕ → ℕ
node_for g nodes key k = leaf_under g nodes key (depth_of nodes - 1 - k) (header_in nodes).root

-- how many bytes the record has that such a level may get: the pair's in a leaf, else an index record
abbrev pub entry_len : {K : Type 0} → Ghosts K → K → List ℕ → ℕ → ℕ
entry_len g key body zero = length (g.leaf_head key ++ body)
entry_len g key body (suc k) = g.INDEX_KEY_LEN + 5

-- a node that has no room for one more record of so many bytes
abbrev pub IsFullFor : Store → ℕ → ℕ → Type 0
IsFullFor nodes len n = 496 < size_of (records_in nodes n) + (len + 2)

-- ---- insertion

-- the level that is so many levels above the leaves has got a node
abbrev pub GetsNode : {K : Type 0} → Ghosts K → Store → Store → ℕ → Type 0
GetsNode g old new k = length (level_above g old k) < length (level_above g new k)

-- A level of the old tree has as many nodes as before, or one more where its node on the way to the key had no room for what was added to
-- it: in the leaves the pair, above them the index record of a node that the level below has got.
pub record HasGrown {K : Type 0} (g : Ghosts K) (key : K) (body : List ℕ) (old new : Store) (k : ℕ) : Type 0 where
  pub least : length (level_above g old k) ≤ length (level_above g new k)
  pub most : length (level_above g new k) ≤ length (level_above g old k) + 1
  pub full : GetsNode g old new k → IsFullFor old (entry_len g key body k) (node_for g old key k)
  pub below : (j : ℕ) → suc j ≡ k → GetsNode g old new k → GetsNode g old new j

-- the tree has as many levels as before, or one more where the old root's level has got a node
pub record HasRisen {K : Type 0} (g : Ghosts K) (old new : Store) : Type 0 where
  pub least : depth_of old ≤ depth_of new
  pub most : depth_of new ≤ depth_of old + 1
  pub split : depth_of old < depth_of new → length (level_above g new (depth_of old - 1)) ≡ 2

-- the pair was put in its place; each key of the new tree is its key or one of the old tree
pub record HasInserted {K : Type 0} (g : Ghosts K) (key : K) (body : List ℕ) (old new : Store) : Type 0 where
  pub keeps : KeepsTree g old new
  pub content : tree_content g new ≡ with_pair g.compare key body (tree_content g old)
  pub keys : EachKey g (IsKeyOr g old key) new
  pub levels : (k : ℕ) → k < depth_of old → HasGrown g key body old new k
  pub depth : HasRisen g old new

-- ---- removal

-- The pair under the key was taken away; the tree has no more nodes and levels than before, and no root with one child. Each key of
-- the new tree is one of the old tree, and the nodes that left the levels are free and zeros.
pub record HasRemoved {K : Type 0} (g : Ghosts K) (key : K) (old new : Store) : Type 0 where
  pub keeps : KeepsTree g old new
  pub content : tree_content g new ≡ without_pair g.compare key (tree_content g old)
  pub keys : EachKey g (λ k. In k (tree_keys g old)) new
  pub blank : Each (λ n. is_marked new n ≡ false → IsZeroFrom 0 512 (bytes_in new n)) (tree_nodes g old)
  pub free : free_nodes old ≤ free_nodes new
  pub depth : depth_of new ≤ depth_of old
  pub root : 2 ≤ depth_of new → 2 ≤ length (records_in new (header_in new).root)

-- ---- replacement

-- The pair takes the place of the one with its key; the tree has as many nodes and levels as before. The leaf where the search
-- for the key ends was written, with zeros where it has nothing, and no other node.
pub record HasReplaced {K : Type 0} (g : Ghosts K) (key : K) (body : List ℕ) (old new : Store) : Type 0 where
  pub keeps : KeepsTree g old new
  pub content : tree_content g new ≡ with_replaced g.compare key body (tree_content g old)
  pub keys : EachKey g (IsKeyOr g old key) new
  pub clear : IsClear (records_in new (leaf_for g old key)) (bytes_in new (leaf_for g old key))
  pub others : (n : ℕ) → n ≢ leaf_for g old key → bytes_in new n ≡ bytes_in old n
  pub free : free_nodes new ≡ free_nodes old
  pub depth : depth_of new ≡ depth_of old
