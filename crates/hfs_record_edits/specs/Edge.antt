-- The left edge of a tree, and its least pair, whose place another one takes.
use Rattle.std.specs.Prelude.{◌≡◌, ◌≢◌, true, Bool, ℕ, ◌<◌, List, [], ◌∷◌, Ok, length, drop, slice_index_or, slice_set}
use Rattle.std.specs.declared.cmp.Ordering.TheVariants.{Less}
use Rattle.hfs_btree.specs.declared.node.Node.{Node}
use Rattle.hfs_btree.specs.declared.key.Key.{Ghosts}
use Rattle.hfs_fields.specs.Each.{Each}
use Rattle.hfs_btree.specs.Pairs.{Order, Pairs}
use Rattle.hfs_btree.specs.Tree.{Store, node_in, records_in, children, first_of}
use Rattle.hfs_btree.specs.Header.{header_in, depth_of, free_nodes, leaves, tree_turn, tree_nodes, tree_content}
use Rattle.hfs_btree.specs.Sound.{IsOther, HasStructure, KeepsFrame}
use Rattle.hfs_btree_edits.specs.Stored.{HasStored, bytes_in}
use Rattle.hfs_btree_edits.specs.Edits.{KeepsTree, level_above}
use Rattle.hfs_btree_edits.specs.KeptKeys.{EachKey, IsKeyOr}

-- the first node of the level that is so many levels above the leaves
abbrev pub edge : {K : Type 0} → Ghosts K → Store → ℕ → ℕ
edge g nodes k = first_of (level_above g nodes k)

-- the key is below each key of the pairs
abbrev pub IsBelowAll : {K : Type 0} → Order K → K → Pairs K → Type 0
IsBelowAll cmp key ps = Each (λ p. cmp key p.0 ≡ Less) ps

-- all records of leaves have as many bytes
abbrev pub AreOfOneLength : (List ℕ → Bool) → Type 0
AreOfOneLength is_leaf = (a b : List ℕ) → is_leaf a ≡ true → is_leaf b ≡ true → length a ≡ length b

-- of these records the first has got the key, and names the same child
pub record IsFirstSet {K : Type 0} (g : Ghosts K) (key : K) (old new : List (List ℕ)) : Type 0 where
  pub made : List ℕ
  pub index : g.is_index made ≡ true
  pub keyed : g.index_key made ≡ key
  pub names : g.child made ≡ g.child (slice_index_or old 0 [])
  pub is : new ≡ slice_set old 0 made

-- so it is of index node n, whose first record names this child, and no other node was written
pub record HasSetFirst {K : Type 0} (g : Ghosts K) (n : ℕ) (key : K) (old new : Store) (child : ℕ) : Type 0 where
  pub node : Node
  pub was : node_in old n ≡ Ok node
  pub records : List (List ℕ)
  pub set : IsFirstSet g key node.records records
  pub stored : HasStored n (record node { records = records }) old new
  pub first : child ≡ g.child (slice_index_or node.records 0 [])

-- So it is of each first node of a level that is higher above the leaves than so many levels. Levels, header and map are the
-- same, and so is each other node.
pub record HasSetEdge {K : Type 0} (g : Ghosts K) (key : K) (above : ℕ) (old new : Store) : Type 0 where
  pub structure : HasStructure g new
  pub header : header_in new ≡ header_in old
  pub turn : tree_turn g new ≡ tree_turn g old
  pub leaves : leaves g new ≡ leaves g old
  pub sons : (n : ℕ) → children g new n ≡ children g old n
  pub frame : KeepsFrame g old new
  pub free : free_nodes new ≡ free_nodes old
  pub firsts : (k : ℕ) → above < k → k < depth_of old → IsFirstSet g key (records_in old (edge g old k)) (records_in new (edge g old k))
  pub others : (n : ℕ) → ((k : ℕ) → above < k → k < depth_of old → n ≢ edge g old k) → records_in new n ≡ records_in old n
  pub bytes : (n : ℕ) → Each (IsOther n) (tree_nodes g old) → bytes_in new n ≡ bytes_in old n

-- The pair takes the place of the least one; its key is that of the first records of the left edge. The levels are the same.
pub record HasLowerLeast {K : Type 0} (g : Ghosts K) (key : K) (body : List ℕ) (old new : Store) : Type 0 where
  pub keeps : KeepsTree g old new
  pub content : tree_content g new ≡ (key, body) ∷ drop 1 (tree_content g old)
  pub keys : EachKey g (IsKeyOr g old key) new
  pub header : header_in new ≡ header_in old
  pub turn : tree_turn g new ≡ tree_turn g old
  pub free : free_nodes new ≡ free_nodes old
