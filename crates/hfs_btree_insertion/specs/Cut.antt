-- A tree with a node that is to be cut in two, and one where it was cut.
use Rattle.std.specs.Prelude.{true, ◌≡◌, ◌≢◌, ℕ, suc, ◌+◌, ◌<◌, ◌≤◌, List, [], ◌∷◌, ◌++◌, length, take, drop, insert, slice_index_or, Ok}
use Rattle.std.specs.Ordering.{is_gt}
use Rattle.hfs_btree.specs.declared.node.Node.{Node}
use Rattle.hfs_btree.specs.Node.{size_of}
use Rattle.hfs_btree.specs.declared.key.Key.{Ghosts}
use Rattle.hfs_fields.specs.Each.{Each}
use Rattle.hfs_btree.specs.Tree.{Store, node_in, records_in, level_below, reads_at}
use Rattle.hfs_btree.specs.Header.{header_in, record_in, depth_of, root_level, tree_content}
use Rattle.hfs_btree.specs.Sound.{IsStray, IsSound}
use Rattle.hfs_btree_edits.specs.Stored.{KeepsHead, bytes_in}
use Rattle.hfs_btree_edits.specs.LevelParts.{lift, entry_key}

-- Node p, which is suc k levels above the leaves, names node n in its record q, and m is a stray node that is to follow n.
pub record IsCut {K : Type 0} (g : Ghosts K) (old : Store) (i k p n m q : ℕ) : Type 0 where
  pub deep : depth_of old ≡ suc (lift i (suc k))
  pub before : List ℕ
  pub behind : List ℕ
  pub level : level_below g old i (root_level old) ≡ before ++ p ∷ behind
  pub within : q < length (records_in old p)
  pub child : n ≡ g.child (slice_index_or (records_in old p) q [])
  pub stray : IsStray g old m
  pub above : Node
  pub node : Node
  pub was_above : node_in old p ≡ Ok above
  pub was_node : node_in old n ≡ Ok node

-- Node n has the records xs, and node m, which follows it, the records ys; above the leaves these are those that n had. A record
-- after the one that names n names m. What the header record says about the levels is right.
pub record IsParted {K : Type 0} (g : Ghosts K) (old new : Store) (i k p n m q : ℕ) (xs ys : List (List ℕ)) : Type 0 where
  pub cut : IsCut g old i k p n m q
  pub entry : List ℕ
  pub index : g.is_index entry ≡ true
  pub names : g.child entry ≡ m
  pub is_above : node_in new p ≡ Ok (record cut.above { records = insert cut.above.records (suc q) entry })
  pub is_first : node_in new n ≡ Ok (record cut.node { forward = m; records = xs })
  pub is_second : node_in new m ≡ Ok (record cut.node { backward = n; records = ys })
  pub firsts : 1 ≤ length xs
  pub seconds : 1 ≤ length ys
  pub firsts_read : Each (λ e. reads_at g k e ≡ true) xs
  pub seconds_read : Each (λ e. reads_at g k e ≡ true) ys
  pub below : (j : ℕ) → k ≡ suc j → xs ++ ys ≡ records_in old n
  pub is_right : (next : Node) → cut.node.forward ≢ 0 → node_in old cut.node.forward ≡ Ok next → node_in new cut.node.forward ≡ Ok (record next { backward = m })
  pub rest : (x : ℕ) → x ≢ 0 → x ≢ p → x ≢ n → x ≢ m → x ≢ cut.node.forward → node_in new x ≡ node_in old x
  pub bytes : (x : ℕ) → x ≢ 0 → x ≢ p → x ≢ n → x ≢ m → x ≢ cut.node.forward → bytes_in new x ≡ bytes_in old x
  pub root : (header_in new).root ≡ (header_in old).root
  pub depth : depth_of new ≡ depth_of old
  pub first_leaf : (header_in new).first_leaf ≡ (header_in old).first_leaf
  pub last_leaf : k ≡ 0 → cut.node.forward ≡ 0 → (header_in new).last_leaf ≡ m
  pub same_last : (k ≡ 0 → cut.node.forward ≢ 0) → (header_in new).last_leaf ≡ (header_in old).last_leaf
  pub free : (header_in new).free_nodes ≡ (header_in old).free_nodes
  pub head : KeepsHead old new

-- The records of node n from place c on went to node m, and a record after the one that names n names m, with the key of record c.
pub record IsSplit {K : Type 0} (g : Ghosts K) (old new : Store) (i k p n m q c : ℕ) : Type 0 where
  pub parts : IsParted g old new i k p n m q (take c (records_in old n)) (drop c (records_in old n))
  pub some : 0 < c
  pub less : c < length (records_in old n)
  pub keyed : g.index_key parts.entry ≡ entry_key g k (slice_index_or (records_in old n) c [])
  pub records : (header_in new).records ≡ (header_in old).records

-- node p is suc k levels above the leaves, and has a record q
pub record IsBranch {K : Type 0} (g : Ghosts K) (nodes : Store) (k p q : ℕ) : Type 0 where
  pub i : ℕ
  pub deep : depth_of nodes ≡ suc (lift i (suc k))
  pub before : List ℕ
  pub behind : List ℕ
  pub level : level_below g nodes i (root_level nodes) ≡ before ++ p ∷ behind
  pub within : q < length (records_in nodes p)

-- the child that record q of node p names
abbrev pub child_at : {K : Type 0} → Ghosts K → Store → ℕ → ℕ → ℕ
child_at g nodes p q = g.child (slice_index_or (records_in nodes p) q [])

-- these records leave room in a node for one more of so many bytes
abbrev pub LeaveRoom : List (List ℕ) → ℕ → Type 0
LeaveRoom records len = size_of records + (len + 2) ≤ 496

-- Node n, which is k levels above the leaves, is cut at its record c so that the part on the way to the key has room for one more
-- record of so many bytes: the second part has, and where record c's key is above the key, the first.
pub record IsRoomyCut {K : Type 0} (g : Ghosts K) (nodes : Store) (key : K) (k n c len : ℕ) : Type 0 where
  pub first : is_gt (g.compare (entry_key g k (record_in nodes n c)) key) ≡ true → LeaveRoom (take c (records_in nodes n)) len
  pub second : LeaveRoom (drop c (records_in nodes n)) len

-- this child was cut, and the part on the way to the key has room for one more record of so many bytes
pub record HasCutAt {K : Type 0} (g : Ghosts K) (key : K) (len : ℕ) (old new : Store) (k p q m : ℕ) : Type 0 where
  pub i : ℕ
  pub c : ℕ
  pub split : IsSplit g old new i k p (child_at g old p q) m q c
  pub sound : IsSound g new
  pub content : tree_content g new ≡ tree_content g old
  pub room : IsRoomyCut g old key k (child_at g old p q) c len

-- the child that record q of node p names was cut, and its second half went to node m
abbrev pub IsChildCut : {K : Type 0} → Ghosts K → K → ℕ → ℕ → ℕ → ℕ → ℕ → Store → Store → Type 0
IsChildCut g key len k p q m old new = HasCutAt g key len old new k p q m
