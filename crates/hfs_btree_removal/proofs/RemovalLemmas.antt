-- Lemmas about the definitions of specs/Removal.antt.
use Rattle.std.specs.Prelude.{◌≡◌, ◌≢◌, ℕ, suc, length}
use Rattle.hfs_btree.specs.declared.key.Key.{Ghosts}
use Rattle.hfs_btree_edits.specs.KeptKeys.{tree_keys, EachKey}
use Rattle.hfs_fields.specs.Each.{Each}
use Rattle.hfs_fields.specs.Members.{In}
use Rattle.hfs_btree_edits.proofs.StoredLemmas.{HasNewHeader}
use Rattle.hfs_btree_edits.specs.Stored.{bytes_in}
use Rattle.hfs_btree.specs.Tree.{Store, node_in, records_in, children, first_of}
use Rattle.hfs_btree.specs.Header.{header_in, depth_of, free_nodes, tree_content, tree_turn, tree_nodes}
use Rattle.hfs_btree.specs.Sound.{IsOther, IsSound, KeepsFrame}

-- the first child
abbrev pub only_child : {K : Type 0} → Ghosts K → Store → ℕ → ℕ
only_child g nodes n = first_of (children g nodes n)

-- the header record names the root's only child as the root, and nothing else has changed
pub record IsLowered {K : Type 0} (g : Ghosts K) (old new : Store) (k : ℕ) : Type 0 where
  pub deep : depth_of old ≡ suc (suc k)
  pub one : length (records_in old (header_in old).root) ≡ 1
  pub depth : depth_of new ≡ suc k
  pub root : (header_in new).root ≡ only_child g old (header_in old).root
  pub head : HasNewHeader g old new
  pub rest : (m : ℕ) → m ≢ 0 → node_in new m ≡ node_in old m
  pub records : (header_in new).records ≡ (header_in old).records
  pub free : (header_in new).free_nodes ≡ (header_in old).free_nodes
  pub first : (header_in new).first_leaf ≡ (header_in old).first_leaf
  pub last : (header_in new).last_leaf ≡ (header_in old).last_leaf

-- the header record names no root and no leaf, and counts no pair
pub record IsEmptied {K : Type 0} (g : Ghosts K) (old new : Store) : Type 0 where
  pub one : depth_of old ≡ 1
  pub depth : depth_of new ≡ 0
  pub root : (header_in new).root ≡ 0
  pub head : HasNewHeader g old new
  pub records : (header_in new).records ≡ 0
  pub free : (header_in new).free_nodes ≡ (header_in old).free_nodes
  pub first : (header_in new).first_leaf ≡ 0
  pub last : (header_in new).last_leaf ≡ 0

-- ---- first keys

-- a first key was told to the nodes above: the levels, their pairs and the frame are the same, each key is one of the old tree, and
-- beside the levels no node of the file has changed
pub record HasTold {K : Type 0} (g : Ghosts K) (old new : Store) : Type 0 where
  pub sound : IsSound g new
  pub content : tree_content g new ≡ tree_content g old
  pub turn : tree_turn g new ≡ tree_turn g old
  pub root : (header_in new).root ≡ (header_in old).root
  pub depth : depth_of new ≡ depth_of old
  pub free : free_nodes new ≡ free_nodes old
  pub frame : KeepsFrame g old new
  pub keys : EachKey g (λ k. In k (tree_keys g old)) new
  pub rest : (m : ℕ) → Each (IsOther m) (tree_nodes g old) → bytes_in new m ≡ bytes_in old m
