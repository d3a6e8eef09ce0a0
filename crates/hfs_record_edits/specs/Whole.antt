-- A whole fork with its records in the extents tree, and what an edit of one fork keeps of the tree.
use Rattle.std.specs.Prelude.{◌≡◌, ◌⊎◌, ℕ, ◌+◌, ◌-◌, ◌<◌, List, [], ◌∷◌, ◌++◌, length, take, drop}
use Rattle.hfs_fields.specs.declared.extent.Extent.{Extent}
use Rattle.hfs_fields.specs.declared.key.ExtKey.{ExtKey}
use Rattle.hfs_fields.specs.Keys.{ext_cmp}
use Rattle.hfs_fields.specs.Each.{Each}
use Rattle.hfs_fields.specs.Members.{In}
use Rattle.hfs_btree.specs.Pairs.{lookup}
use Rattle.hfs_btree.specs.Tree.{Store}
use Rattle.hfs_btree.specs.Header.{header_in, depth_of, free_nodes, tree_nodes}
use Rattle.hfs_btree.specs.Sound.{IsExact, IsStray, KeepsFrame}
use Rattle.hfs_btree_edits.specs.Conditions.{IsThere}
use Rattle.hfs_btree_edits.specs.Edits.{with_replaced}
use Rattle.hfs_btree_edits.specs.KeptKeys.{tree_keys, EachKey}
use Rattle.hfs_btree_edits.specs.Stored.{bytes_in}
use Rattle.hfs_space.specs.Extents.{block_total, record_extents, fork_extents}
use Rattle.hfs_space.specs.Runs.{run_of_fork}
use Rattle.hfs_space.specs.TreeKeys.{ext_keys, IsExtentsTree, overflow_of}
use Rattle.hfs_record_edits.specs.Records.{of_fork, KeepsOtherForks}

-- ---- a fork

-- the fork, whose own record has these first extents, goes on with each record of it that the tree has
abbrev pub IsWhole : ℕ → ℕ → List Extent → Store → Type 0
IsWhole file fork first nodes = of_fork file fork (overflow_of nodes) ≡ run_of_fork file fork first (overflow_of nodes)

-- so it does, and these are all its extents
pub record HasExtents (file fork : ℕ) (first all : List Extent) (nodes : Store) : Type 0 where
  pub whole : IsWhole file fork first nodes
  pub extents : fork_extents (overflow_of nodes) file fork first ≡ all

-- ---- the tree

-- every other fork has the records that it had
abbrev pub KeepsOtherRecords : ℕ → ℕ → Store → Store → Type 0
KeepsOtherRecords file fork old new = (f k : ℕ) → (f ≡ file → k ≡ fork → ⊥) → of_fork f k (overflow_of new) ≡ of_fork f k (overflow_of old)

-- it is a key of the fork, or one of the tree
abbrev pub IsKeyOfOr : ℕ → ℕ → Store → ExtKey → Type 0
IsKeyOfOr file fork nodes k = ((k.file ≡ file) × (k.fork ≡ fork)) ⊎ In k (tree_keys ext_keys nodes)

-- A sound tree, exact where it was, with its frame, and no key that it didn't have but the fork's. A node that is added is taken from the
-- free ones, and one that goes is given back to them. The stray nodes, and those of the file that aren't the tree's, have their
-- bytes. Every other fork has its records and its extents.
pub record EditsFork (file fork : ℕ) (old new : Store) : Type 0 where
  pub sound : IsExtentsTree new
  pub exact : IsExact ext_keys old → IsExact ext_keys new
  pub frame : KeepsFrame ext_keys old new
  pub keys : EachKey ext_keys (IsKeyOfOr file fork old) new
  pub nodes : free_nodes new + length (tree_nodes ext_keys new) ≡ free_nodes old + length (tree_nodes ext_keys old)
  pub stray : (n : ℕ) → IsStray ext_keys old n → bytes_in new n ≡ bytes_in old n
  pub behind : drop (header_in old).nodes new ≡ drop (header_in old).nodes old
  pub records : KeepsOtherRecords file fork old new
  pub others : KeepsOtherForks file fork old new

-- the tree has as many levels, records and free nodes
pub record HasSameRoom (old new : Store) : Type 0 where
  pub depth : depth_of new ≡ depth_of old
  pub count : length (overflow_of new) ≡ length (overflow_of old)
  pub free : free_nodes new ≡ free_nodes old

-- ---- one record

-- the key of the fork's record that begins at this block of it
abbrev pub key_at : ℕ → ℕ → ℕ → ExtKey
key_at file fork block = record { fork = fork; file = file; block = block }

-- all records of the fork begin before this block of it
abbrev pub AreBefore : ℕ → ℕ → ℕ → Store → Type 0
AreBefore file fork block nodes = Each (λ r. r.0.block < block) (of_fork file fork (overflow_of nodes))

-- after the fork's records is one that begins at this block of it, with these extents
pub record HasRecordBehind (file fork block : ℕ) (extents : List Extent) (old new : Store) : Type 0 where
  pub body : List ℕ
  pub holds : record_extents body ≡ extents
  pub is : of_fork file fork (overflow_of new) ≡ of_fork file fork (overflow_of old) ++ (key_at file fork block, body) ∷ []

-- one of the fork's records begins at this block of it
abbrev pub IsRecordAt : ℕ → ℕ → ℕ → Store → Type 0
IsRecordAt file fork block nodes = IsThere (lookup ext_cmp (key_at file fork block) (of_fork file fork (overflow_of nodes)))

-- that one has these extents, and the fork's others are the same
pub record HasRecordSet (file fork block : ℕ) (extents : List Extent) (old new : Store) : Type 0 where
  pub body : List ℕ
  pub holds : record_extents body ≡ extents
  pub is : of_fork file fork (overflow_of new) ≡ with_replaced ext_cmp (key_at file fork block) body (of_fork file fork (overflow_of old))

-- The fork has as many extents as `places`, and except for the last three they are the first of these. The new last three have a block, and
-- there are few enough before them that a key has their number.
pub record LastMayChange (file fork : ℕ) (first extents : List Extent) (places : ℕ) (nodes : Store) : Type 0 where
  pub all : List Extent
  pub has : HasExtents file fork first all nodes
  pub long : length all ≡ places
  pub same : take (places - 3) all ≡ take (places - 3) extents
  pub some : 3 < places → 0 < block_total (take 3 (drop (places - 3) extents))
  pub few : block_total (take (places - 3) extents) < 65536
