-- The extents tree, by its keys.
use Rattle.std.specs.Prelude.{ℕ, ◌==◌, List, Option}
use Rattle.hfs_fields.specs.declared.key.ExtKey.{ExtKey}
use Rattle.hfs_fields.specs.KeyForms.{ext_key_bytes}
use Rattle.hfs_fields.specs.Keys.{is_ext_leaf, ext_key_of, is_ext_index, ext_child_of, ext_cmp}
use Rattle.hfs_btree.specs.declared.key.Key.{Ghosts}
use Rattle.hfs_btree.specs.Header.{tree_content}
use Rattle.hfs_btree.specs.Sound.{IsSound}
use Rattle.hfs_space.specs.Extents.{Overflow, GoesOnWith, fork_byte, fork_extents}
use Rattle.hfs_space.specs.declared.fork_kind.ForkKind.{ForkKind}
use Rattle.hfs_fields.specs.declared.extent.Extent.{Extent}

-- what the records of the extents tree are
abbrev pub ext_keys : Ghosts ExtKey
ext_keys = record {
  compare = ext_cmp;
  is_leaf = is_ext_leaf;
  leaf_key = ext_key_of;
  body_start = λ bytes. 8;
  leaf_head = ext_key_bytes;
  is_index = is_ext_index;
  index_key = ext_key_of;
  child = ext_child_of;
  is_body_len = λ len. len == 12;
  INDEX_KEY_LEN = 7;
}

-- the nodes are a sound extents tree
abbrev pub IsExtentsTree : List (List ℕ) → Type 0
IsExtentsTree nodes = IsSound ext_keys nodes

-- the content of an extents tree with these nodes
abbrev pub overflow_of : List (List ℕ) → Overflow
overflow_of nodes = tree_content ext_keys nodes

-- what a look-up in this tree finds that goes on with a fork from this block of it on
abbrev pub GoesOnIn : List (List ℕ) → ℕ → ForkKind → ℕ → Option (List Extent) → Type 0
GoesOnIn nodes file kind block found = GoesOnWith (overflow_of nodes) file (fork_byte kind) block found

-- all extents of a fork, those in this tree among them
abbrev pub extents_through : List (List ℕ) → ℕ → ForkKind → List Extent → List Extent
extents_through nodes file kind first = fork_extents (overflow_of nodes) file (fork_byte kind) first
