-- The catalog tree.
use Rattle.std.specs.Prelude.{ℕ, List}
use Rattle.hfs_fields.specs.declared.key.CatKey.{CatKey}
use Rattle.hfs_fields.specs.KeyForms.{cat_leaf_bytes}
use Rattle.hfs_fields.specs.Keys.{is_cat_leaf, cat_key_of, cat_body_start, is_cat_index, cat_child_of, is_cat_body_len, cat_cmp}
use Rattle.hfs_btree.specs.declared.key.Key.{Ghosts}
use Rattle.hfs_btree.specs.Header.{tree_content}
use Rattle.hfs_btree.specs.Sound.{IsSound}
use Rattle.hfs_catalog.specs.Records.{Catalog}

-- what the records of the catalog tree are
abbrev pub cat_keys : Ghosts CatKey
cat_keys = record {
  compare = cat_cmp;
  is_leaf = is_cat_leaf;
  leaf_key = cat_key_of;
  body_start = cat_body_start;
  leaf_head = cat_leaf_bytes;
  is_index = is_cat_index;
  index_key = cat_key_of;
  child = cat_child_of;
  is_body_len = is_cat_body_len;
  INDEX_KEY_LEN = 37;
}

-- the nodes are a sound tree of catalog records
abbrev pub IsCatalogTree : List (List ℕ) → Type 0
IsCatalogTree nodes = IsSound cat_keys nodes

-- the records of the tree's leaves
abbrev pub catalog_of : List (List ℕ) → Catalog
catalog_of nodes = tree_content cat_keys nodes
