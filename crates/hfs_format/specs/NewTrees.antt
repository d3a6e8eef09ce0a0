-- The nodes of a new volume's trees.
use Rattle.std.specs.Prelude.{ℕ, zero, suc, ◌+◌, ◌-◌, ◌*◌, ◌/◌, ◌≤◌, nat_lt, if◌then◌else◌, List, [], ◌∷◌, ◌++◌, length, replicate}
use Rattle.std.specs.List.{flat_map}
use Rattle.byteorder.specs.Endian.{big_bytes}
use Rattle.hfs_fields.specs.KeyForms.{cat_leaf_bytes}
use Rattle.hfs_fields.specs.Records.{new_dir, new_thread}
use Rattle.hfs_fields.specs.RecordForms.{dir_record_bytes, thread_record_bytes}
use Rattle.hfs_fields.specs.declared.dir_record.DirRecord.{DirRecord}
use Rattle.hfs_fields.specs.declared.thread_record.ThreadKind.TheVariants.{Folder}
use Rattle.hfs_btree.specs.Kind.{byte_of}
use Rattle.hfs_btree.specs.Node.{size_of, start_of}
use Rattle.hfs_btree.specs.declared.kind.NodeKind.{NodeKind}
use Rattle.hfs_btree.specs.declared.kind.NodeKind.TheVariants.{Header, Leaf, Map}
use Rattle.hfs_btree.specs.declared.node.Node.{Node}
use Rattle.hfs_btree.specs.declared.header.Header.{Header as TreeHeader}
use Rattle.hfs_format.specs.declared.layout.Layout.{Layout}
use Rattle.hfs_format.specs.BitRow.{bit_row}

-- ---- a node's bytes

-- a descriptor, 14 bytes: the links, the kind, the height and the number of records
abbrev pub descriptor : ℕ → ℕ → NodeKind → ℕ → ℕ → List ℕ
descriptor forward backward kind height records =
    big_bytes 4 forward ++ big_bytes 4 backward ++ byte_of kind ∷ height ∷ [] ++ big_bytes 2 records ++ replicate 2 0

unfoldable pub descriptor_bytes : Node → List ℕ
descriptor_bytes node = descriptor node.forward node.backward node.kind node.height (length node.records)

-- where record k begins, the record before it, and so on to the first
unfoldable pub offsets_down : List (List ℕ) → ℕ → List ℕ
offsets_down records zero = big_bytes 2 (start_of records zero)
offsets_down records (suc k) = big_bytes 2 (start_of records (suc k)) ++ offsets_down records k

-- the row of offsets: first that of the free space, last that of the first record
abbrev pub offset_bytes : List (List ℕ) → List ℕ
offset_bytes records = offsets_down records (length records)

-- a node that fits, in 512 bytes: its descriptor, the records one after the other, zeros, and the offsets
unfoldable pub node_bytes : Node → List ℕ
node_bytes node =
    descriptor_bytes node ++ flat_map (λ r. r) node.records ++ replicate (496 - size_of node.records) 0 ++ offset_bytes node.records

-- ---- header and map nodes

-- how many map nodes a tree of so many nodes has: the header node's map has 2,048 bits, and that of a map node 3,936
unfoldable pub map_node_count : ℕ → ℕ
map_node_count nodes = (nodes - 2048 + 3935) / 3936

-- a tree without a leaf: its first nodes are the header node and the map nodes
unfoldable pub empty_tree : ℕ → ℕ → TreeHeader
empty_tree key_len nodes = record {
  depth = 0;
  root = 0;
  records = 0;
  first_leaf = 0;
  last_leaf = 0;
  node_size = 512;
  key_len = key_len;
  nodes = nodes;
  free_nodes = nodes - 1 - map_node_count nodes;
}

-- a tree whose one leaf follows the header node and the map nodes
unfoldable pub one_leaf_tree : ℕ → ℕ → ℕ → TreeHeader
one_leaf_tree key_len nodes records = record {
  depth = 1;
  root = 1 + map_node_count nodes;
  records = records;
  first_leaf = 1 + map_node_count nodes;
  last_leaf = 1 + map_node_count nodes;
  node_size = 512;
  key_len = key_len;
  nodes = nodes;
  free_nodes = nodes - 2 - map_node_count nodes;
}

-- the header record, 106 bytes
unfoldable pub header_record : TreeHeader → List ℕ
header_record tree =
    big_bytes 2 tree.depth ++ big_bytes 4 tree.root ++ big_bytes 4 tree.records ++ big_bytes 4 tree.first_leaf ++ big_bytes 4 tree.last_leaf
    ++ big_bytes 2 tree.node_size ++ big_bytes 2 tree.key_len ++ big_bytes 4 tree.nodes ++ big_bytes 4 tree.free_nodes ++ replicate 76 0

-- so many bytes of the node map, from this one on: the nodes that are not free are the first ones
abbrev pub node_map : TreeHeader → ℕ → ℕ → List ℕ
node_map tree first count = bit_row (tree.nodes - tree.free_nodes) first count

-- the node after node j of those that hold the map, from 0 for the header node on; 0 after the last
unfoldable pub next_map_node : TreeHeader → ℕ → ℕ
next_map_node tree j = if nat_lt j (map_node_count tree.nodes) then j + 1 else 0

-- the header node: the header record, 128 reserved bytes, and the first 256 bytes of the node map
unfoldable pub header_node : TreeHeader → Node
header_node tree = record {
  forward = next_map_node tree 0;
  backward = 0;
  kind = Header;
  height = 0;
  records = header_record tree ∷ replicate 128 0 ∷ node_map tree 0 256 ∷ [];
}

-- map node j, from 1 on: 492 bytes more of the node map
unfoldable pub map_node : TreeHeader → ℕ → Node
map_node tree j = record {
  forward = next_map_node tree j;
  backward = j - 1;
  kind = Map;
  height = 0;
  records = node_map tree (256 + 492 * (j - 1)) 492 ∷ [];
}

-- what the numbers of a new tree keep: it has room for its header node and its map nodes, which are in use
pub record IsNewTree (tree : TreeHeader) : Type 0 where
  pub few : tree.nodes ≤ 4194304
  pub free : tree.free_nodes + map_node_count tree.nodes + 1 ≤ tree.nodes

-- node j of a new tree, in 512 bytes: the header node, the map nodes, and zeros after them
unfoldable pub tree_block : TreeHeader → ℕ → List ℕ
tree_block tree j =
    if nat_lt (map_node_count tree.nodes) j then replicate 512 0
    else (if nat_lt 0 j then node_bytes (map_node tree j) else node_bytes (header_node tree))

-- ---- the catalog's leaf

-- a leaf without neighbours
abbrev pub lone_leaf : List (List ℕ) → Node
lone_leaf records = record { forward = 0; backward = 0; kind = Leaf; height = 1; records = records }

-- the root folder's record: all three dates are the moment of the volume's making
abbrev pub root_directory : ℕ → DirRecord
root_directory moment = record (new_dir 2 moment) { backup = moment }

-- the root folder under its parent, 1
unfoldable pub root_record : Layout → List ℕ
root_record volume = cat_leaf_bytes (record { parent = 1; name = volume.name }) ++ dir_record_bytes (root_directory volume.moment)

-- the root folder's thread under its own ID, 2, with an empty name
unfoldable pub root_thread : Layout → List ℕ
root_thread volume = cat_leaf_bytes (record { parent = 2; name = [] }) ++ thread_record_bytes (new_thread Folder 1 volume.name)

unfoldable pub root_leaf : Layout → Node
root_leaf volume = lone_leaf (root_record volume ∷ root_thread volume ∷ [])
