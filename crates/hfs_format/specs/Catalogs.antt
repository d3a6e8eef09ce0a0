-- How many nodes the catalog of a new volume gets.
use Rattle.std.specs.Prelude.{ℕ, zero, suc, ◌+◌, ◌-◌, ◌*◌, ◌/◌, Bool, nat_le, if◌then◌else◌, List}
use Rattle.std.specs.List.{sum_by}
use Rattle.hfs_format.specs.NewTrees.{map_node_count}
use Rattle.hfs_format.specs.declared.items.NewItem.{NewItem}
use Rattle.hfs_format.specs.declared.items.NewItem.TheVariants.{Folder, File}

-- ---- records

-- the bytes of a key in a leaf, by the characters of its name: it is filled up to an even number
unfoldable pub key_bytes : ℕ → ℕ
key_bytes name_len = (name_len + 8) / 2 * 2

-- a record with the two bytes that give its place in the node
abbrev pub placed : ℕ → ℕ
placed bytes = bytes + 2

-- a folder's record, and its thread, which has a key without a name
unfoldable pub folder_bytes : ℕ → ℕ
folder_bytes name_len = placed (key_bytes name_len + 70) + placed (key_bytes 0 + 46)

-- a file's record; it has no thread
unfoldable pub file_bytes : ℕ → ℕ
file_bytes name_len = placed (key_bytes name_len + 102)

abbrev pub item_bytes : NewItem → ℕ
item_bytes (Folder name_len) = folder_bytes name_len
item_bytes (File file) = file_bytes file.name_len

-- the records of the root, by the characters of its name, and of all that lies in it
abbrev pub records_bytes : ℕ → List NewItem → ℕ
records_bytes name_len items = folder_bytes name_len + sum_by item_bytes items

-- ---- nodes

-- leaves half full: of a node's 512 bytes 496 are for records and their places
unfoldable pub leaves : ℕ → ℕ
leaves bytes = (bytes + 247) / 248

-- the nodes above so many nodes, of which a node half full has 5 below it, up to the root, in so many levels at most
unfoldable pub index_nodes : ℕ → ℕ → ℕ
index_nodes zero below = 0
index_nodes (suc levels) below = if nat_le below 1 then 0 else (below + 4) / 5 + index_nodes levels ((below + 4) / 5)

-- these leaves and their index, and a quarter of them more
unfoldable pub record_nodes : ℕ → ℕ
record_nodes bytes = (5 * (leaves bytes + index_nodes 32 (leaves bytes)) + 3) / 4

-- whether of so many nodes so many are left besides the header node and the map nodes
abbrev pub has_left : ℕ → ℕ → Bool
has_left left nodes = nat_le (1 + left + map_node_count nodes) nodes

-- these nodes with the header node and the map nodes: the header node's map is of 2,048 nodes, and each map node's is of 3,935 besides itself
unfoldable pub with_map_nodes : ℕ → ℕ
with_map_nodes left = 1 + left + (1 + left - 2048 + 3934) / 3935

-- so many times the nodes that the catalog of these items needs
abbrev pub catalog_nodes : ℕ → List NewItem → ℕ → ℕ
catalog_nodes name_len items times = with_map_nodes (record_nodes (records_bytes name_len items)) * times
