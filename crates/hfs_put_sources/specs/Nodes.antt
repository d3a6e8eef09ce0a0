-- A tree in memory, by its nodes: of two with one path the first counts.
use Rattle.std.specs.Prelude.{◌≡◌, ℕ, if◌then◌else◌, List, [], ◌∷◌, find, flat_map, Option, Some, None, option_map, bytes_eq}
use Rattle.hfs_put_sources.specs.declared.entry.Look.{Look}
use Rattle.hfs_put_sources.specs.declared.memory.HostNode.{HostNode}
use Rattle.hfs_put_sources.specs.declared.fault.HostFault.{HostFault}
use Rattle.hfs_put_sources.specs.Faults.{IsUnread}
use Rattle.hfs_put_sources.specs.Trees.{Listed, Tree}

abbrev pub node_at : List ℕ → List HostNode → Option HostNode
node_at path nodes = find (λ (node : HostNode). bytes_eq node.path.now path) nodes

abbrev pub look_at : List ℕ → List HostNode → Option Look
look_at path nodes = option_map (λ (node : HostNode). node.look) (node_at path nodes)

-- none where no node has the path
abbrev pub bytes_of : Option HostNode → List ℕ
bytes_of (Some node) = node.bytes.now
bytes_of None = []

abbrev pub bytes_at : List ℕ → List HostNode → List ℕ
bytes_at path nodes = bytes_of (node_at path nodes)

abbrev pub entry_of : HostNode → Listed
entry_of node = record { name = node.name.now; look = node.look }

-- those that lie in a folder
abbrev pub entry_in : List ℕ → HostNode → List Listed
entry_in folder node = if bytes_eq node.folder.now folder then entry_of node ∷ [] else []

abbrev pub listed_in : List ℕ → List HostNode → List Listed
listed_in folder nodes = flat_map (entry_in folder) nodes

-- no link is one of them
abbrev pub tree_of : List HostNode → Tree
tree_of nodes = record {
  entries = λ folder. listed_in folder nodes;
  bytes = λ path. bytes_at path nodes;
  look = λ path. look_at path nodes;
  target = λ path. look_at path nodes;
}

-- the fault of a path that no node has
pub record IsNowhere (nodes : List HostNode) (fault : HostFault) : Type 0 where
  pub path : List ℕ
  pub unread : IsUnread path fault
  pub none : node_at path nodes ≡ None
