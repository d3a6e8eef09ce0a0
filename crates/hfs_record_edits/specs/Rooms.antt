-- What an edit asks of the catalog's free nodes.
use Rattle.std.proofs.Common.{◌≡◌, ◌+◌, ◌*◌, ◌<◌, ◌≤◌, ◌^◌, length}
use Rattle.hfs_btree.specs.Tree.{Store}
use Rattle.hfs_btree.specs.Header.{header_in, depth_of, free_nodes}

-- the tree's nodes are in its file, and their bytes are counted by a number of 32 bits
pub record IsInFile (nodes : Store) : Type 0 where
  pub small : 512 * (header_in nodes).nodes < 2 ^ 32
  pub file : (header_in nodes).nodes ≤ length nodes

-- a record can be added: each level and a new root may take a node
pub record HasRoom (nodes : Store) : Type 0 where
  pub shallow : depth_of nodes ≤ 15
  pub free : depth_of nodes + 1 ≤ free_nodes nodes

-- a record can be added, and then another one
pub record HasRoomForTwo (nodes : Store) : Type 0 where
  pub shallow : depth_of nodes ≤ 14
  pub free : 2 * depth_of nodes + 3 ≤ free_nodes nodes

-- what an insertion takes: at most one node for each level, and one for a new root
pub record TakesFewNodes (old new : Store) : Type 0 where
  pub most : free_nodes old ≤ free_nodes new + depth_of old + 1
  pub same : depth_of new ≡ depth_of old → free_nodes old ≤ free_nodes new + depth_of old
  pub least_depth : depth_of old ≤ depth_of new
  pub most_depth : depth_of new ≤ depth_of old + 1

-- no node of the free ones is taken, and no level is added
pub record TakesNoNodes (old new : Store) : Type 0 where
  pub free : free_nodes old ≤ free_nodes new
  pub depth : depth_of new ≤ depth_of old
