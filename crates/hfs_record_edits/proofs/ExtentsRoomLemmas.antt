-- How many nodes a tree has for records that come, by what its header says.
use Rattle.std.proofs.Common.{◌≡◌, ℕ, length, ap, ◌∙◌, arith}
use Rattle.hfs_btree.specs.declared.header.Header.{Header}
use Rattle.hfs_btree.specs.Tree.{Store}
use Rattle.hfs_btree.specs.Header.{header_in, depth_of, free_nodes}
use Rattle.hfs_space.specs.TreeKeys.{IsExtentsTree, overflow_of}
use Rattle.hfs_record_edits.specs.Need.{extents_need, HasNodesFor}
use Rattle.hfs_record_edits.specs.Whole.{HasSameRoom}

module _ (nodes : Store) (sound : IsExtentsTree nodes) (h : Header) (is : h ≡ header_in nodes) where
  pub need-is : (n : ℕ) → extents_need n h.depth h.records ≡ extents_need n (depth_of nodes) (length (overflow_of nodes))
  need-is n = (λ i. extents_need n (is i).depth (is i).records) ∙ ap (λ (r : ℕ). extents_need n (depth_of nodes) r) sound.counts.records

  pub free-is : h.free_nodes ≡ free_nodes nodes
  free-is = ap (λ (x : Header). x.free_nodes) is ∙ sound.counts.free

  pub depth-is : h.depth ≡ depth_of nodes
  depth-is = ap (λ (x : Header). x.depth) is

-- the same room has as many nodes for them
pub same-nodes : (n : ℕ) (old new : Store) → HasSameRoom old new → HasNodesFor n old → HasNodesFor n new
same-nodes n old new room enough =
    let need : extents_need n (depth_of new) (length (overflow_of new)) ≡ extents_need n (depth_of old) (length (overflow_of old)) = λ i. extents_need n (room.depth i) (room.count i) in
    let free = room.free in
    omega (arith, need, free, enough)
