use Rattle.std.proofs.Common.{◌-◌, ◌+◌, ◌*◌, ℕ, List, ◌++◌, replicate, sym, ap, ◌∙◌, arith}
use Rattle.byteorder.specs.Endian.{big_bytes}
use Rattle.hfs_btree.specs.declared.kind.NodeKind.TheVariants.{Map}
use Rattle.hfs_format.proofs.BitRowLemmas.{length-bit_row}
use Rattle.hfs_format.proofs.MapNodes.{few-map_nodes}
use Rattle.hfs_format.specs.NewTrees.{descriptor, next_map_node, map_node, node_map}
use Rattle.hfs_format.proofs.Laid.{map-bytes}
use Rattle.hfs_format.proofs.tree_header.map_block.Goals as goal

pub push_bits-requires-clause-few : goal.push_bits-requires-clause-few
push_bits-requires-clause-few c = let few = few-map_nodes c.args.tree.now.nodes c.requires.tree.few in omega (arith, c.requires.few)

-- the pieces as they are laid, one by one
pub returns : goal.returns
unfolding map_node
returns c =
    let tree = c.args.tree.now in
    let j = c.args.j in
    let from : ℕ = 256 + 492 * (j - 1) in
    let map_length = length-bit_row (tree.nodes - tree.free_nodes) from 492 in
    let first_bytes = c.descriptor-row.ensures.bytes ∙ ap (λ (forward : ℕ). descriptor forward (j - 1) Map 0 1) c.next_map_node.ensures in
    let map = c.push_bits.ensures.bytes ∙ ap (λ (bytes : List ℕ). bytes ++ node_map tree from 492) first_bytes in
    let zeros = c.push_zeros.ensures.bytes ∙ ap (λ (bytes : List ℕ). bytes ++ replicate 2 0) map in
    let free = c.push_u16.ensures.bytes ∙ ap (λ (bytes : List ℕ). bytes ++ big_bytes 2 506) zeros in
    let first = c.push_u16-2.ensures.bytes ∙ ap (λ (bytes : List ℕ). bytes ++ big_bytes 2 14) free in
    c.into_block.ensures ∙ first ∙ sym (map-bytes (next_map_node tree j) (j - 1) (node_map tree from 492) map_length)
