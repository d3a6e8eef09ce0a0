use Rattle.std.proofs.Common.{◌-◌, ℕ, List, ◌++◌, length, replicate, sym, ap, ◌∙◌}
use Rattle.byteorder.specs.Endian.{big_bytes}
use Rattle.hfs_format.proofs.BitRowLemmas.{length-bit_row}
use Rattle.hfs_btree.specs.declared.kind.NodeKind.TheVariants.{Header}
use Rattle.hfs_format.specs.NewTrees.{descriptor, next_map_node, header_node, header_record, node_map}
use Rattle.hfs_format.proofs.Laid.{header-bytes}
use Rattle.hfs_format.proofs.tree_header.header_block.Goals as goal

-- the pieces as they are laid, one by one
pub returns : goal.returns
unfolding header_node
returns c =
    let tree = c.args.tree.now in
    let record_length = ap length (sym c.header_record.ensures.bytes) ∙ c.header_record.ensures.length in
    let map_length = length-bit_row (tree.nodes - tree.free_nodes) 0 256 in
    let first_bytes = c.descriptor-row.ensures.bytes ∙ ap (λ (forward : ℕ). descriptor forward 0 Header 0 3) c.next_map_node.ensures in
    let header = c.push_row.ensures.bytes ∙ (λ i. first_bytes i ++ c.header_record.ensures.bytes i) in
    let reserved = c.push_zeros.ensures.bytes ∙ ap (λ (bytes : List ℕ). bytes ++ replicate 128 0) header in
    let map = c.push_bits.ensures.bytes ∙ ap (λ (bytes : List ℕ). bytes ++ node_map tree 0 256) reserved in
    let free = c.push_u16.ensures.bytes ∙ ap (λ (bytes : List ℕ). bytes ++ big_bytes 2 504) map in
    let third = c.push_u16-2.ensures.bytes ∙ ap (λ (bytes : List ℕ). bytes ++ big_bytes 2 248) free in
    let second = c.push_u16-3.ensures.bytes ∙ ap (λ (bytes : List ℕ). bytes ++ big_bytes 2 120) third in
    let first = c.push_u16-4.ensures.bytes ∙ ap (λ (bytes : List ℕ). bytes ++ big_bytes 2 14) second in
    c.into_block.ensures ∙ first ∙ sym (header-bytes (next_map_node tree 0) (header_record tree) (node_map tree 0 256) record_length map_length)
