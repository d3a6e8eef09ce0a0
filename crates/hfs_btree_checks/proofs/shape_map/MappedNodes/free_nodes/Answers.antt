use Rattle.std.proofs.Common.{ℕ, List, ap, sym, ◌∙◌, map}
use Rattle.std.specs.Prelude.{not}
use Rattle.std.specs.List.{count_by, range_with_len}
use Rattle.hfs_btree.specs.Header.{header_in, bit_of}
use Rattle.hfs_btree_checks.proofs.ShapeMarks.{free_nodes-here}
use Rattle.hfs_btree_checks.proofs.shape_map.MappedNodes.free_nodes.Goals as goal

pub returns : goal.returns
returns g c =
    let self = c.args.self.now in
    let nodes = g.N.Nodes.nodes self.nodes.now in
    c.clear_count.ensures
    ∙ ap (λ (bytes : List ℕ). count_by not (map (bit_of bytes) (range_with_len 0 self.count))) self.mapped
    ∙ ap (λ (n : ℕ). count_by not (map (bit_of (Rattle.hfs_btree.specs.Header.map_bytes nodes)) (range_with_len 0 n))) self.counted
    ∙ sym (free_nodes-here nodes)
