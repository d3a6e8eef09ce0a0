use Rattle.std.proofs.Common.{◌<◌, [], sym, ap, ◌∙◌, arith}
use Rattle.std.proofs.lemmas.List.FromFn.{get_or-map-range_with_len, length-map-range_with_len}
use Rattle.hfs_remains.specs.TreeFiles.{node_at}
use Rattle.hfs_remains.proofs.nodes.FirstNodesNodes.read.Goals as goal

pub returns : goal.returns
returns g c =
    let s = c.args.self.now in
    let node = node_at (g.B.Blocks.blocks s.nodes.now.blocks.now) s.nodes.now.mdb.now s.nodes.now.file.now in
    let within : c.args.n < s.count = omega (arith, length-map-range_with_len node 0 s.count) in
    c.read.ensures ∙ ap node c.from.ensures ∙ sym (get_or-map-range_with_len node 0 s.count c.args.n c.args.n [] within (omega arith))
