use Rattle.std.proofs.Common.{◌∙◌}
use Rattle.hfs_btree.proofs.Runs.{number-within, node-is, within-all}
use Rattle.hfs_btree.proofs.run_nodes.RunNodesNodes.read.Goals as goal

pub block_of-requires-clause-within : goal.block_of-requires-clause-within
block_of-requires-clause-within g c =
    let self = c.args.self.now in
    number-within (g.B.Blocks.blocks self.blocks.now) self.runs.now c.args.n c.requires

pub block_of-requires-clause-small : goal.block_of-requires-clause-small
block_of-requires-clause-small g c =
    let self = c.args.self.now in
    within-all self.runs.now (g.B.Blocks.total self.blocks.now) self.within (g.met.B.Blocks.few self.blocks.now)

pub block-requires : goal.block-requires
block-requires g c =
    let self = c.args.self.now in
    c.block_of.ensures.inside (g.B.Blocks.total self.blocks.now) self.within

pub returns : goal.returns
returns g c =
    let self = c.args.self.now in
    c.block.ensures ∙ node-is (g.B.Blocks.blocks self.blocks.now) self.runs.now c.args.n c.block_of.result c.requires c.block_of.ensures.number
