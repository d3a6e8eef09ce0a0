use Rattle.std.proofs.Common.{ap, ◌∙◌}
use Rattle.hfs_source.specs.Sparse.{sparse}
use Rattle.hfs_image.proofs.Gathered.{reads-block}
use Rattle.hfs_image.proofs.TreeNodes.{node-bytes}
use Rattle.hfs_image.proofs.tree_nodes.fetch_node.Goals as goal

pub returns-in_err-fetch-clause-reads : goal.returns-in_err-fetch-clause-reads
returns-in_err-fetch-clause-reads g c = λ total h.
    reads-block (g.S.BlockSource.image c.args.source.now) total c.args.read.now c.fetch.new.read c.block_of-place.result (c.block_of-place.ensures.inside total h)
    c.in_err-fetch.ensures.grown c.in_err-fetch.ensures.stays c.in_err-fetch.ensures.within

pub returns-clause-node : goal.returns-clause-node
returns-clause-node g c =
    node-bytes c.fetch.new.read c.args.runs.now c.args.n c.copy_block.new.into c.requires.within
    (c.copy_block.ensures ∙ ap (sparse c.fetch.new.read) c.block_of-place.ensures.number)

pub returns-clause-reads : goal.returns-clause-reads
returns-clause-reads g c = λ total h.
    reads-block (g.S.BlockSource.image c.args.source.now) total c.args.read.now c.fetch.new.read c.block_of-place.result (c.block_of-place.ensures.inside total h)
    c.in_ok-fetch.ensures.grown c.in_ok-fetch.ensures.stays c.in_ok-fetch.ensures.within
