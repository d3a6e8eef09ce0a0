use Rattle.std.proofs.Common.{sym, ◌∙◌}
use Rattle.std.specs.Prelude.{Ok}
use Rattle.hfs_btree.proofs.DecodedLemmas.{read-in}
use Rattle.hfs_btree_edits.proofs.DecodesLemmas.{decoded}
use Rattle.hfs_btree_edits.proofs.stored.viewed.Goals as goal

pub unreachable-requires : goal.unreachable-requires
unreachable-requires g c =
    let nodes = g.N.Nodes.nodes c.args.nodes.now in
    let node = decoded nodes c.args.n c.requires.decodes in
    c.in_default.not-Ok node.0 (read-in nodes c.args.n _ c.view.result c.requires.read c.view.ensures.node ∙ node.1)

pub returns-clause-node : goal.returns-clause-node
returns-clause-node g c =
    sym (read-in (g.N.Nodes.nodes c.args.nodes.now) c.args.n _ (Ok c.in-Ok.node) c.requires.read c.in-Ok.ensures.node)
