use Rattle.std.proofs.Common.{Result, refl, sym, subst}
use Rattle.hfs_btree.specs.declared.fault.NodeFault.{NodeFault}
use Rattle.hfs_btree.specs.declared.node.Node.{Node}
use Rattle.hfs_btree.specs.Node.{node_of}
use Rattle.hfs_btree_checks.proofs.ShapeNode.{decodes}
use Rattle.hfs_image.specs.TreeReads.{nodes_of, FindsHead}
use Rattle.hfs_image.proofs.tree_nodes.fetch_head.Goals as goal

pub returns-in-Ok-clause-found : goal.returns-in-Ok-clause-found
returns-in-Ok-clause-found g c =
    let block = c.fetch_node.new.into in
    subst (λ (r : Result Node NodeFault). FindsHead g.K.Key c.args.size r c.in-Ok.head)
    (sym (decodes (nodes_of c.fetch_node.new.read c.args.runs.now) 0 block (node_of block) c.in_ok-fetch_node.ensures.node refl)) c.in-Ok.ensures
