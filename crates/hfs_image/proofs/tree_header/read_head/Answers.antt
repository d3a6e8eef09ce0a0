use Rattle.std.proofs.Common.{◌≡◌, Result, Ok, ap, ◌∙◌}
use Rattle.hfs_btree.specs.declared.fault.NodeFault.{NodeFault}
use Rattle.hfs_btree.specs.declared.node.Node.{Node}
use Rattle.hfs_btree.specs.Node.{node_of}
use Rattle.hfs_btree.specs.declared.header.Header as header
use Rattle.hfs_btree.specs.Tree.{forward_of}
use Rattle.hfs_btree.specs.Header.{header_of}
use Rattle.hfs_image.specs.TreeReads.{record_at}
use Rattle.hfs_image.proofs.TreeNodes.{header-small}
use Rattle.hfs_image.proofs.tree_header.read_head.Goals as goal

pub returns : goal.returns
returns g c =
    let is : Ok c.in-Ok.node ≡ node_of c.args.block.now = c.in-Ok.ensures.node in (
      header-small g.K.Key c.args.size c.in-Ok.node c.in-Some.header c.in-Some.ensures.0 c.in-Some.ensures.1,
      record {
        nodes = ap (λ (h : header.Header). h.nodes) c.in-Some.ensures.1 ∙ ap (λ (r : Result Node NodeFault). (header_of (record_at r 0)).nodes) is;
        first = c.forward.ensures ∙ ap forward_of is;
        map = c.in_ok-map.ensures.items ∙ c.record.ensures.bytes ∙ ap (λ (r : Result Node NodeFault). record_at r 2) is;
      },
    )
