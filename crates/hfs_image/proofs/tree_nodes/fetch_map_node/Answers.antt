use Rattle.std.proofs.Common.{ℕ, ◌++◌, List, Ok, Err, sym, ap, ◌∙◌}
use Rattle.hfs_btree_checks.specs.Shape.{is_map_result}
use Rattle.hfs_btree_checks.proofs.ShapeNode.{decodes}
use Rattle.hfs_btree_checks.proofs.ShapeChain.{forward-of, part-of}
use Rattle.hfs_image.specs.TreeReads.{nodes_of}
use Rattle.hfs_image.proofs.tree_nodes.fetch_map_node.Goals as goal

pub returns-in_default-clause-found : goal.returns-in_default-clause-found
returns-in_default-clause-found g c =
    ap is_map_result
    (decodes (nodes_of c.fetch_node.new.read c.args.runs.now) c.args.n c.fetch_node.new.into (Err c.in_default.field-0) c.in_ok-fetch_node.ensures.node c.in_default.ensures.node)

pub returns-then-not-is_map-clause-found : goal.returns-then-not-is_map-clause-found
returns-then-not-is_map-clause-found g c =
    ap is_map_result
    (decodes (nodes_of c.fetch_node.new.read c.args.runs.now) c.args.n c.fetch_node.new.into (Ok c.in-Ok.node) c.in_ok-fetch_node.ensures.node c.in-Ok.ensures.node)
    ∙ sym c.is_map.ensures ∙ c.if-not-is_map.true

pub returns-clause-found : goal.returns-clause-found
returns-clause-found g c =
    let nodes = nodes_of c.fetch_node.new.read c.args.runs.now in
    let is = decodes nodes c.args.n c.fetch_node.new.into (Ok c.in-Ok.node) c.in_ok-fetch_node.ensures.node c.in-Ok.ensures.node in
    record {
      right = ap is_map_result is ∙ sym c.is_map.ensures ∙ c.if-not-is_map.false;
      forward = c.forward.ensures ∙ forward-of nodes c.args.n c.in-Ok.node is;
      part = c.in-Ok-extend_from_slice.ensures.items
          ∙ ap (λ (bytes : List ℕ). c.args.map.now.items ++ bytes) (c.record.ensures.bytes ∙ part-of nodes c.args.n c.in-Ok.node is);
    }
