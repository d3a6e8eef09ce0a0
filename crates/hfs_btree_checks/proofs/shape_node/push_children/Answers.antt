use Rattle.std.proofs.Common.{ℕ, List, [], ◌∷◌, ◌++◌, ap, ◌∙◌, map, take, arith}
use Rattle.hfs_btree_checks.proofs.ShapeLists.{all-at, map-take-more}
use Rattle.hfs_btree_checks.proofs.shape_node.push_children.Goals as goal

pub child_of-child-requires : goal.child_of-child-requires
child_of-child-requires g c =
    let len = c.len-i-end.ensures.count in
    rw c.record.ensures.bytes (all-at g.K.Key.is_index c.args.node.now.records c.loop-i.i [] c.requires (omega arith))

pub loop-i-preserved : goal.loop-i-preserved
loop-i-preserved g c =
    let len = c.len-i-end.ensures.count in
    c.in_ok-push.ensures.items
    ∙ ap (λ (ns : List ℕ). ns ++ c.child_of-child.result ∷ []) c.loop-i.invariant
    ∙ ap (λ (x : ℕ). (c.args.next.now.items ++ map g.K.Key.child (take c.loop-i.i c.args.node.now.records)) ++ x ∷ []) (c.child_of-child.ensures ∙ ap g.K.Key.child c.record.ensures.bytes)
    ∙ map-take-more g.K.Key.child c.args.next.now.items c.args.node.now.records c.loop-i.i [] (omega arith)
