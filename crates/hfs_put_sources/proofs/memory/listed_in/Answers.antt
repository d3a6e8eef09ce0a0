-- Node by node.
use Rattle.std.proofs.Common.{◌∙◌, sym, ap, List, ◌++◌, ◌+◌, drop, append_assoc, arith}
use Rattle.std.proofs.lemmas.List.{append-nil, at_drop_all, at_drop_more}
use Rattle.hfs_put_sources.specs.Nodes.{listed_in}
use Rattle.hfs_put_sources.specs.Trees.{Listed}
use Rattle.hfs_put_sources.proofs.memory.listed_in.Goals as goal

pub loop-node-preserved : goal.loop-node-preserved
loop-node-preserved c =
    let nodes = c.args.nodes.now in
    let place = c.loop-node.node-index in
    let left = listed_in c.args.folder.now (drop (place + 1) nodes) in
    ap (λ (l : List Listed). l ++ left) c.in_ok-list_node.ensures
    ∙ append_assoc c.loop-node.entries.items _ left
    ∙ ap (λ (l : List Listed). c.loop-node.entries.items ++ l) (sym (at_drop_more (listed_in c.args.folder.now) nodes place _ c.loop-node-test.true))
    ∙ c.loop-node.invariant

pub returns : goal.returns
returns c =
    let nodes = c.args.nodes.now in
    let place = c.loop-node.node-index in
    sym (append-nil c.loop-node.entries.items)
    ∙ ap (λ (l : List Listed). c.loop-node.entries.items ++ l) (sym (at_drop_all (listed_in c.args.folder.now) nodes place (omega (arith, c.loop-node-test.false))))
    ∙ c.loop-node.invariant
