use Rattle.std.proofs.Common.{ap, arith, ◌++◌, length, map, ℕ, List, inr}
use Rattle.hfs_btree.specs.Node.{node_of}
use Rattle.hfs_btree.specs.Tree.{pair_of, forward_of}
use Rattle.hfs_btree.specs.Walk.{pairs_along}
use Rattle.hfs_btree.proofs.walk.Walk.ended.Goals as goal

pub invariant_of-result : goal.invariant_of-result
invariant_of-result g c =
    record {
      structure = c.requires;
      at = inr (record { past = (let none = ap (λ (es : List (List ℕ)). length es) c.no_leaf.ensures.records in omega arith); last = c.no_leaf.ensures.forward });
    }

pub returns : goal.returns
returns g c =
    let nodes = g.N.Nodes.nodes c.args.nodes.now in
    ap (λ (es : List (List ℕ)). map (pair_of g.K.Key) es ++ pairs_along g.K.Key nodes 0 (forward_of (node_of c.no_leaf.result))) c.no_leaf.ensures.records
