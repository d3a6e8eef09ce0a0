use Rattle.std.proofs.Common.{arith}
use Rattle.std.proofs.lemmas.List.{length-map}
use Rattle.hfs_btree.specs.Node.{node_of}
use Rattle.hfs_btree.specs.Tree.{records_of, pair_of, pairs_of}
use Rattle.hfs_btree_insertion.proofs.PlaceBehind.{all-below}
use Rattle.hfs_btree_insertion.proofs.leaf_begin.is_below.Goals as goal

pub returns-clause-above : goal.returns-clause-above
returns-clause-above g c = λ _.
    (let count = c.count_in.ensures in
    let len = length-map (records_of (node_of c.args.bytes.now)) (pair_of g.K.Key) in
    let most = c.if-place_in-count_in.false in
    all-below g.K.Key c.args.key.now g.met.K.Key.total (pairs_of g.K.Key c.args.bytes.now) c.place_in.result (omega (arith, count, len, most)) c.place_in.ensures.from)
