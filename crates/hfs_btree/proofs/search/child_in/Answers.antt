use Rattle.std.proofs.Common.{length, arith, ap}
use Rattle.std.proofs.lemmas.List.Sums.{prefix_len-le-length}
use Rattle.hfs_btree.specs.Tree.{records_of}
use Rattle.hfs_btree.specs.Search.{is_not_above}
use Rattle.hfs_btree.proofs.search.child_in.Goals as goal

pub record-requires : goal.record-requires
record-requires g c =
    let same = ap (λ r. length (records_of r)) c.in-Ok.ensures.node in
    let most = prefix_len-le-length (is_not_above g.K.Key c.args.key.now) c.in-Ok.node.records in
    let some = c.requires.some in
    omega (arith, c.place_above-place.ensures, c.saturating_sub.ensures)
