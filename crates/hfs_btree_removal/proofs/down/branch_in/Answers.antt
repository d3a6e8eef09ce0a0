use Rattle.std.proofs.Common.{◌≡◌, ℕ, List, [], length, ap, sym, subst, arith}
use Rattle.std.specs.Prelude.{true}
use Rattle.std.proofs.lemmas.List.Sums.{prefix_len-le-length}
use Rattle.hfs_btree.specs.Node.{node_of}
use Rattle.hfs_fields.specs.Each.{Each}
use Rattle.hfs_fields.proofs.ElementLemmas.{each-at}
use Rattle.hfs_btree.specs.Tree.{records_of}
use Rattle.hfs_btree.specs.Search.{is_not_above}
use Rattle.hfs_btree_removal.proofs.down.branch_in.Goals as goal

pub record-requires : goal.record-requires
record-requires g c =
    let same = ap (λ r. length (records_of r)) c.in-Ok.ensures.node in
    let most = prefix_len-le-length (is_not_above g.K.Key c.args.key.now) c.in-Ok.node.records in
    let some = c.requires.some in
    omega (arith, c.place_above.ensures, c.saturating_sub-place.ensures, same, most, some)

pub child_of-child-requires : goal.child_of-child-requires
child_of-child-requires g c =
    let count = ap (λ r. length (records_of r)) c.in-Ok.ensures.node in
    let most = prefix_len-le-length (is_not_above g.K.Key c.args.key.now) c.in-Ok.node.records in
    let some = c.requires.some in
    let E : List (List ℕ) → Type 0 = λ es. Each (λ e. g.K.Key.is_index e ≡ true) es in
    let same : records_of (node_of c.args.bytes.now) ≡ c.in-Ok.node.records = sym (ap records_of c.in-Ok.ensures.node) in
    let I : List ℕ → Type 0 = λ e. g.K.Key.is_index e ≡ true in
    subst I (sym c.record.ensures.bytes)
    (each-at I c.in-Ok.node.records c.saturating_sub-place.result [] (subst E same c.requires.whole) (omega (arith, c.place_above.ensures, c.saturating_sub-place.ensures, count, most, some)))
