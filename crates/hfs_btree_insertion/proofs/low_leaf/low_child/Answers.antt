use Rattle.std.proofs.Common.{◌≡◌, ◌-◌, ℕ, List, [], ap, sym, subst, arith}
use Rattle.std.specs.Prelude.{true}
use Rattle.std.proofs.lemmas.List.Sums.{prefix_len-le-length}
use Rattle.hfs_fields.specs.Each.{Each}
use Rattle.hfs_fields.proofs.ElementLemmas.{each-at}
use Rattle.hfs_btree.specs.Tree.{records_of}
use Rattle.hfs_btree.specs.Search.{is_not_above, IsRisingFor}
use Rattle.hfs_btree_insertion.proofs.low_leaf.low_child.Goals as goal

pub record-requires : goal.record-requires
record-requires g c =
    let most = prefix_len-le-length (is_not_above g.K.Key c.args.key.now) c.in-Ok.node.records in
    let some = c.if-place-eq0.false in
    omega (arith, c.first_above-place.ensures, most, some)

pub child_of-requires : goal.child_of-requires
child_of-requires g c =
    let most = prefix_len-le-length (is_not_above g.K.Key c.args.key.now) c.in-Ok.node.records in
    let some = c.if-place-eq0.false in
    let E : List (List ℕ) → Type 0 = λ es. Each (λ e. g.K.Key.is_index e ≡ true) es in
    let same : records_of (Rattle.hfs_btree.specs.Node.node_of c.args.bytes.now) ≡ c.in-Ok.node.records = sym (ap records_of c.in-Ok.ensures.node) in
    let I : List ℕ → Type 0 = λ e. g.K.Key.is_index e ≡ true in
    subst I (sym c.record.ensures.bytes)
    (each-at I c.in-Ok.node.records (c.first_above-place.result - 1) [] (subst E same c.requires.index) (omega (arith, c.first_above-place.ensures, most, some)))

pub first_above-place-requires-clause-rising : goal.first_above-place-requires-clause-rising
first_above-place-requires-clause-rising g c =
    let R : List (List ℕ) → Type 0 = λ es. IsRisingFor g.K.Key c.args.key.now es in
    let same : records_of (Rattle.hfs_btree.specs.Node.node_of c.args.bytes.now) ≡ c.in-Ok.node.records = sym (ap records_of c.in-Ok.ensures.node) in
    subst R same c.requires.rising
