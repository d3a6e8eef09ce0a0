use Rattle.std.proofs.Common.{◌≡◌, List, ℕ, [], sym, subst, arith}
use Rattle.std.specs.Prelude.{true}
use Rattle.hfs_btree.specs.Node.{node_of}
use Rattle.hfs_fields.proofs.ElementLemmas.{each-at}
use Rattle.hfs_btree.specs.Tree.{records_of}
use Rattle.hfs_btree_removal.proofs.down.child_at.Goals as goal

pub child_of-requires : goal.child_of-requires
child_of-requires g c =
    let P : List ℕ → Type 0 = λ e. g.K.Key.is_index e ≡ true in
    subst P (sym c.in-Some.ensures.1) (each-at P (records_of (node_of c.args.bytes.now)) c.args.place [] c.requires.whole c.requires.within)

pub unreachable-requires : goal.unreachable-requires
unreachable-requires g c = let past = c.in-None.ensures in let lt = c.requires.within in omega arith
