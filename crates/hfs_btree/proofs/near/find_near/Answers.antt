-- What the last leaf has under the key, the tree has.
use Rattle.std.proofs.Common.{◌≡◌, ℕ, Vec, Global, refl, subst}
use Rattle.std.specs.Prelude.{true, Some, IfSome}
use Rattle.hfs_btree.specs.LeafPairs.{leaf_body}
use Rattle.hfs_btree.specs.Search.{leaf_for}
use Rattle.hfs_btree.proofs.FoundLemmas.{found-entries, near-body}
use Rattle.hfs_btree.proofs.near.find_near.Goals as goal

pub find_in_last-requires : goal.find_in_last-requires
find_in_last-requires g c = λ read.
    let nodes = g.N.Nodes.nodes c.args.nodes.now in
    let other = c.requires.last.other read in
    found-entries g.K.Key g.met.K.Key.total nodes other.0 c.requires.sound (c.requires.last.some read) (leaf_for g.K.Key nodes other.0) refl c.args.last.now.bytes other.1

pub returns-in-Some-clause-found : goal.returns-in-Some-clause-found
returns-in-Some-clause-found g c =
    let nodes = g.N.Nodes.nodes c.args.nodes.now in
    let IsNear : Vec ℕ Global → Type 0 = λ body. (c.args.last.now.is_read ≡ true) × (Some body.items ≡ leaf_body g.K.Key c.args.last.now.bytes c.args.key.now) in
    let near = subst (λ o. IfSome o IsNear) c.in-Some.is c.in_ok-body.ensures in
    let other = c.requires.last.other near.0 in
    near-body g.K.Key g.met.K.Key.total nodes other.0 c.requires.sound (c.requires.last.some near.0) (leaf_for g.K.Key nodes other.0) refl c.args.last.now.bytes other.1 c.args.key.now _ near.1
