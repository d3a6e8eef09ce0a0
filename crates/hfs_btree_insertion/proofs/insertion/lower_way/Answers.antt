use Rattle.std.proofs.Common.{◌≡◌, [], IfSome, get_or, subst}
use Rattle.hfs_btree.proofs.FoundLemmas.{found-entries}
use Rattle.hfs_btree_insertion.specs.Room.{IsLowLeaf}
use Rattle.hfs_btree_insertion.proofs.LowLeaves.{leaf-found, low-lowered}
use Rattle.hfs_btree_insertion.proofs.PlaceBehind.{behind-leaf}
use Rattle.hfs_btree_insertion.proofs.insertion.lower_way.Goals as goal

pub is_below-requires-clause-leaf : goal.is_below-requires-clause-leaf
is_below-requires-clause-leaf g c =
    let old = g.S.Nodes.nodes c.args.nodes.now in
    let low = subst (λ o. IfSome o (IsLowLeaf g.K.Key old c.args.key.now)) c.in-Some.is c.requires.low in
    let read = subst (λ o. IfSome o (λ n. c.args.bytes.now ≡ get_or old n [])) c.in-Some.is c.requires.read in
    found-entries g.K.Key g.met.K.Key.total old c.args.key.now c.requires.sound c.requires.some c.in-Some._leaf (leaf-found g.K.Key old c.args.key.now c.in-Some._leaf low) c.args.bytes.now read

pub returns-clause-lowered : goal.returns-clause-lowered
returns-clause-lowered g c =
    let old = g.S.Nodes.nodes c.args.nodes.now in
    let low = subst (λ o. IfSome o (IsLowLeaf g.K.Key old c.args.key.now)) c.in-Some.is c.requires.low in
    low-lowered g.K.Key old c.args.key.now c.requires.sound c.in-Some._leaf low

pub returns-clause-last : goal.returns-clause-last
returns-clause-last g c = λ yes.
    (let old = g.S.Nodes.nodes c.args.nodes.now in
    let low = subst (λ o. IfSome o (IsLowLeaf g.K.Key old c.args.key.now)) c.in-Some.is c.requires.low in
    let read = subst (λ o. IfSome o (λ n. c.args.bytes.now ≡ get_or old n [])) c.in-Some.is c.requires.read in
    behind-leaf g.K.Key c.args.key.now old c.in-Some._leaf c.args.bytes.now read c.args.len (leaf-found g.K.Key old c.args.key.now c.in-Some._leaf low) (c.is_below.ensures.above yes) (c.is_below.ensures.full yes))
