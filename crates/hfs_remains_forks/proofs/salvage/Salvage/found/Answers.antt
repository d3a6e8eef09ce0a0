use Rattle.std.proofs.Common.{subst}
use Rattle.hfs_space.specs.Extents.{Overflow}
use Rattle.hfs_remains_forks.specs.declared.shares.Share.{Share}
use Rattle.hfs_remains_forks.specs.Verdicts.{Salvaged, IsFound, used_for}
use Rattle.hfs_remains_forks.proofs.salvage.Salvage.found.Goals as goal

pub returns : goal.returns
returns c =
    let s = c.args.self.now in
    let inside = c.self.inside.trees in
    let used = used_for s c.args.file.now in
    let share = c.share_of-share.result.now in
    let found = c.in_ok-found.found in
    subst (λ (x : Share). IsFound s.trees.total s.trees.overflow.now s.trees.mdb.now used x found) c.share_of-share.ensures
    (subst (λ (x : Salvaged). IsFound x.trees.total x.trees.overflow.now x.trees.mdb.now used share found) c.self.view_is
    (subst (λ (records : Overflow). IsFound inside.total records inside.mdb.now used share found) c.self.invariant.chains_are
    (c.in_ok-found.ensures used c.owners_for-owners.ensures.owners)))
