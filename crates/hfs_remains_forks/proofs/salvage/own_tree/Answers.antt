use Rattle.std.proofs.Common.{length}
use Rattle.hfs_remains_forks.proofs.OwnerLemmas.{within-there, taken-at}
use Rattle.hfs_remains_forks.proofs.salvage.own_tree.Goals as goal

pub add_owners-requires : goal.add_owners-requires
add_owners-requires c i b e =
    within-there c.args.trees.now.total c.args.trees.now.mdb.now c.args.file.now (length c.args.owners.now) c.requires.all c.requires.there i b (taken-at c.args.file.now c.min-count.result i b e)
