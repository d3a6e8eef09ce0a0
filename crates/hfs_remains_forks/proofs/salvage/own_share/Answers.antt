use Rattle.std.proofs.Common.{None, length, slice_index_or, sym, ap, ◌∙◌}
use Rattle.hfs_remains.specs.TreeFiles.{FileBlocks}
use Rattle.hfs_remains_forks.proofs.OwnerLemmas.{within-there}
use Rattle.hfs_remains_forks.proofs.salvage.own_share.Goals as goal

pub add_owners-requires : goal.add_owners-requires
add_owners-requires c i b e =
    within-there c.args.trees.now.total c.args.trees.now.mdb.now c.in_ok-places.places.items (length c.args.owners.now) c.requires.all c.in_ok-places.ensures.there i b
    (ap (λ (l : FileBlocks). slice_index_or l i None) (sym c.deref.ensures.value) ∙ e)
