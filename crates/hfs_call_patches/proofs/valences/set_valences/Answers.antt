-- The second folder's record stands as it did where the first one's was set.
use Rattle.hfs_call_patches.proofs.BothSet.{dir_there, after_first, second_dir, both_set}
use Rattle.hfs_record_edits.proofs.Standing.{stands_still}
use Rattle.hfs_call_patches.proofs.valences.set_valences.Goals as goal

pub set_valence-requires-clause-there : goal.set_valence-requires-clause-there
set_valence-requires-clause-there g c =
    let stand = c.requires.stand in
    dir_there _ c.requires.tree stand.first stand.both.first c.args.left.now.key stand.first_key stand.first_dir

pub set_valence-requires-2-clause-tree : goal.set_valence-requires-2-clause-tree
set_valence-requires-2-clause-tree g c =
    after_first stands_still _ _ c.requires.tree c.args.left.now c.args.entered.now c.args.now c.in_ok-set_valence.ensures.set c.requires.stand

pub set_valence-requires-2-clause-there : goal.set_valence-requires-2-clause-there
set_valence-requires-2-clause-there g c =
    second_dir stands_still _ _ c.requires.tree c.args.left.now c.args.entered.now c.args.now c.in_ok-set_valence.ensures.set c.requires.stand

pub returns-clause-set : goal.returns-clause-set
returns-clause-set g c =
    both_set stands_still _ _ c.requires.tree c.args.left.now c.args.entered.now c.args.now c.in_ok-set_valence.ensures.set c.requires.stand _ c.in_ok-set_valence-2.ensures.set
