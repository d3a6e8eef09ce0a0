-- What was put lies within.
use Rattle.hfs_call_patches.proofs.bits.release_over.Goals as goal

pub returns-clause-inside : goal.returns-clause-inside
returns-clause-inside g c = c.in_ok-release_extents.ensures.within c.requires.inside
