-- What was put lies within.
use Rattle.hfs_call_patches.proofs.bits.claim_over.Goals as goal

pub returns-clause-inside : goal.returns-clause-inside
returns-clause-inside g c = c.in_ok-claim_extents.ensures.within c.requires.inside
