-- What was found of the noted blocks is found of their source, and what was noted failed there.
use Rattle.std.proofs.Common.{ℕ, subst, sym}
use Rattle.hfs_image.specs.Failing.{SomeFailsWithin}
use Rattle.hfs_remains_forks.specs.Looks.{AreFindsOfEach}
use Rattle.hfs_remains_forks.proofs.again.find_picked.Goals as goal

pub returns-in-Ok-clause-found : goal.returns-in-Ok-clause-found
returns-in-Ok-clause-found g c =
    subst (λ s. AreFindsOfEach (g.S.PlacedBlocks.Holds s) c.args.len c.in-Ok.found) (sym c.into_source-source.ensures.source) c.in-Ok.ensures.found

pub returns-in-Err-clause-failed : goal.returns-in-Err-clause-failed
returns-in-Err-clause-failed g c = λ told.
    subst (λ (n : ℕ). SomeFailsWithin n g.K.PickedFailures.fails) (sym c.requires.len)
    (c.into_source-source.ensures.failed (c.noted_fault-fault.ensures told))
