-- What is told of the noted blocks is told of their source, and what was noted failed there.
use Rattle.std.proofs.Common.{ℕ, subst, sym}
use Rattle.hfs_image.specs.Failing.{SomeFailsWithin}
use Rattle.hfs_image.proofs.Failing.{within_fails}
use Rattle.hfs_image.proofs.seen.files.file_noted.Goals as goal

pub returns-in-Ok-clause-found : goal.returns-in-Ok-clause-found
returns-in-Ok-clause-found g c = λ image h.
    c.in-Ok.ensures.found image (subst (λ s. g.S.PlacedBlocks.Holds s image) c.into_source-source.ensures.source h)

pub returns-in-Err-clause-failed : goal.returns-in-Err-clause-failed
returns-in-Err-clause-failed g c = λ told.
    within_fails (g.S.PlacedBlocks.Holds c.args.source.blocks) g.K.PickedFailures.fails c.args.len c.requires.seen.long
    (subst (λ (n : ℕ). SomeFailsWithin n g.K.PickedFailures.fails) (sym c.requires.len)
    (c.into_source-source.ensures.failed (c.noted_fault.ensures told)))
