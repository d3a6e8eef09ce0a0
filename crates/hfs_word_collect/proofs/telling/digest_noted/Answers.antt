-- What is told of the noted blocks is told of their source, and what was noted failed there.
use Rattle.std.proofs.Common.{◌≡◌, ℕ, true, rules, subst, sym}
use Rattle.hfs_bag.specs.Failing.{SomeFail}
use Rattle.hfs_image.specs.Failing.{SomeFailsWithin}
use Rattle.hfs_image.proofs.Failing.{within_fails}
use Rattle.hfs_source.specs.Images.{OfEach}
use Rattle.hfs_word_collect.proofs.FailingReads.{fault_means}
use Rattle.hfs_word_collect.proofs.telling.digest_noted.Goals as goal

pub returns-in-Err-clause-failed : goal.returns-in-Err-clause-failed
returns-in-Err-clause-failed g c =
    let held : OfEach (g.S.PlacedBlocks.Holds c.into_source-source.result.0.blocks) (g.S.PlacedBlocks.Holds c.args.source.blocks) = search rules in
    fault_means (c.into_source-source.result.1 ≡ true) (SomeFail (g.S.PlacedBlocks.Holds c.into_source-source.result.0.blocks) g.K.PickedFailures.fails) c.digest_fault.result
    (λ failed. within_fails (g.S.PlacedBlocks.Holds c.into_source-source.result.0.blocks) g.K.PickedFailures.fails c.args.len (λ image h. c.requires.long image (held image h))
    (subst (λ (n : ℕ). SomeFailsWithin n g.K.PickedFailures.fails) (sym c.requires.len) (c.into_source-source.ensures.failed failed)))
    c.digest_fault.ensures
