-- Each image that holds at the end held before, and so has as many bytes as were told.
use Rattle.std.proofs.Common.{ℕ, rules, subst, sym}
use Rattle.hfs_source.specs.Images.{OfEach}
use Rattle.hfs_image.specs.Failing.{SomeFailsWithin}
use Rattle.hfs_image.proofs.Failing.{within_fails}
use Rattle.hfs_image.proofs.told_report.report_picked.Goals as goal

pub returns-in-Ok-clause-report : goal.returns-in-Ok-clause-report
returns-in-Ok-clause-report g c =
    let held : OfEach (g.S.PlacedBlocks.Holds c.into_source-source.result.0.blocks) (g.S.PlacedBlocks.Holds c.args.source.blocks) = search rules in
    λ image h.
    c.in-Ok.ensures.each image (subst (λ s. g.S.PlacedBlocks.Holds s image) c.into_source-source.ensures.source h) (c.requires.long image (held image h))

pub returns-in-Err-clause-failed : goal.returns-in-Err-clause-failed
returns-in-Err-clause-failed g c = λ told.
    within_fails (g.S.PlacedBlocks.Holds c.args.source.blocks) g.K.PickedFailures.fails c.args.len c.requires.long
    (subst (λ (n : ℕ). SomeFailsWithin n g.K.PickedFailures.fails) (sym c.requires.len) (c.into_source-source.ensures.failed (c.noted_fault.ensures told)))
