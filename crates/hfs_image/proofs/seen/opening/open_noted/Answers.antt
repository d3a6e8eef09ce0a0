-- Each image that holds at the end held before, and so has as many bytes as were told.
use Rattle.std.proofs.Common.{ℕ, rules, subst, sym}
use Rattle.hfs_source.specs.Images.{OfEach}
use Rattle.hfs_source.specs.Seen.{IsSeen}
use Rattle.hfs_image.specs.Failing.{SomeFailsWithin}
use Rattle.hfs_image.proofs.Failing.{within_fails}
use Rattle.hfs_image.proofs.seen.opening.open_noted.Goals as goal

pub invariant_of-result : goal.invariant_of-result
invariant_of-result g c =
    let held : OfEach (g.S.PlacedBlocks.Holds c.into_source-source.result.0.blocks) (g.S.PlacedBlocks.Holds c.args.source.blocks) = search rules in
    record {
      opened = c.in-Ok.ensures.opened;
      seen = subst (λ s. IsSeen (g.S.PlacedBlocks.Holds s) c.in-Ok.volume.read) (sym c.into_source-source.ensures.source) c.in-Ok.ensures.seen;
      long = λ image h. c.requires.long image (held image h);
    }

pub returns-in-Err-clause-refused : goal.returns-in-Err-clause-refused
returns-in-Err-clause-refused g c =
    let held : OfEach (g.S.PlacedBlocks.Holds c.into_source-source.result.0.blocks) (g.S.PlacedBlocks.Holds c.args.source.blocks) = search rules in
    λ image h why e.
    c.in-Err.ensures.each_refused image (subst (λ s. g.S.PlacedBlocks.Holds s image) c.into_source-source.ensures.source h) why
    (c.noted-fault.ensures.refused why e) (c.requires.long image (held image h))

pub returns-in-Err-clause-failed : goal.returns-in-Err-clause-failed
returns-in-Err-clause-failed g c = λ told.
    within_fails (g.S.PlacedBlocks.Holds c.args.source.blocks) g.K.PickedFailures.fails c.args.len c.requires.long
    (subst (λ (n : ℕ). SomeFailsWithin n g.K.PickedFailures.fails) (sym c.requires.len) (c.into_source-source.ensures.failed (c.noted-fault.ensures.read told)))
