-- What is told of the noted bytes is told of their source, and what was noted failed there.
use Rattle.std.proofs.Common.{ℕ, rules, subst, sym}
use Rattle.hfs_image.specs.Failing.{SomeFailsWithin}
use Rattle.hfs_image.proofs.Failing.{within_fails}
use Rattle.hfs_source.specs.Images.{OfEach}
use Rattle.hfs_word_collect.proofs.noted.sum_noted.Goals as goal

pub returns-in-Ok-clause-told : goal.returns-in-Ok-clause-told
returns-in-Ok-clause-told g c = λ image h.
    c.in-Ok.ensures.told image (subst (λ s. g.S.PlacedBytes.Holds s image) c.into_source-source.ensures.source h)

pub returns-in-Err-clause-failed : goal.returns-in-Err-clause-failed
returns-in-Err-clause-failed g c =
    let held : OfEach (g.S.PlacedBytes.Holds c.into_source-source.result.0) (g.S.PlacedBytes.Holds c.args.source) = search rules in
    λ told.
    within_fails (g.S.PlacedBytes.Holds c.into_source-source.result.0) g.P.PickedFailures.fails c.args.len (λ image h. c.requires.long image (held image h))
    (subst (λ (n : ℕ). SomeFailsWithin n g.P.PickedFailures.fails) (sym c.requires.len)
    (c.into_source-source.ensures.failed (c.noted_fault.ensures told)))
