-- What is told of the noted blocks is told of their source, and what was noted failed there.
use Rattle.std.proofs.Common.{◌≡◌, ℕ, true, refl, subst, sym}
use Rattle.std.proofs.lemmas.Result.{IfErr-at_err}
use Rattle.hfs_source.specs.declared.writing.CopyFault.TheVariants.{BrokenOff, ReadFailed}
use Rattle.hfs_image.specs.Failing.{SomeFailsWithin}
use Rattle.hfs_image.specs.SeenFiles.{IsReadOfEach}
use Rattle.hfs_image.proofs.Failing.{within_fails}
use Rattle.hfs_image.proofs.SeenFiles.{read_of_each}
use Rattle.hfs_image.proofs.seen.files.write_noted.Goals as goal

pub returns-in-Ok-clause-written : goal.returns-in-Ok-clause-written
returns-in-Ok-clause-written g c =
    let seen = read_of_each (g.S.PlacedBlocks.Holds c.args.source.blocks) c.args.len c.args.volume.now c.requires.seen in
    λ image h.
    c.in-Ok.ensures.each (subst (λ s. IsReadOfEach (g.S.PlacedBlocks.Holds s) c.args.volume.now) (sym c.new-noted.ensures) seen) image (subst (λ s. g.S.PlacedBlocks.Holds s image) c.into_source-source.ensures.source h)

pub returns-in-Err-clause-part : goal.returns-in-Err-clause-part
returns-in-Err-clause-part g c =
    let seen = read_of_each (g.S.PlacedBlocks.Holds c.args.source.blocks) c.args.len c.args.volume.now c.requires.seen in
    λ image h.
    c.in-Err.ensures.each_part (subst (λ s. IsReadOfEach (g.S.PlacedBlocks.Holds s) c.args.volume.now) (sym c.new-noted.ensures) seen) image (subst (λ s. g.S.PlacedBlocks.Holds s image) c.into_source-source.ensures.source h)

pub returns-in-Err-clause-failed : goal.returns-in-Err-clause-failed
returns-in-Err-clause-failed g c = λ told.
    within_fails (g.S.PlacedBlocks.Holds c.args.source.blocks) g.K.PickedFailures.fails c.args.len c.requires.seen.long
    (subst (λ (n : ℕ). SomeFailsWithin n g.K.PickedFailures.fails) (sym c.requires.len)
    (c.into_source-source.ensures.failed
    (IfErr-at_err (λ why. why ≡ ReadFailed → c.into_source-source.result.1 ≡ true) told c.noted_copy.ensures.read refl)))

pub returns-in-Err-clause-broken : goal.returns-in-Err-clause-broken
returns-in-Err-clause-broken g c = λ told.
    within_fails (g.S.PlacedBlocks.Holds c.args.source.blocks) g.K.PickedFailures.fails c.args.len c.requires.seen.long
    (subst (λ (n : ℕ). SomeFailsWithin n g.K.PickedFailures.fails) (sym c.requires.len)
    (c.into_source-source.ensures.failed
    (IfErr-at_err (λ why. why ≡ BrokenOff → c.into_source-source.result.1 ≡ true) told c.noted_copy.ensures.broken refl)))
