-- What was said of the image is said of what it is read from.
use Rattle.std.proofs.Common.{◌≡◌, Option, subst, sym}
use Rattle.std.specs.Prelude.{IfErr, IfOk, IfSome}
use Rattle.hfs_check.specs.Report.{report_of}
use Rattle.hfs_image.specs.Failing.{SomeFailsWithin}
use Rattle.hfs_image.specs.Seen.{HasNoFault, IsOpenedBy}
use Rattle.hfs_source.specs.Images.{HasLength, OfEach}
use Rattle.hfs_source.specs.declared.fetching.SparseFault.TheVariants.{ReadFailed}
use Rattle.hfs_remains_forks.specs.declared.finds.Finds.{Finds}
use Rattle.hfs_remains_forks.specs.Volumes.{AreFindsOfOpened}
use Rattle.hfs_remains_forks.proofs.LookLemmas.{looked_opened}
use Rattle.hfs_remains_forks.proofs.whole.find_sound.Goals as goal

pub returns-then-len-gt2147483648-clause-narrows : goal.returns-then-len-gt2147483648-clause-narrows
returns-then-len-gt2147483648-clause-narrows g c =
    subst (λ s. IfOk c.find_again.result (λ found. OfEach (g.S.PlacedBlocks.Holds found.source.blocks) (g.S.PlacedBlocks.Holds s)))
    c.into_source-source.ensures c.find_again.ensures.narrows

pub returns-then-len-gt2147483648-clause-back : goal.returns-then-len-gt2147483648-clause-back
returns-then-len-gt2147483648-clause-back g c =
    subst (λ s. IfErr c.find_again.result (λ back. OfEach (g.S.PlacedBlocks.Holds back.source.blocks) (g.S.PlacedBlocks.Holds s)))
    c.into_source-source.ensures c.find_again.ensures.back

pub returns-then-len-gt2147483648-clause-failed : goal.returns-then-len-gt2147483648-clause-failed
returns-then-len-gt2147483648-clause-failed g c =
    subst (λ s. IfErr c.find_again.result (λ back. back.fault ≡ ReadFailed → SomeFailsWithin c.args.len (g.S.PlacedBlocks.Fails s)))
    c.into_source-source.ensures c.find_again.ensures.failed

pub returns-in-Ok-Some-clause-looked : goal.returns-in-Ok-Some-clause-looked
returns-in-Ok-Some-clause-looked g c =
    let Holds = g.S.PlacedBlocks.Holds c.into_source-source.result.blocks in
    let own = sym c.into_source-source.ensures in
    let volume = c.volume.result.now in
    looked_opened Holds c.args.len c.args.report volume c.in-Ok-Some.finds
    (subst (λ s. OfEach (g.S.PlacedBlocks.Holds s) (HasLength c.args.len)) own c.requires.long)
    (subst (λ s. OfEach (g.S.PlacedBlocks.Holds s) (λ bytes. c.args.report ≡ report_of bytes)) own c.requires.report)
    (subst (λ s. OfEach (g.S.PlacedBlocks.Holds s) HasNoFault) own c.requires.sound)
    (subst (λ s. OfEach (g.S.PlacedBlocks.Holds s) (IsOpenedBy volume)) own c.volume.ensures.opened)
    (subst (λ (made : Option Finds). IfSome made (AreFindsOfOpened volume)) c.in-Ok-Some.field-0-is c.in-Ok-Some.ensures)

pub find_again-requires-clause-report : goal.find_again-requires-clause-report
find_again-requires-clause-report g c =
    subst (λ s. OfEach (g.S.PlacedBlocks.Holds s) (λ bytes. c.args.report ≡ report_of bytes)) (sym c.into_source-source.ensures) c.requires.report

pub find_again-requires-clause-long : goal.find_again-requires-clause-long
find_again-requires-clause-long g c =
    subst (λ s. OfEach (g.S.PlacedBlocks.Holds s) (HasLength c.args.len)) (sym c.into_source-source.ensures) c.requires.long

pub returns-in-Ok-None-clause-failed : goal.returns-in-Ok-None-clause-failed
returns-in-Ok-None-clause-failed g c =
    subst (λ s. IfErr c.find_again-in-Ok-None.result (λ back. back.fault ≡ ReadFailed → SomeFailsWithin c.args.len (g.S.PlacedBlocks.Fails s)))
    c.into_source-source.ensures c.find_again-in-Ok-None.ensures.failed
