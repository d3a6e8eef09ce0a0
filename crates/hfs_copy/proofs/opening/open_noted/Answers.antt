-- What is refused is refused, and what is told of a read was noted.
use Rattle.std.proofs.Common.{◌≡◌, ℕ, Some, subst, sym}
use Rattle.hfs_check.specs.Faults.{fault_of}
use Rattle.hfs_image.specs.Failing.{SomeFailsWithin}
use Rattle.hfs_image.specs.Known.{OfKnown}
use Rattle.hfs_copy.proofs.opening.open_noted.Goals as goal

pub returns-in-Ok-clause-seen : goal.returns-in-Ok-clause-seen
returns-in-Ok-clause-seen g c = λ image h. c.in-Ok.ensures.seen image (subst (λ s. g.S.BlockSource.Holds s image) c.into_source-source.ensures.source h)

pub returns-in-Ok-clause-narrows : goal.returns-in-Ok-clause-narrows
returns-in-Ok-clause-narrows g c = λ image h.
    subst (λ s. g.S.BlockSource.Holds s image) c.new-noted.ensures
    (c.in-Ok.ensures.narrows image (subst (λ s. g.S.BlockSource.Holds s image) c.into_source-source.ensures.source h))

pub returns-in-Err-clause-refused : goal.returns-in-Err-clause-refused
returns-in-Err-clause-refused g c = λ why e.
    subst (λ s. OfKnown (g.S.BlockSource.image s) c.args.len (λ bytes. fault_of bytes ≡ Some why)) c.new-noted.ensures
    (c.in-Err.ensures.refused why (c.noted.ensures.refused why e))

pub returns-in-Err-clause-each_refused : goal.returns-in-Err-clause-each_refused
returns-in-Err-clause-each_refused g c = λ image h why e.
    c.in-Err.ensures.each_refused image (subst (λ s. g.S.BlockSource.Holds s image) c.into_source-source.ensures.source h) why (c.noted.ensures.refused why e)

pub returns-in-Err-clause-failed : goal.returns-in-Err-clause-failed
returns-in-Err-clause-failed g c = λ told.
    subst (λ (n : ℕ). SomeFailsWithin n g.K.PickedFailures.fails) (sym c.requires.len) (c.into_source-source.ensures.failed (c.noted.ensures.read told))
