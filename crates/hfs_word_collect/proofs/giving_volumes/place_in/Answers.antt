-- A range in its own bytes, of which each read that fails is one of the image's.
use Rattle.std.proofs.Common.{◌≡◌, ◌∙◌, Bool, List, ℕ, Option, ap, arith, drop, length, subst, sym}
use Rattle.std.proofs.lemmas.List.{take-take}
use Rattle.hfs_source.specs.declared.ranges.FoundRange.{FoundRange}
use Rattle.hfs_source.specs.Ranges.{bytes_in, range_of}
use Rattle.hfs_source.specs.Sums.{sum_told}
use Rattle.hfs_bag.specs.Parts.{LiesIn, content_of}
use Rattle.hfs_bag.specs.Failing.{SomeFailOf}
use Rattle.hfs_bag.proofs.Picking.{picked}
use Rattle.hfs_word_collect.specs.Faults.{IsFaultOf}
use Rattle.hfs_word_collect.specs.Volumes.{place_of}
use Rattle.hfs_word_collect.proofs.FailingReads.{fault_of_sparse, part_picked, too_large, unopened_fault}
use Rattle.hfs_word_collect.proofs.PartGiving.{looked_err, looked_ok}
use Rattle.hfs_word_collect.proofs.giving_volumes.place_in.Goals as goal

-- the sum of a range's own bytes is that of the range
own-sum : (found : FoundRange) (content : List ℕ) (sum : Option Bool) → sum ≡ sum_told found.container (bytes_in (range_of 0 found.range.len) (bytes_in found.range content))
    → sum ≡ sum_told found.container (bytes_in found.range content)
own-sum found content sum is = is ∙ ap (sum_told found.container) (take-take found.range.len found.range.len (drop found.range.start content) (omega arith))

pub returns-in-Ok-clause-place : goal.returns-in-Ok-clause-place
returns-in-Ok-clause-place g c = λ h.
    let image = g.K.PickedImage.image in
    let found = c.args.volume.found in
    let content = content_of c.args.layout image in
    let own = bytes_in found.range content in
    c.of.ensures
    ∙ ap (place_of c.args.volume.others c.args.volume.number found)
    (own-sum found content c.in-Ok.sum
    (subst (λ (f : FoundRange). c.in-Ok.sum ≡ sum_told f.container (bytes_in f.range own)) c.alone.ensures
    (picked g.S.PlacedBytes.Holds image own c.sum_of-part.result.0 (λ bytes. c.in-Ok.sum ≡ sum_told c.alone.result.container (bytes_in c.alone.result.range bytes))
    (subst (λ s. g.S.PlacedBytes.Holds s image) c.source.ensures (c.note.ensures.noted image h))
    (λ bytes is. c.in-Some.ensures.range bytes (c.sum_of-part.ensures.held bytes is)) (looked_ok _ _ _ c.in-Ok.is c.sum_of-part.ensures.told))))

pub returns-in_err-source-clause-failed : goal.returns-in_err-source-clause-failed
returns-in_err-source-clause-failed g c =
    let image = g.K.PickedImage.image in
    unopened_fault (g.F.ImageFile.Holds c.open.new.self image × LiesIn c.args.volume.found.range (content_of c.args.layout image)) (length image) (g.F.ImageFile.Fails c.args.file.now)
    c.from_residual.result c.in_err-source.field-0.0 c.in_err-source.ensures.failed c.from_residual.ensures.1

pub returns-in_default-clause-failed : goal.returns-in_default-clause-failed
returns-in_default-clause-failed g c =
    let image = g.K.PickedImage.image in
    too_large (g.F.ImageFile.Holds c.open.new.self image × LiesIn c.args.volume.found.range (content_of c.args.layout image)) c.args.layout image (g.F.ImageFile.Fails c.args.file.now)
    (λ h. c.in_default.ensures.none (c.in_ok-source.ensures.noted image h.0) h.1)

pub returns-clause-failed : goal.returns-clause-failed
returns-clause-failed g c =
    let image = g.K.PickedImage.image in
    let Has = g.F.ImageFile.Holds c.note.new.self image × LiesIn c.args.volume.found.range (content_of c.args.layout image) in
    let Fails = SomeFailOf Has (length image) (g.F.ImageFile.Fails c.args.file.now) in
    subst (IsFaultOf Fails) (sym c.from.ensures)
    (fault_of_sparse Fails c.in-Err.fault
    (λ told. part_picked g.S.PlacedBytes.Holds g.S.PlacedBytes.Fails image c.in-Some.part c.sum_of-part.result.0 c.in-Some.ensures.inside c.sum_of-part.ensures.held
    c.in_ok-source.source Has (g.F.ImageFile.Fails c.args.file.now) c.in-Some.ensures.source
    (λ h. subst (λ s. g.S.PlacedBytes.Holds s image) c.source.ensures (c.note.ensures.noted image h.0)) c.in_ok-source.ensures.fails
    (looked_err _ _ _ c.in-Err.is c.sum_of-part.ensures.failed told)))
