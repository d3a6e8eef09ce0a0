-- What is given of a place is given of the range that was found there.
use Rattle.std.proofs.Common.{◌≡◌, ◌++◌, ◌∙◌, ap, subst, length, sym}
use Rattle.hfs_fields.proofs.OutcomeLemmas.{on_err}
use Rattle.hfs_source.specs.Ranges.{bytes_in}
use Rattle.hfs_bag.specs.Parts.{content_of, LiesIn}
use Rattle.hfs_source.specs.declared.ranges.ByteRange.{ByteRange}
use Rattle.hfs_database.specs.Taken.{IsBeginning}
use Rattle.hfs_word_collect.specs.declared.places.VolumePlace.{VolumePlace}
use Rattle.hfs_word_collect.specs.Counts.{lying, volume_counts}
use Rattle.hfs_word_collect.specs.Volumes.{range_rows, volume_rows}
use Rattle.hfs_word_collect.proofs.FailingReads.{picked_handed_on}
use Rattle.hfs_word_collect.proofs.giving_volumes.give_range.Goals as goal

pub returns-in_err-counts-clause-part : goal.returns-in_err-counts-clause-part
returns-in_err-counts-clause-part g c =
    let image = g.K.PickedImage.image in
    let content = content_of c.args.layout image in
    let old = g.T.RowTaker.given c.args.taker.now in
    let new = g.T.RowTaker.given c.give_volume.new.taker in
    let part : g.F.ImageFile.Holds c.give_volume.new.file image → IsBeginning new (old ++ range_rows c.args.taken c.args.volume.others c.args.volume.number c.args.volume.found content) =
    λ h. subst (λ (p : VolumePlace). IsBeginning new (old ++ volume_rows c.args.taken p (bytes_in p.range content))) (c.in_ok-place.ensures.place (c.in_err-counts.ensures.held image h))
    (c.in_err-counts.ensures.part h) in
    on_err _ _ part

pub returns-clause-whole : goal.returns-clause-whole
returns-clause-whole g c = λ h.
    let image = g.K.PickedImage.image in
    let content = content_of c.args.layout image in
    let old = g.T.RowTaker.given c.args.taker.now in
    let new = g.T.RowTaker.given c.give_volume.new.taker in
    subst (λ (p : VolumePlace). new ≡ old ++ volume_rows c.args.taken p (bytes_in p.range content)) (c.in_ok-place.ensures.place (c.in_ok-counts.ensures.held image h)) (c.in_ok-counts.ensures.whole h)

pub returns-clause-counted : goal.returns-clause-counted
returns-clause-counted g c = λ h.
    let image = g.K.PickedImage.image in
    let content = content_of c.args.layout image in
    subst (λ (p : VolumePlace). c.lying.result ≡ lying p.way (volume_counts (bytes_in p.range content))) (c.in_ok-place.ensures.place (c.in_ok-counts.ensures.held image h))
    (c.lying.ensures ∙ ap (lying c.in_ok-place.place.way) (c.in_ok-counts.ensures.counted h))

pub returns-in_err-counts-clause-failed : goal.returns-in_err-counts-clause-failed
returns-in_err-counts-clause-failed g c =
    let image = g.K.PickedImage.image in
    let content = content_of c.args.layout image in
    let Holds = g.F.ImageFile.Holds c.give_volume.new.file image in
    picked_handed_on (Holds × LiesIn c.args.volume.found.range content) (Holds × LiesIn c.in_ok-place.place.range content) (length image) (g.F.ImageFile.Fails c.place_in.new.file) (g.F.ImageFile.Fails c.args.file.now)
    c.from_residual-in_err-counts.result c.in_err-counts.field-0.0 (λ h. (h.0, subst (λ (range : ByteRange). LiesIn range content) (sym c.in_ok-place.ensures.range) h.1)) c.in_ok-place.ensures.later c.from_residual-in_err-counts.ensures.1
    c.in_err-counts.ensures.failed
