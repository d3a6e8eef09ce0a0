-- What the range was found to hold.
use Rattle.std.proofs.Common.{◌≡◌, ◌++◌, subst, length, sym}
use Rattle.hfs_fields.proofs.OutcomeLemmas.{on_err_then, on_ok, if_ok}
use Rattle.hfs_source.specs.Ranges.{bytes_in}
use Rattle.hfs_bag.specs.Parts.{IsPartOf, content_of}
use Rattle.hfs_database.specs.Taken.{IsBeginning}
use Rattle.hfs_source.specs.Images.{OfEach}
use Rattle.std.specs.Prelude.{Some}
use Rattle.hfs_word_collect.specs.declared.counts.ImageCounts.{ImageCounts}
use Rattle.hfs_word_collect.specs.Counts.{fault_counts, volume_counts}
use Rattle.hfs_word_collect.specs.Volumes.{fault_rows, volume_rows}
use Rattle.hfs_word_collect.proofs.PartGiving.{looked_err, looked_ok, refused_picked, refused_told, sound_picked, sound_told}
use Rattle.hfs_bag.specs.Failing.{SomeFailOf}
use Rattle.hfs_bag.specs.Parts.{LiesIn}
use Rattle.hfs_word_collect.proofs.FailingReads.{fault_by_sparse, fault_means, fault_told, part_picked, read_before, too_large}
use Rattle.hfs_word_collect.proofs.VolumeGiving.{opened_directory}
use Rattle.hfs_word_collect.proofs.giving_volumes.give_volume.Goals as goal

pub returns-in-Ok-given-clause-held : goal.returns-in-Ok-given-clause-held
returns-in-Ok-given-clause-held g c = λ file h. c.in_ok-source.ensures.held file (c.note_volume.ensures.held file h)

pub returns-in-Ok-clause-held : goal.returns-in-Ok-clause-held
returns-in-Ok-clause-held g c = λ file h. c.in_ok-source.ensures.held file (c.note_volume.ensures.held file h)

pub returns-in-Ok-given-clause-whole : goal.returns-in-Ok-given-clause-whole
returns-in-Ok-given-clause-whole g c = λ h.
    let image = g.K.PickedImage.image in
    let place = c.args.place.now in
    let wanted = bytes_in place.range (content_of c.args.layout image) in
    let old = g.T.RowTaker.given c.args.taker.now in
    let new = g.T.RowTaker.given c.give_sound-given.new.taker in
    let narrows = c.give_sound-given.ensures.narrows in
    sound_picked g.S.PlacedBytes.Holds image wanted c.give_sound-given.new.image.bytes (c.note_volume.ensures.noted image h)
    (λ bytes own. c.in-Some.ensures.range bytes ((looked_ok _ _ _ c.in-Ok.is c.in_ok-image.ensures.held) bytes (narrows bytes own))) c.args.taken place c.volume.result.now.sound.mdb (λ rows. new ≡ old ++ rows)
    (λ bytes own. (looked_ok _ _ _ c.in-Ok.is c.in_ok-image.ensures.sound) bytes (narrows bytes own)) (λ bytes own. opened_directory bytes c.volume.result.now (c.volume.ensures.opened bytes (narrows bytes own))) c.in-Ok-given.ensures.whole

pub returns-in-Ok-given-clause-counted : goal.returns-in-Ok-given-clause-counted
returns-in-Ok-given-clause-counted g c = λ h.
    let image = g.K.PickedImage.image in
    let place = c.args.place.now in
    let wanted = bytes_in place.range (content_of c.args.layout image) in
    let narrows = c.give_sound-given.ensures.narrows in
    sound_told g.S.PlacedBytes.Holds image wanted c.give_sound-given.new.image.bytes (c.note_volume.ensures.noted image h)
    (λ bytes own. c.in-Some.ensures.range bytes ((looked_ok _ _ _ c.in-Ok.is c.in_ok-image.ensures.held) bytes (narrows bytes own))) c.in-Ok-given.files c.sound.result
    (λ bytes own. (looked_ok _ _ _ c.in-Ok.is c.in_ok-image.ensures.sound) bytes (narrows bytes own)) c.in-Ok-given.ensures.counted c.sound.ensures

pub returns-in-Ok-clause-part : goal.returns-in-Ok-clause-part
returns-in-Ok-clause-part g c = λ h.
    let image = g.K.PickedImage.image in
    let place = c.args.place.now in
    let wanted = bytes_in place.range (content_of c.args.layout image) in
    let old = g.T.RowTaker.given c.args.taker.now in
    let new = g.T.RowTaker.given c.give_sound-given.new.taker in
    let narrows = c.give_sound-given.ensures.narrows in
    sound_picked g.S.PlacedBytes.Holds image wanted c.give_sound-given.new.image.bytes (c.note_volume.ensures.noted image h)
    (λ bytes own. c.in-Some.ensures.range bytes ((looked_ok _ _ _ c.in-Ok.is c.in_ok-image.ensures.held) bytes (narrows bytes own))) c.args.taken place c.volume.result.now.sound.mdb (λ rows. IsBeginning new (old ++ rows))
    (λ bytes own. (looked_ok _ _ _ c.in-Ok.is c.in_ok-image.ensures.sound) bytes (narrows bytes own)) (λ bytes own. opened_directory bytes c.volume.result.now (c.volume.ensures.opened bytes (narrows bytes own))) c.in-Err-given.ensures.part

pub returns-clause-whole : goal.returns-clause-whole
returns-clause-whole g c =
    let image = g.K.PickedImage.image in
    let place = c.args.place.now in
    let wanted = bytes_in place.range (content_of c.args.layout image) in
    let old = g.T.RowTaker.given c.args.taker.now in
    let new = g.T.RowTaker.given c.give_refused-given.new.taker in
    let part = c.give_refused-given.new.image.source.blocks.bytes in
    let narrows = c.give_refused-given.ensures.narrows in
    let why = c.in-Err.image.why in
    let step : OfEach (IsPartOf g.S.PlacedBytes.Holds image part) (λ bytes. new ≡ old ++ fault_rows c.args.taken place (Some why) bytes)
    → (g.F.ImageFile.Holds c.note.new.self image → new ≡ old ++ volume_rows c.args.taken place wanted) =
    λ given h. refused_picked g.S.PlacedBytes.Holds image wanted part (subst (λ s. g.S.PlacedBytes.Holds s image) c.source.ensures (c.note.ensures.noted image h))
    (λ bytes own. c.in-Some.ensures.range bytes ((looked_err _ _ _ c.in-Err.is c.in_ok-image.ensures.back) bytes (narrows bytes own))) c.args.taken place why (λ rows. new ≡ old ++ rows)
    (λ bytes own. (looked_err _ _ _ c.in-Err.is c.in_ok-image.ensures.refused).refused bytes (narrows bytes own)) given in
    on_ok _ _ _ step c.give_refused-given.ensures.whole

pub returns-clause-part : goal.returns-clause-part
returns-clause-part g c =
    let image = g.K.PickedImage.image in
    let place = c.args.place.now in
    let wanted = bytes_in place.range (content_of c.args.layout image) in
    let old = g.T.RowTaker.given c.args.taker.now in
    let new = g.T.RowTaker.given c.give_refused-given.new.taker in
    let part = c.give_refused-given.new.image.source.blocks.bytes in
    let narrows = c.give_refused-given.ensures.narrows in
    let why = c.in-Err.image.why in
    let step : OfEach (IsPartOf g.S.PlacedBytes.Holds image part) (λ bytes. IsBeginning new (old ++ fault_rows c.args.taken place (Some why) bytes))
    → (g.F.ImageFile.Holds c.note.new.self image → IsBeginning new (old ++ volume_rows c.args.taken place wanted)) =
    λ given h. refused_picked g.S.PlacedBytes.Holds image wanted part (subst (λ s. g.S.PlacedBytes.Holds s image) c.source.ensures (c.note.ensures.noted image h))
    (λ bytes own. c.in-Some.ensures.range bytes ((looked_err _ _ _ c.in-Err.is c.in_ok-image.ensures.back) bytes (narrows bytes own))) c.args.taken place why (λ rows. IsBeginning new (old ++ rows))
    (λ bytes own. (looked_err _ _ _ c.in-Err.is c.in_ok-image.ensures.refused).refused bytes (narrows bytes own)) given in
    on_err_then _ _ _ step c.give_refused-given.ensures.part

pub returns-clause-counted : goal.returns-clause-counted
returns-clause-counted g c =
    let image = g.K.PickedImage.image in
    let place = c.args.place.now in
    let wanted = bytes_in place.range (content_of c.args.layout image) in
    let part = c.give_refused-given.new.image.source.blocks.bytes in
    let narrows = c.give_refused-given.ensures.narrows in
    let step : (counts : ImageCounts) → OfEach (IsPartOf g.S.PlacedBytes.Holds image part) (λ bytes. counts ≡ fault_counts (Some c.in-Err.image.why) bytes)
    → (g.F.ImageFile.Holds c.note.new.self image → counts ≡ volume_counts wanted) =
    λ counts given h. refused_told g.S.PlacedBytes.Holds image wanted part (subst (λ s. g.S.PlacedBytes.Holds s image) c.source.ensures (c.note.ensures.noted image h))
    (λ bytes own. c.in-Some.ensures.range bytes ((looked_err _ _ _ c.in-Err.is c.in_ok-image.ensures.back) bytes (narrows bytes own))) c.in-Err.image.why counts
    (λ bytes own. (looked_err _ _ _ c.in-Err.is c.in_ok-image.ensures.refused).refused bytes (narrows bytes own)) given in
    if_ok _ _ _ step c.give_refused-given.ensures.counted

pub returns-in_default-clause-failed : goal.returns-in_default-clause-failed
returns-in_default-clause-failed g c =
    let image = g.K.PickedImage.image in
    too_large (g.F.ImageFile.Holds c.open.new.self image × LiesIn c.args.place.now.range (content_of c.args.layout image)) c.args.layout image (g.F.ImageFile.Fails c.args.file.now)
    (λ h. c.in_default.ensures.none (c.in_ok-source.ensures.noted image h.0) h.1)

pub returns-in_err-image-clause-failed : goal.returns-in_err-image-clause-failed
returns-in_err-image-clause-failed g c =
    let image = g.K.PickedImage.image in
    let Has = g.F.ImageFile.Holds c.open.new.self image × LiesIn c.args.place.now.range (content_of c.args.layout image) in
    fault_by_sparse (SomeFailOf Has (length image) (g.F.ImageFile.Fails c.args.file.now)) c.from_residual-in_err-image.result c.in_err-image.field-0.0
    (λ told. part_picked g.S.PlacedBytes.Holds g.S.PlacedBytes.Fails image c.in-Some.bytes c.in-Some.bytes c.in-Some.ensures.inside (λ bytes own. own) c.in_ok-source.source Has
    (g.F.ImageFile.Fails c.args.file.now) c.in-Some.ensures.source (λ h. subst (λ s. g.S.PlacedBytes.Holds s image) (sym c.in-Some.ensures.source) (c.in_ok-source.ensures.noted image h.0))
    c.in_ok-source.ensures.fails (c.in_err-image.ensures.failed told))
    c.from_residual-in_err-image.ensures.1

pub returns-in-Ok-clause-failed : goal.returns-in-Ok-clause-failed
returns-in-Ok-clause-failed g c =
    let image = g.K.PickedImage.image in
    let Has = g.F.ImageFile.Holds c.note_volume.new.self image × LiesIn c.args.place.now.range (content_of c.args.layout image) in
    let new = c.give_sound-given.new.image.bytes in
    let narrows = c.give_sound-given.ensures.narrows in
    fault_means _ (SomeFailOf Has (length image) (g.F.ImageFile.Fails c.args.file.now)) c.in-Err-given.fault
    (λ some. part_picked g.S.PlacedBytes.Holds g.S.PlacedBytes.Fails image c.in-Some.bytes new c.in-Some.ensures.inside
    (λ bytes own. (looked_ok _ _ _ c.in-Ok.is c.in_ok-image.ensures.held) bytes (narrows bytes own)) c.in_ok-source.source Has
    (g.F.ImageFile.Fails c.args.file.now) c.in-Some.ensures.source (λ h. c.note_volume.ensures.noted image h.0)
    c.in_ok-source.ensures.fails (read_before _ _ _ (looked_ok _ _ _ c.in-Ok.is c.in_ok-image.ensures.later) some))
    c.in-Err-given.ensures.failed

pub returns-clause-failed : goal.returns-clause-failed
returns-clause-failed g c =
    let image = g.K.PickedImage.image in
    let Has = g.F.ImageFile.Holds c.note.new.self image × LiesIn c.args.place.now.range (content_of c.args.layout image) in
    let new = c.give_refused-given.new.image.source.blocks.bytes in
    let narrows = c.give_refused-given.ensures.narrows in
    fault_told _ (SomeFailOf Has (length image) (g.F.ImageFile.Fails c.args.file.now)) c.give_refused-given.result
    (λ some. part_picked g.S.PlacedBytes.Holds g.S.PlacedBytes.Fails image c.in-Some.bytes new c.in-Some.ensures.inside
    (λ bytes own. (looked_err _ _ _ c.in-Err.is c.in_ok-image.ensures.back) bytes (narrows bytes own)) c.in_ok-source.source Has
    (g.F.ImageFile.Fails c.args.file.now) c.in-Some.ensures.source (λ h. subst (λ s. g.S.PlacedBytes.Holds s image) c.source.ensures (c.note.ensures.noted image h.0))
    c.in_ok-source.ensures.fails (read_before _ _ _ (looked_err _ _ _ c.in-Err.is c.in_ok-image.ensures.back_later) some))
    c.give_refused-given.ensures.failed
