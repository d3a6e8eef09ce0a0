-- What the whole content was found to hold.
use Rattle.std.proofs.Common.{◌≡◌, ◌++◌, ◌∙◌, length, ap, refl, subst, sym}
use Rattle.hfs_fields.proofs.OutcomeLemmas.{on_err_then, on_ok, if_ok}
use Rattle.hfs_check.specs.Faults.{fault_of}
use Rattle.hfs_bag.specs.Parts.{IsPartOf, content_of}
use Rattle.hfs_remains_forks.specs.Finds.{found_directory}
use Rattle.hfs_database.specs.Taken.{IsBeginning}
use Rattle.hfs_source.specs.Images.{OfEach}
use Rattle.hfs_word_collect.specs.declared.counts.ImageCounts.{ImageCounts}
use Rattle.hfs_word_collect.specs.declared.places.VolumePlace.{VolumePlace}
use Rattle.hfs_word_collect.specs.Counts.{counts_by_directory, lost_counts}
use Rattle.hfs_word_collect.specs.Volumes.{lost_place, lost_rows, rows_by_directory}
use Rattle.hfs_word_collect.proofs.PartGiving.{looked_err, looked_ok, lost_long, lost_none, lost_none_told, lost_picked, lost_told}
use Rattle.hfs_bag.specs.Failing.{SomeFailOf}
use Rattle.hfs_word_collect.proofs.FailingReads.{fault_by_sparse, fault_told, part_picked, read_before, too_large}
use Rattle.hfs_word_collect.proofs.giving_volumes.give_lost.Goals as goal

pub returns-in-Ok-clause-held : goal.returns-in-Ok-clause-held
returns-in-Ok-clause-held g c = λ file h. c.in_ok-source.ensures.held file (c.note_volume.ensures.held file h)

pub returns-in-Ok-clause-whole : goal.returns-in-Ok-clause-whole
returns-in-Ok-clause-whole g c = λ h.
    let image = g.K.PickedImage.image in
    let content = content_of c.args.layout image in
    let old = g.T.RowTaker.given c.args.taker.now in
    lost_none g.S.PlacedBytes.Holds image content c.in-Ok.image.bytes (c.note_volume.ensures.noted image h) (λ bytes own. c.in-Some.ensures.whole bytes ((looked_ok _ _ _ c.in-Ok.is c.in_ok-image.ensures.held) bytes own)) c.args.taken
    (lost_place c.args.others (length content)) old old (looked_ok _ _ _ c.in-Ok.is c.in_ok-image.ensures.sound) refl

pub returns-in-Ok-clause-counted : goal.returns-in-Ok-clause-counted
returns-in-Ok-clause-counted g c = λ h.
    let image = g.K.PickedImage.image in
    let content = content_of c.args.layout image in
    lost_none_told g.S.PlacedBytes.Holds image content c.in-Ok.image.bytes (c.note_volume.ensures.noted image h) (λ bytes own. c.in-Some.ensures.whole bytes ((looked_ok _ _ _ c.in-Ok.is c.in_ok-image.ensures.held) bytes own)) c.none.result
    (looked_ok _ _ _ c.in-Ok.is c.in_ok-image.ensures.sound) c.none.ensures

pub returns-in-Err-clause-whole : goal.returns-in-Err-clause-whole
returns-in-Err-clause-whole g c =
    let image = g.K.PickedImage.image in
    let content = content_of c.args.layout image in
    let old = g.T.RowTaker.given c.args.taker.now in
    let new = g.T.RowTaker.given c.give_where_found-given.new.taker in
    let part = c.give_where_found-given.new.image.source.blocks.bytes in
    let narrows = c.give_where_found-given.ensures.narrows in
    let why = c.in-Err.image.why in
    let place = c.lost-place.result in
    let step : OfEach (IsPartOf g.S.PlacedBytes.Holds image part) (λ bytes. new ≡ old ++ rows_by_directory c.args.taken place why (found_directory bytes) bytes)
    → (g.F.ImageFile.Holds c.note.new.self image → new ≡ old ++ lost_rows c.args.taken (lost_place c.args.others (length content)) (fault_of content) content) =
    λ given h.
    let noted = subst (λ s. g.S.PlacedBytes.Holds s image) c.source.ensures (c.note.ensures.noted image h) in
    let is : OfEach (IsPartOf g.S.PlacedBytes.Holds image part) (λ bytes. bytes ≡ content) = λ bytes own. c.in-Some.ensures.whole bytes ((looked_err _ _ _ c.in-Err.is c.in_ok-image.ensures.back) bytes (narrows bytes own)) in
    let long = lost_long g.S.PlacedBytes.Holds image content part noted is c.len.result (λ bytes own. c.len.ensures bytes ((looked_err _ _ _ c.in-Err.is c.in_ok-image.ensures.back) bytes (narrows bytes own))) in
    subst (λ (p : VolumePlace). new ≡ old ++ lost_rows c.args.taken p (fault_of content) content) (c.lost-place.ensures ∙ ap (lost_place c.args.others) (sym long))
    (lost_picked g.S.PlacedBytes.Holds image content part noted is c.args.taken place why (λ rows. new ≡ old ++ rows) (λ bytes own. (looked_err _ _ _ c.in-Err.is c.in_ok-image.ensures.refused).refused bytes (narrows bytes own)) given) in
    on_ok _ _ _ step c.give_where_found-given.ensures.whole

pub returns-in-Err-clause-part : goal.returns-in-Err-clause-part
returns-in-Err-clause-part g c =
    let image = g.K.PickedImage.image in
    let content = content_of c.args.layout image in
    let old = g.T.RowTaker.given c.args.taker.now in
    let new = g.T.RowTaker.given c.give_where_found-given.new.taker in
    let part = c.give_where_found-given.new.image.source.blocks.bytes in
    let narrows = c.give_where_found-given.ensures.narrows in
    let why = c.in-Err.image.why in
    let place = c.lost-place.result in
    let step : OfEach (IsPartOf g.S.PlacedBytes.Holds image part) (λ bytes. IsBeginning new (old ++ rows_by_directory c.args.taken place why (found_directory bytes) bytes))
    → (g.F.ImageFile.Holds c.note.new.self image → IsBeginning new (old ++ lost_rows c.args.taken (lost_place c.args.others (length content)) (fault_of content) content)) =
    λ given h.
    let noted = subst (λ s. g.S.PlacedBytes.Holds s image) c.source.ensures (c.note.ensures.noted image h) in
    let is : OfEach (IsPartOf g.S.PlacedBytes.Holds image part) (λ bytes. bytes ≡ content) = λ bytes own. c.in-Some.ensures.whole bytes ((looked_err _ _ _ c.in-Err.is c.in_ok-image.ensures.back) bytes (narrows bytes own)) in
    let long = lost_long g.S.PlacedBytes.Holds image content part noted is c.len.result (λ bytes own. c.len.ensures bytes ((looked_err _ _ _ c.in-Err.is c.in_ok-image.ensures.back) bytes (narrows bytes own))) in
    subst (λ (p : VolumePlace). IsBeginning new (old ++ lost_rows c.args.taken p (fault_of content) content)) (c.lost-place.ensures ∙ ap (lost_place c.args.others) (sym long))
    (lost_picked g.S.PlacedBytes.Holds image content part noted is c.args.taken place why (λ rows. IsBeginning new (old ++ rows)) (λ bytes own. (looked_err _ _ _ c.in-Err.is c.in_ok-image.ensures.refused).refused bytes (narrows bytes own)) given) in
    on_err_then _ _ _ step c.give_where_found-given.ensures.part

pub returns-in-Err-clause-counted : goal.returns-in-Err-clause-counted
returns-in-Err-clause-counted g c =
    let image = g.K.PickedImage.image in
    let content = content_of c.args.layout image in
    let part = c.give_where_found-given.new.image.source.blocks.bytes in
    let narrows = c.give_where_found-given.ensures.narrows in
    let step : (counts : ImageCounts) → OfEach (IsPartOf g.S.PlacedBytes.Holds image part) (λ bytes. counts ≡ counts_by_directory (found_directory bytes) bytes)
    → (g.F.ImageFile.Holds c.note.new.self image → counts ≡ lost_counts (fault_of content) content) =
    λ counts given h.
    let noted = subst (λ s. g.S.PlacedBytes.Holds s image) c.source.ensures (c.note.ensures.noted image h) in
    lost_told g.S.PlacedBytes.Holds image content part noted (λ bytes own. c.in-Some.ensures.whole bytes ((looked_err _ _ _ c.in-Err.is c.in_ok-image.ensures.back) bytes (narrows bytes own))) c.in-Err.image.why counts
    (λ bytes own. (looked_err _ _ _ c.in-Err.is c.in_ok-image.ensures.refused).refused bytes (narrows bytes own)) given in
    if_ok _ _ _ step c.give_where_found-given.ensures.counted

pub returns-in_default-clause-failed : goal.returns-in_default-clause-failed
returns-in_default-clause-failed g c =
    let image = g.K.PickedImage.image in
    too_large (g.F.ImageFile.Holds c.open.new.self image) c.args.layout image (g.F.ImageFile.Fails c.args.file.now)
    (λ h. c.in_default.ensures.none (c.in_ok-source.ensures.noted image h))

pub returns-in_err-image-clause-failed : goal.returns-in_err-image-clause-failed
returns-in_err-image-clause-failed g c =
    let image = g.K.PickedImage.image in
    let Has = g.F.ImageFile.Holds c.open.new.self image in
    fault_by_sparse (SomeFailOf Has (length image) (g.F.ImageFile.Fails c.args.file.now)) c.from_residual-in_err-image.result c.in_err-image.field-0.0
    (λ told. part_picked g.S.PlacedBytes.Holds g.S.PlacedBytes.Fails image c.in-Some.bytes c.in-Some.bytes c.in-Some.ensures.inside (λ bytes own. own) c.in_ok-source.source Has
    (g.F.ImageFile.Fails c.args.file.now) c.in-Some.ensures.source (λ h. subst (λ s. g.S.PlacedBytes.Holds s image) (sym c.in-Some.ensures.source) (c.in_ok-source.ensures.noted image h))
    c.in_ok-source.ensures.fails (c.in_err-image.ensures.failed told))
    c.from_residual-in_err-image.ensures.1

pub returns-in-Err-clause-failed : goal.returns-in-Err-clause-failed
returns-in-Err-clause-failed g c =
    let image = g.K.PickedImage.image in
    let Has = g.F.ImageFile.Holds c.note.new.self image in
    let new = c.give_where_found-given.new.image.source.blocks.bytes in
    let narrows = c.give_where_found-given.ensures.narrows in
    fault_told _ (SomeFailOf Has (length image) (g.F.ImageFile.Fails c.args.file.now)) c.give_where_found-given.result
    (λ some. part_picked g.S.PlacedBytes.Holds g.S.PlacedBytes.Fails image c.in-Some.bytes new c.in-Some.ensures.inside
    (λ bytes own. (looked_err _ _ _ c.in-Err.is c.in_ok-image.ensures.back) bytes (narrows bytes own)) c.in_ok-source.source Has
    (g.F.ImageFile.Fails c.args.file.now) c.in-Some.ensures.source (λ h. subst (λ s. g.S.PlacedBytes.Holds s image) c.source.ensures (c.note.ensures.noted image h))
    c.in_ok-source.ensures.fails (read_before _ _ _ (looked_err _ _ _ c.in-Err.is c.in_ok-image.ensures.back_later) some))
    c.give_where_found-given.ensures.failed
