-- The image's row, and behind it those of its volumes.
use Rattle.std.proofs.Common.{◌≡◌, ◌++◌, ◌∷◌, [], ◌∙◌, ap, length, refl}
use Rattle.hfs_fields.proofs.OutcomeLemmas.{on_err, on_err_then, on_ok, if_ok}
use Rattle.hfs_source.specs.Found.{found_by}
use Rattle.hfs_bag.specs.Parts.{content_of}
use Rattle.hfs_database.specs.declared.value.Table.TheVariants.{Image}
use Rattle.hfs_database.specs.Taken.{IsBeginning, row_of}
use Rattle.hfs_database.proofs.GivenLemmas.{begins_before, begins_with}
use Rattle.hfs_word_collect.specs.declared.counts.ImageCounts.{ImageCounts}
use Rattle.hfs_word_collect.specs.Counts.{all_volume_counts, image_counts}
use Rattle.hfs_word_collect.specs.Images.{image_rows}
use Rattle.hfs_word_collect.specs.Volumes.{all_volume_rows}
use Rattle.hfs_word_collect.proofs.FailingReads.{picked_told_on}
use Rattle.hfs_word_collect.proofs.ImageGiving.{image_counted, image_given}
use Rattle.hfs_word_collect.proofs.image.give_rows.Goals as goal

pub returns-clause-whole : goal.returns-clause-whole
returns-clause-whole g c =
    let image = g.K.PickedImage.image in
    let old = g.T.RowTaker.given c.args.taker.now in
    let mid = g.T.RowTaker.given c.take.new.self in
    let new = g.T.RowTaker.given c.give_content.new.taker in
    let facts = c.args.facts.now in
    let look = c.in_ok-look.look in
    let content = content_of look.layout image in
    let Holds = g.F.ImageFile.Holds c.give_content.new.file image in
    let first : mid ≡ old ++ row_of Image c.in_ok-values.values.items ∷ [] =
    c.in_ok-take.ensures.whole ∙ ap (λ values. old ++ row_of Image values ∷ []) c.deref.ensures.value in
    let step : (Holds → new ≡ mid ++ all_volume_rows facts.takes_digests look.others (found_by look.layout content) content) → (Holds → new ≡ old ++ image_rows facts image) =
    λ given h. let is = c.in_ok-look.ensures.look image (c.give_content.ensures.held image h) in
    image_given image facts c.in_ok-values.values.items look.layout look.others old mid (λ rows. new ≡ rows) first (c.in_ok-values.ensures image is.len is.digest) is.layout is.others (given h) in
    on_ok _ _ _ step c.give_content.ensures.whole

pub returns-clause-part : goal.returns-clause-part
returns-clause-part g c =
    let image = g.K.PickedImage.image in
    let old = g.T.RowTaker.given c.args.taker.now in
    let mid = g.T.RowTaker.given c.take.new.self in
    let new = g.T.RowTaker.given c.give_content.new.taker in
    let facts = c.args.facts.now in
    let look = c.in_ok-look.look in
    let content = content_of look.layout image in
    let Holds = g.F.ImageFile.Holds c.give_content.new.file image in
    let first : mid ≡ old ++ row_of Image c.in_ok-values.values.items ∷ [] =
    c.in_ok-take.ensures.whole ∙ ap (λ values. old ++ row_of Image values ∷ []) c.deref.ensures.value in
    let step : (Holds → IsBeginning new (mid ++ all_volume_rows facts.takes_digests look.others (found_by look.layout content) content)) → (Holds → IsBeginning new (old ++ image_rows facts image)) =
    λ given h. let is = c.in_ok-look.ensures.look image (c.give_content.ensures.held image h) in
    image_given image facts c.in_ok-values.values.items look.layout look.others old mid (λ rows. IsBeginning new rows) first (c.in_ok-values.ensures image is.len is.digest) is.layout is.others (given h) in
    on_err_then _ _ _ step c.give_content.ensures.part

pub returns-in_err-take-clause-part : goal.returns-in_err-take-clause-part
returns-in_err-take-clause-part g c =
    let image = g.K.PickedImage.image in
    let old = g.T.RowTaker.given c.args.taker.now in
    let new = g.T.RowTaker.given c.take.new.self in
    let facts = c.args.facts.now in
    let look = c.in_ok-look.look in
    let content = content_of look.layout image in
    let values = c.in_ok-values.values.items in
    let first : IsBeginning new (old ++ row_of Image values ∷ []) = begins_with old new Image values c.deref.result.now c.deref.ensures.value c.in_err-take.ensures.refused in
    let part : g.F.ImageFile.Holds c.noted_look.new.file image → IsBeginning new (old ++ image_rows facts image) =
    λ h. let is = c.in_ok-look.ensures.look image h in
    image_given image facts values look.layout look.others old (old ++ row_of Image values ∷ []) (λ rows. IsBeginning new rows) refl (c.in_ok-values.ensures image is.len is.digest) is.layout is.others
    (begins_before new (old ++ row_of Image values ∷ []) (all_volume_rows facts.takes_digests look.others (found_by look.layout content) content) first) in
    on_err _ _ part

pub returns-clause-counted : goal.returns-clause-counted
returns-clause-counted g c =
    let image = g.K.PickedImage.image in
    let look = c.in_ok-look.look in
    let content = content_of look.layout image in
    let Holds = g.F.ImageFile.Holds c.give_content.new.file image in
    let step : (counts : ImageCounts) → (Holds → counts ≡ all_volume_counts (found_by look.layout content) content) → (Holds → counts ≡ image_counts image) =
    λ counts given h. image_counted image look.layout counts (c.in_ok-look.ensures.look image (c.give_content.ensures.held image h)).layout (given h) in
    if_ok _ _ _ step c.give_content.ensures.counted

pub returns-clause-failed : goal.returns-clause-failed
returns-clause-failed g c =
    let image = g.K.PickedImage.image in
    let Holds = g.F.ImageFile.Holds c.give_content.new.file image in
    picked_told_on Holds Holds (length image) (g.F.ImageFile.Fails c.noted_look.new.file) (g.F.ImageFile.Fails c.args.file.now) c.give_content.result (λ h. h) c.in_ok-look.ensures.later
    c.give_content.ensures.failed
