-- The ranges that were found are those that are there.
use Rattle.std.proofs.Common.{◌≡◌, ◌++◌, ◌∙◌, List, subst, length, sym}
use Rattle.hfs_fields.proofs.OutcomeLemmas.{on_err_then, on_ok, if_ok}
use Rattle.hfs_source.specs.declared.ranges.FoundRange.{FoundRange}
use Rattle.hfs_source.specs.Found.{found_by}
use Rattle.hfs_bag.specs.Parts.{content_of, LieIn}
use Rattle.hfs_bag.proofs.FoundRanges.{found_lie}
use Rattle.hfs_database.specs.Taken.{IsBeginning}
use Rattle.hfs_word_collect.specs.declared.counts.ImageCounts.{ImageCounts}
use Rattle.hfs_word_collect.specs.Counts.{all_volume_counts}
use Rattle.hfs_word_collect.specs.Volumes.{all_volume_rows}
use Rattle.hfs_word_collect.proofs.FailingReads.{picked_told_on}
use Rattle.hfs_word_collect.proofs.content.give_content.Goals as goal

pub returns-clause-whole : goal.returns-clause-whole
returns-clause-whole g c =
    let image = g.K.PickedImage.image in
    let content = content_of c.args.layout image in
    let old = g.T.RowTaker.given c.args.taker.now in
    let new = g.T.RowTaker.given c.give_all.new.taker in
    let Holds = g.F.ImageFile.Holds c.give_all.new.file image in
    let step : (Holds → new ≡ old ++ all_volume_rows c.args.taken c.args.others c.deref.result.now content)
    → (Holds → new ≡ old ++ all_volume_rows c.args.taken c.args.others (found_by c.args.layout content) content) =
    λ given h. subst (λ (ranges : List FoundRange). new ≡ old ++ all_volume_rows c.args.taken c.args.others ranges content)
    (c.deref.ensures.value ∙ c.in_ok-ranges.ensures.found (c.give_all.ensures.held image h)) (given h) in
    on_ok _ _ _ step c.give_all.ensures.whole

pub returns-clause-part : goal.returns-clause-part
returns-clause-part g c =
    let image = g.K.PickedImage.image in
    let content = content_of c.args.layout image in
    let old = g.T.RowTaker.given c.args.taker.now in
    let new = g.T.RowTaker.given c.give_all.new.taker in
    let Holds = g.F.ImageFile.Holds c.give_all.new.file image in
    let step : (Holds → IsBeginning new (old ++ all_volume_rows c.args.taken c.args.others c.deref.result.now content))
    → (Holds → IsBeginning new (old ++ all_volume_rows c.args.taken c.args.others (found_by c.args.layout content) content)) =
    λ given h. subst (λ (ranges : List FoundRange). IsBeginning new (old ++ all_volume_rows c.args.taken c.args.others ranges content))
    (c.deref.ensures.value ∙ c.in_ok-ranges.ensures.found (c.give_all.ensures.held image h)) (given h) in
    on_err_then _ _ _ step c.give_all.ensures.part

pub returns-clause-counted : goal.returns-clause-counted
returns-clause-counted g c =
    let image = g.K.PickedImage.image in
    let content = content_of c.args.layout image in
    let Holds = g.F.ImageFile.Holds c.give_all.new.file image in
    let step : (counts : ImageCounts) → (Holds → counts ≡ all_volume_counts c.deref.result.now content) → (Holds → counts ≡ all_volume_counts (found_by c.args.layout content) content) =
    λ counts given h. subst (λ (ranges : List FoundRange). counts ≡ all_volume_counts ranges content)
    (c.deref.ensures.value ∙ c.in_ok-ranges.ensures.found (c.give_all.ensures.held image h)) (given h) in
    if_ok _ _ _ step c.give_all.ensures.counted

pub returns-clause-failed : goal.returns-clause-failed
returns-clause-failed g c =
    let image = g.K.PickedImage.image in
    let content = content_of c.args.layout image in
    let Holds = g.F.ImageFile.Holds c.give_all.new.file image in
    picked_told_on Holds (Holds × LieIn c.deref.result.now content) (length image) (g.F.ImageFile.Fails c.find_ranges.new.file) (g.F.ImageFile.Fails c.args.file.now) c.give_all.result
    (λ h. (h, subst (λ (ranges : List FoundRange). LieIn ranges content) (sym (c.deref.ensures.value ∙ c.in_ok-ranges.ensures.found (c.give_all.ensures.held image h))) (found_lie c.args.layout content)))
    c.in_ok-ranges.ensures.later c.give_all.ensures.failed
