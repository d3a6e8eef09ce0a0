-- A beginning of the next volume's rows, or all of them.
use Rattle.std.proofs.Common.{◌∙◌, ◌+◌, ◌++◌, refl, sym, subst, arith, length}
use Rattle.hfs_fields.proofs.OutcomeLemmas.{on_err}
use Rattle.hfs_bag.specs.Parts.{content_of, LieIn, LiesIn}
use Rattle.hfs_fields.proofs.ElementLemmas.{each-at}
use Rattle.hfs_source.specs.declared.ranges.FoundRange.{FoundRange}
use Rattle.hfs_database.specs.Taken.{IsBeginning}
use Rattle.hfs_word_collect.specs.Volumes.{volume_rows_from}
use Rattle.hfs_word_collect.proofs.Counting.{VolumesToCount, volumes_counted_first, volumes_counted_last, volumes_counted_next}
use Rattle.hfs_word_collect.proofs.VolumesGoing.{volumes_last, volumes_next, volumes_part, volumes_within}
use Rattle.hfs_word_collect.proofs.FailingReads.{picked_handed_on}
use Rattle.hfs_word_collect.proofs.content.give_volumes.Goals as goal

pub returns-in_err-more-clause-part : goal.returns-in_err-more-clause-part
returns-in_err-more-clause-part g c =
    let image = g.K.PickedImage.image in
    let content = content_of c.args.layout image in
    let start = g.T.RowTaker.given c.args.taker.now in
    let new = g.T.RowTaker.given c.give_range.new.taker in
    let part : g.F.ImageFile.Holds c.give_range.new.file image → IsBeginning new (start ++ volume_rows_from c.args.taken c.args.others 1 c.args.ranges.now content) =
    λ h. volumes_within content c.args.taken c.args.others c.args.ranges.now start c.loop-i.i _ c.loop-i-test.true
    (g.T.RowTaker.given c.loop-i.taker) new (c.loop-i.invariant.rows (c.in_err-more.ensures.held image h)) (c.in_err-more.ensures.part h) in
    on_err _ _ part

pub returns-in_default-clause-part : goal.returns-in_default-clause-part
returns-in_default-clause-part g c = λ h.
    let image = g.K.PickedImage.image in
    let new = g.T.RowTaker.given c.give_range.new.taker in
    volumes_part (content_of c.args.layout image) c.args.taken c.args.others c.args.ranges.now (g.T.RowTaker.given c.args.taker.now) (c.loop-i.i + 1) new
    (volumes_next (content_of c.args.layout image) c.args.taken c.args.others c.args.ranges.now (g.T.RowTaker.given c.args.taker.now) c.loop-i.i _ c.loop-i-test.true
    (g.T.RowTaker.given c.loop-i.taker) new (c.loop-i.invariant.rows (c.in_ok-more.ensures.held image h)) (c.in_ok-more.ensures.whole h))

pub loop-i-preserved : goal.loop-i-preserved
loop-i-preserved g c =
    let image = g.K.PickedImage.image in
    record {
      rows = λ h. volumes_next (content_of c.args.layout image) c.args.taken c.args.others c.args.ranges.now (g.T.RowTaker.given c.args.taker.now) c.loop-i.i _ c.loop-i-test.true
          (g.T.RowTaker.given c.loop-i.taker) (g.T.RowTaker.given c.give_range.new.taker) (c.loop-i.invariant.rows (c.in_ok-more.ensures.held image h)) (c.in_ok-more.ensures.whole h);
      held = λ file h. c.loop-i.invariant.held file (c.in_ok-more.ensures.held file h);
      later = λ place count fails. c.loop-i.invariant.later place count (c.in_ok-more.ensures.later place count fails);
      reference = c.give_range.ensures.reference ∙ c.loop-i.invariant.reference;
      place = c.give_range.ensures.place ∙ c.loop-i.invariant.place;
      counted = λ h. volumes_counted_next (content_of c.args.layout image) c.args.ranges.now c.loop-i.i _ c.loop-i.counts c.in_ok-more.more c.in-Some.sum c.loop-i-test.true
          (c.loop-i.invariant.counted (c.in_ok-more.ensures.held image h)) (c.in_ok-more.ensures.counted h) c.in-Some.ensures;
    }

pub loop-i-init : goal.loop-i-init
loop-i-init g c =
    let content = content_of c.args.layout g.K.PickedImage.image in
    record {
      rows = λ h. refl;
      held = λ file h. h;
      later = λ place count fails. fails;
      reference = refl;
      place = refl;
      counted = λ h. subst (VolumesToCount content c.args.ranges.now 0) (sym c.none-counts.ensures) (volumes_counted_first content c.args.ranges.now);
    }

pub returns-clause-whole : goal.returns-clause-whole
returns-clause-whole g c = λ h.
    volumes_last (content_of c.args.layout g.K.PickedImage.image) c.args.taken c.args.others c.args.ranges.now (g.T.RowTaker.given c.args.taker.now) c.loop-i.i (omega (arith, c.loop-i-test.false))
    (g.T.RowTaker.given c.loop-i.taker) (c.loop-i.invariant.rows h)

pub returns-clause-counted : goal.returns-clause-counted
returns-clause-counted g c = λ h.
    volumes_counted_last (content_of c.args.layout g.K.PickedImage.image) c.args.ranges.now c.loop-i.i c.loop-i.counts (omega (arith, c.loop-i-test.false)) (c.loop-i.invariant.counted h)

pub returns-in_err-more-clause-failed : goal.returns-in_err-more-clause-failed
returns-in_err-more-clause-failed g c =
    let image = g.K.PickedImage.image in
    let content = content_of c.args.layout image in
    let ranges = c.args.ranges.now in
    let Holds = g.F.ImageFile.Holds c.give_range.new.file image in
    picked_handed_on (Holds × LieIn ranges content) _ (length image) (g.F.ImageFile.Fails c.loop-i.file) (g.F.ImageFile.Fails c.args.file.now) c.from_residual.result c.in_err-more.field-0.0
    (λ h. (h.0, each-at (λ (found : FoundRange). LiesIn found.range content) ranges c.loop-i.i _ h.1 c.loop-i-test.true)) c.loop-i.invariant.later c.from_residual.ensures.1 c.in_err-more.ensures.failed
