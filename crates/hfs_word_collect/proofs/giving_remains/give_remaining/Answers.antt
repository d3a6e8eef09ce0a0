-- A row more, or none.
use Rattle.std.proofs.Common.{◌≡◌, ◌∙◌, ◌+◌, ◌++◌, get_or, refl, sym, subst, arith, rules}
use Rattle.hfs_fields.proofs.OutcomeLemmas.{on_err}
use Rattle.hfs_database.specs.Taken.{IsBeginning}
use Rattle.hfs_source.specs.Images.{OfEach}
use Rattle.hfs_word_collect.specs.Refused.{image_of}
use Rattle.hfs_word_collect.specs.Remains.{remains_rows_from}
use Rattle.hfs_word_collect.proofs.Counting.{FilesLeft, counts_first, counts_last, counts_next}
use Rattle.hfs_word_collect.proofs.RemainsGoing.{remains_begin, remains_last, remains_next, remains_part}
use Rattle.hfs_word_collect.proofs.FailingReads.{read_handed_on}
use Rattle.hfs_word_collect.proofs.giving_remains.give_remaining.Goals as goal

pub loop-i-init : goal.loop-i-init
loop-i-init g c = record {
  rows = λ image h. refl;
  reference = refl;
  place = refl;
  narrows = λ image h. h;
  later = λ place count fails. fails;
  counted = λ image h. subst (FilesLeft (image_of c.args.found.now image) c.args.items.now 0) (sym c.none-counts.ensures) (counts_first (image_of c.args.found.now image) c.args.items.now);
}

pub loop-i-preserved : goal.loop-i-preserved
loop-i-preserved g c =
    let items = c.args.items.now in
    let item = c.index-items-i.result in
    let own : item ≡ get_or items c.loop-i.i item = search rules in
    record {
      rows = λ image h. remains_next c.args.taken (image_of c.args.found.now image) items (g.T.RowTaker.given c.args.taker.now ++ remains_rows_from c.args.taken (image_of c.args.found.now image) 0 items)
          c.loop-i.i item (g.T.RowTaker.given c.loop-i.taker) (g.T.RowTaker.given c.give_remaining_item.new.taker) c.loop-i-test.true own
          (c.loop-i.invariant.rows image (c.in_ok-more.ensures.narrows image h)) (c.in_ok-more.ensures.whole image h);
      reference = c.give_remaining_item.ensures.reference ∙ c.loop-i.invariant.reference;
      place = c.give_remaining_item.ensures.place ∙ c.loop-i.invariant.place;
      narrows = λ image h. c.loop-i.invariant.narrows image (c.in_ok-more.ensures.narrows image h);
      later = λ place count fails. c.loop-i.invariant.later place count (c.in_ok-more.ensures.later place count fails);
      counted = λ image h. counts_next (image_of c.args.found.now image) items c.loop-i.i item c.loop-i.counts c.in_ok-more.more c.in-Some.sum c.loop-i-test.true own
          (c.loop-i.invariant.counted image (c.in_ok-more.ensures.narrows image h)) (c.in_ok-more.ensures.counted image h) c.in-Some.ensures;
    }

pub returns-in_err-more-clause-part : goal.returns-in_err-more-clause-part
returns-in_err-more-clause-part g c =
    let items = c.args.items.now in
    let start = g.T.RowTaker.given c.args.taker.now in
    let new = g.T.RowTaker.given c.give_remaining_item.new.taker in
    let item = c.index-items-i.result in
    let own : item ≡ get_or items c.loop-i.i item = search rules in
    let part : OfEach (g.S.PlacedBlocks.Holds c.give_remaining_item.new.source.blocks) (λ image. IsBeginning new (start ++ remains_rows_from c.args.taken (image_of c.args.found.now image) 0 items)) =
    λ image h. remains_part c.args.taken (image_of c.args.found.now image) items (start ++ remains_rows_from c.args.taken (image_of c.args.found.now image) 0 items) c.loop-i.i
    item (g.T.RowTaker.given c.loop-i.taker) new c.loop-i-test.true own (c.loop-i.invariant.rows image (c.in_err-more.ensures.narrows image h)) (c.in_err-more.ensures.part image h) in
    on_err _ _ part

pub returns-in_default-clause-part : goal.returns-in_default-clause-part
returns-in_default-clause-part g c =
    let items = c.args.items.now in
    let new = g.T.RowTaker.given c.give_remaining_item.new.taker in
    let item = c.index-items-i.result in
    let own : item ≡ get_or items c.loop-i.i item = search rules in
    λ image h.
    let all = g.T.RowTaker.given c.args.taker.now ++ remains_rows_from c.args.taken (image_of c.args.found.now image) 0 items in
    remains_begin c.args.taken (image_of c.args.found.now image) items all (c.loop-i.i + 1) new
    (remains_next c.args.taken (image_of c.args.found.now image) items all c.loop-i.i item (g.T.RowTaker.given c.loop-i.taker) new c.loop-i-test.true own
    (c.loop-i.invariant.rows image (c.in_ok-more.ensures.narrows image h)) (c.in_ok-more.ensures.whole image h))

pub returns-clause-whole : goal.returns-clause-whole
returns-clause-whole g c =
    let items = c.args.items.now in
    λ image h. remains_last c.args.taken (image_of c.args.found.now image) items (g.T.RowTaker.given c.args.taker.now ++ remains_rows_from c.args.taken (image_of c.args.found.now image) 0 items) c.loop-i.i
    (g.T.RowTaker.given c.loop-i.taker) (omega (arith, c.loop-i-test.false)) (c.loop-i.invariant.rows image h)

pub returns-clause-counted : goal.returns-clause-counted
returns-clause-counted g c = λ image h.
    counts_last (image_of c.args.found.now image) c.args.items.now c.loop-i.i c.loop-i.counts (omega (arith, c.loop-i-test.false)) (c.loop-i.invariant.counted image h)

pub returns-in_err-more-clause-failed : goal.returns-in_err-more-clause-failed
returns-in_err-more-clause-failed g c =
    read_handed_on (g.S.PlacedBlocks.Holds c.give_remaining_item.new.source.blocks) (g.S.PlacedBlocks.Fails c.loop-i.source.blocks) (g.S.PlacedBlocks.Fails c.args.source.now.blocks)
    c.from_residual.result c.in_err-more.field-0.0 c.loop-i.invariant.later c.from_residual.ensures.1 c.in_err-more.ensures.failed
