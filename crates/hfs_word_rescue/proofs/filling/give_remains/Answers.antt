-- What is given and told of what was found is given and told of each image that holds.
use Rattle.std.proofs.Common.{ℕ, List, Global, Some}
use Rattle.std.specs.Prelude.{string_bytes}
use Rattle.std.specs.Option.{option_map}
use Rattle.hfs_source.specs.Seen.{EachKnown}
use Rattle.hfs_word_rescue.specs.Answers.{IsKnownAnswer}
use Rattle.hfs_word_rescue.proofs.BagLemmas.{answer_known, found_known, none_given, told_answer, told_err, told_fault, told_ok}
use Rattle.hfs_word_rescue.proofs.filling.give_remains.Goals as goal

-- nothing was given before the answer, and what is told before
pub returns-in-Err-clause-part : goal.returns-in-Err-clause-part
returns-in-Err-clause-part g c =
    none_given c.not_given.result.answer _ (g.S.PlacedBlocks.Holds c.not_given.result.source.blocks) c.args.image.len (option_map (string_bytes {Z = Global}) c.args.image.line) c.args.words.now
    (g.T.Shelf.given c.args.shelf.now) c.not_given.ensures.answer

pub returns-in-Err-of-clause-part : goal.returns-in-Err-of-clause-part
returns-in-Err-of-clause-part g c =
    none_given c.not_given-in-Err-of.result.answer _ (g.S.PlacedBlocks.Holds c.not_given-in-Err-of.result.source.blocks) c.args.image.len (option_map (string_bytes {Z = Global}) c.args.image.line) c.args.words.now
    (g.T.Shelf.given c.args.shelf.now) c.not_given-in-Err-of.ensures.answer

pub returns-in-Err-told_of-clause-part : goal.returns-in-Err-told_of-clause-part
returns-in-Err-told_of-clause-part g c =
    none_given c.not_given-in-Err-told_of.result.answer _ (g.S.PlacedBlocks.Holds c.not_given-in-Err-told_of.result.source.blocks) c.args.image.len (option_map (string_bytes {Z = Global}) c.args.image.line) c.args.words.now
    (g.T.Shelf.given c.args.shelf.now) c.not_given-in-Err-told_of.ensures.answer

pub give_found-came-requires-clause-found : goal.give_found-came-requires-clause-found
give_found-came-requires-clause-found g c = λ bytes h.
    let image = c.args.image in
    found_known (Some bytes) image.len c.args.words.now.words c.limit_for-limit.result image.finds c.found_in-found.result c.limit_for-limit.ensures
    (image.finds_are bytes (c.in-Ok-told_of.ensures.narrows bytes h)) (λ own found. c.found_in-found.ensures.found own c.limit_for-limit.result found c.in-Ok.ensures)

pub returns-clause-whole : goal.returns-clause-whole
returns-clause-whole g c =
    told_ok c.give_found-came.result.came c.in-Ok-of.answer c.answered.result c.answered.ensures _ c.give_found-came.ensures.whole

pub returns-clause-part : goal.returns-clause-part
returns-clause-part g c =
    told_err c.give_found-came.result.came c.in-Ok-of.answer c.answered.result c.answered.ensures _ c.give_found-came.ensures.part

pub returns-clause-fault : goal.returns-clause-fault
returns-clause-fault g c =
    told_fault c.give_found-came.result.came c.in-Ok-of.answer c.answered.result c.answered.ensures _ c.give_found-came.ensures.fault

pub returns-clause-answer : goal.returns-clause-answer
returns-clause-answer g c =
    let image = c.args.image in
    let words = c.args.words.now.words in
    let held = λ (bytes : List ℕ) (h : g.S.PlacedBlocks.Holds c.give_found-came.result.source.blocks bytes). c.in-Ok-told_of.ensures.narrows bytes (c.give_found-came.ensures.narrows bytes h) in
    told_answer c.give_found-came.result.came c.in-Ok-of.answer c.answered.result c.answered.ensures
    (λ answer. EachKnown (g.S.PlacedBlocks.Holds c.give_found-came.result.source.blocks) (λ known. IsKnownAnswer known image.len words answer))
    (λ bytes h.
    let is = found_known (Some bytes) image.len words c.limit_for-limit.result image.finds c.found_in-found.result c.limit_for-limit.ensures (image.finds_are bytes (held bytes h))
    (λ own found. c.found_in-found.ensures.found own c.limit_for-limit.result found c.in-Ok.ensures) in
    answer_known (Some bytes) image.len words image.check.fault image.finds c.found_in-found.result c.in-Ok-of.answer is (image.fault_is bytes (held bytes h)) (image.finds_are bytes (held bytes h)) c.in-Ok-of.ensures)

pub returns-clause-narrows : goal.returns-clause-narrows
returns-clause-narrows g c = λ bytes h. c.in-Ok-told_of.ensures.narrows bytes (c.give_found-came.ensures.narrows bytes h)
