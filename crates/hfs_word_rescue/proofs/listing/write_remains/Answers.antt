-- What is written of what was found is written of the image.
use Rattle.std.proofs.Common.{Some}
use Rattle.hfs_bag.proofs.Growing.{each_err}
use Rattle.hfs_word_rescue.proofs.BagLemmas.{answer_known, found_known}
use Rattle.hfs_word_rescue.proofs.ListLemmas.{nothing_told, tells, tells_front}
use Rattle.hfs_word_rescue.proofs.listing.write_remains.Goals as goal

pub returns-in_err-write_lines-clause-part : goal.returns-in_err-write_lines-clause-part
returns-in_err-write_lines-clause-part g c =
    let image = c.args.image.now in
    each_err _ (g.S.PlacedBlocks.Holds image.source.blocks) (λ bytes h.
    let known = Some bytes in
    let is = found_known known image.len c.args.words.now c.limit_for-limit.result image.finds c.found_in-found.result c.limit_for-limit.ensures (image.finds_are bytes h)
    (λ other found. c.found_in-found.ensures.found other c.limit_for-limit.result found c.in-Ok.ensures) in
    tells_front known image.len c.args.words.now c.found_in-found.result (g.W.Write.contents c.args.writer.now) (g.W.Write.contents c.write_lines.new.writer) is
    c.in_err-write_lines.ensures.part)

pub returns-clause-written : goal.returns-clause-written
returns-clause-written g c =
    let image = c.args.image.now in
    λ bytes h.
    let known = Some bytes in
    let is = found_known known image.len c.args.words.now c.limit_for-limit.result image.finds c.found_in-found.result c.limit_for-limit.ensures (image.finds_are bytes h)
    (λ other found. c.found_in-found.ensures.found other c.limit_for-limit.result found c.in-Ok.ensures) in
    tells known image.len c.args.words.now c.found_in-found.result (g.W.Write.contents c.args.writer.now) (g.W.Write.contents c.write_lines.new.writer) is c.in_ok-write_lines.ensures.written

pub returns-clause-answer : goal.returns-clause-answer
returns-clause-answer g c =
    let image = c.args.image.now in
    λ bytes h.
    let known = Some bytes in
    let is = found_known known image.len c.args.words.now c.limit_for-limit.result image.finds c.found_in-found.result c.limit_for-limit.ensures (image.finds_are bytes h)
    (λ other found. c.found_in-found.ensures.found other c.limit_for-limit.result found c.in-Ok.ensures) in
    answer_known known image.len c.args.words.now image.check.fault image.finds c.found_in-found.result c.in-Ok-of.answer is (image.fault_is bytes h) (image.finds_are bytes h) c.in-Ok-of.ensures

pub returns-in_default-clause-part : goal.returns-in_default-clause-part
returns-in_default-clause-part g c = λ bytes h. nothing_told (Some bytes) c.args.image.now.len c.args.words.now (g.W.Write.contents c.args.writer.now)

pub returns-in_default-of-clause-part : goal.returns-in_default-of-clause-part
returns-in_default-of-clause-part g c = λ bytes h. nothing_told (Some bytes) c.args.image.now.len c.args.words.now (g.W.Write.contents c.args.writer.now)
