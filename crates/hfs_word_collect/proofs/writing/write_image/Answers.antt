-- What is written at a fault is a beginning of what is written without one.
use Rattle.std.proofs.Common.{ap, ◌++◌, true, false}
use Rattle.hfs_fields.proofs.OutcomeLemmas.{on_err}
use Rattle.hfs_word_collect.specs.Images.{image_rows}
use Rattle.hfs_word_collect.proofs.WrittenImages.{all_begin, wrote_part, wrote_untold}
use Rattle.hfs_word_collect.proofs.writing.write_image.Goals as goal

pub returns-in_err-end-in-Ok-clause-part : goal.returns-in_err-end-in-Ok-clause-part
returns-in_err-end-in-Ok-clause-part g c =
    let taker = c.args.taker.now in
    let went = c.give_image.new.taker in
    let all = taker.given.rows ++ image_rows c.args.rows.now.facts.now g.K.PickedImage.image in
    on_err c.from_residual.result _
    (λ h. wrote_part (g.W.Write.contents taker.start.value) (g.W.Write.contents c.end.new.self.writer) (g.W.Write.contents went.start.value) taker.form
    went.form went.given.rows all true (ap (λ p. p.0) c.give_image.ensures.place) (ap (λ p. p.1) c.give_image.ensures.place)
    (all_begin went.given.rows all (c.in-Ok.ensures.whole h)) c.in_err-end-in-Ok.ensures.part)

pub returns-in_err-ended-in-None-clause-part : goal.returns-in_err-ended-in-None-clause-part
returns-in_err-ended-in-None-clause-part g c =
    let taker = c.args.taker.now in
    let went = c.give_image.new.taker in
    let all = taker.given.rows ++ image_rows c.args.rows.now.facts.now g.K.PickedImage.image in
    on_err c.from_residual-in_err-ended-in-None.result _
    (λ h. wrote_part (g.W.Write.contents taker.start.value) (g.W.Write.contents c.end-ended.new.self.writer)
    (g.W.Write.contents went.start.value) taker.form went.form went.given.rows all false
    (ap (λ p. p.0) c.give_image.ensures.place) (ap (λ p. p.1) c.give_image.ensures.place) (c.in-Err.ensures.part h) c.in_err-ended-in-None.ensures.part)

pub returns-in-Some-clause-part : goal.returns-in-Some-clause-part
returns-in-Some-clause-part g c = λ h.
    let taker = c.args.taker.now in
    let went = c.give_image.new.taker in
    let all = taker.given.rows ++ image_rows c.args.rows.now.facts.now g.K.PickedImage.image in
    wrote_untold (g.W.Write.contents taker.start.value) (g.W.Write.contents c.end-ended.new.self.writer)
    (g.W.Write.contents went.start.value) taker.form went.form went.given.rows all c.end-ended.result
    (ap (λ p. p.0) c.give_image.ensures.place) (ap (λ p. p.1) c.give_image.ensures.place) (c.in-Err.ensures.part h) c.end-ended.ensures.written c.end-ended.ensures.part
