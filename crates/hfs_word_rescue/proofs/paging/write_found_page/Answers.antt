-- The page of what was found is the page of the image.
use Rattle.std.proofs.Common.{◌≡◌, ℕ, List, IfOk, Some, subst}
use Rattle.std.specs.Io.KnownBytes.{Appends}
use Rattle.hfs_fields.proofs.OutcomeLemmas.{on_err_then, on_ok}
use Rattle.hfs_texts.specs.Writing.{AppendsFront}
use Rattle.hfs_word_rescue.specs.Shown.{found_page}
use Rattle.hfs_word_rescue.proofs.BagLemmas.{found_known}
use Rattle.hfs_word_rescue.proofs.PagedLemmas.{paged_each}
use Rattle.hfs_word_rescue.proofs.ShownLemmas.{nothing_shown, told_by_each}
use Rattle.hfs_word_rescue.proofs.paging.write_found_page.Goals as goal

pub returns-clause-written : goal.returns-clause-written
returns-clause-written g c =
    let image = c.args.image.now in
    let is = λ (own : List ℕ) (h : g.S.PlacedBlocks.Holds image.source.blocks own). found_known (Some own) image.len c.args.words.now c.limit_for-limit.result image.finds c.found_in-found.result c.limit_for-limit.ensures (image.finds_are own h)
    (λ bytes found. c.found_in-found.ensures.found bytes c.limit_for-limit.result found c.in-Ok.ensures) in
    on_ok _ _ _ (paged_each (g.S.PlacedBlocks.Holds image.source.blocks) image.len c.args.words.now c.found_in-found.result is c.args.texts.now c.args.why
    (λ text. Appends (g.W.Write.contents c.args.writer.now) (g.W.Write.contents c.write_page.new.writer) text))
    c.write_page.ensures.written

pub returns-clause-part : goal.returns-clause-part
returns-clause-part g c =
    let image = c.args.image.now in
    let is = λ (own : List ℕ) (h : g.S.PlacedBlocks.Holds image.source.blocks own). found_known (Some own) image.len c.args.words.now c.limit_for-limit.result image.finds c.found_in-found.result c.limit_for-limit.ensures (image.finds_are own h)
    (λ bytes found. c.found_in-found.ensures.found bytes c.limit_for-limit.result found c.in-Ok.ensures) in
    on_err_then _ _ _ (paged_each (g.S.PlacedBlocks.Holds image.source.blocks) image.len c.args.words.now c.found_in-found.result is c.args.texts.now c.args.why
    (λ text. AppendsFront (g.W.Write.contents c.args.writer.now) (g.W.Write.contents c.write_page.new.writer) text))
    c.write_page.ensures.part

pub returns-clause-status : goal.returns-clause-status
returns-clause-status g c =
    let image = c.args.image.now in
    let is = λ (own : List ℕ) (h : g.S.PlacedBlocks.Holds image.source.blocks own). found_known (Some own) image.len c.args.words.now c.limit_for-limit.result image.finds c.found_in-found.result c.limit_for-limit.ensures (image.finds_are own h)
    (λ bytes found. c.found_in-found.ensures.found bytes c.limit_for-limit.result found c.in-Ok.ensures) in
    told_by_each c.write_page.result (λ s. s.status) image.len c.args.words.now c.found_in-found.result (g.S.PlacedBlocks.Holds image.source.blocks) is image.check.fault image.finds image.fault_is image.finds_are
    c.write_page.ensures.status

pub returns-in_default-clause-part : goal.returns-in_default-clause-part
returns-in_default-clause-part g c =
    λ own h. nothing_shown (Some own) c.args.image.now.len c.args.words.now (g.W.Write.contents c.args.writer.now) (λ bytes found. found_page c.args.texts.now c.args.why found)
