-- What is shown of what was found is shown of the image.
use Rattle.std.proofs.Common.{◌≡◌, ℕ, List, IfOk, Some, subst}
use Rattle.std.specs.Io.KnownBytes.{Appends}
use Rattle.hfs_fields.proofs.OutcomeLemmas.{on_err_then, on_ok}
use Rattle.hfs_texts.specs.Writing.{AppendsFront}
use Rattle.hfs_rescue_items.specs.declared.rows.Selection.TheVariants as selection
use Rattle.hfs_rescue_items.specs.Rows.{selected_text}
use Rattle.hfs_word_rescue.specs.Shown.{OfEachFound}
use Rattle.hfs_word_rescue.proofs.BagLemmas.{found_known}
use Rattle.hfs_word_rescue.proofs.ShownLemmas.{carried, nothing_shown, told_by_each}
use Rattle.hfs_word_rescue.proofs.showing.write_found_items.Goals as goal

pub returns-clause-written : goal.returns-clause-written
returns-clause-written g c =
    let image = c.args.image.now in
    let is = λ (own : List ℕ) (h : g.S.PlacedBlocks.Holds image.source.blocks own). found_known (Some own) image.len c.args.words.now c.limit_for-limit.result image.finds c.found_in-found.result c.limit_for-limit.ensures (image.finds_are own h)
    (λ bytes found. c.found_in-found.ensures.found bytes c.limit_for-limit.result found c.in-Ok.ensures) in
    on_ok _ _ (OfEachFound (g.S.PlacedBlocks.Holds image.source.blocks) image.len c.args.words.now (λ bytes found. Appends (g.W.Write.contents c.args.writer.now) (g.W.Write.contents c.write_selected.new.writer) (selected_text (selection.All c.args.format) found))) (λ written own h. carried (Some own) image.len c.args.words.now c.found_in-found.result (is own h) (λ bytes s. Appends (g.W.Write.contents c.args.writer.now) (g.W.Write.contents c.write_selected.new.writer) (s.rows (selection.All c.args.format))) (λ bytes same. written))
    c.write_selected.ensures.written

pub returns-clause-part : goal.returns-clause-part
returns-clause-part g c =
    let image = c.args.image.now in
    let is = λ (own : List ℕ) (h : g.S.PlacedBlocks.Holds image.source.blocks own). found_known (Some own) image.len c.args.words.now c.limit_for-limit.result image.finds c.found_in-found.result c.limit_for-limit.ensures (image.finds_are own h)
    (λ bytes found. c.found_in-found.ensures.found bytes c.limit_for-limit.result found c.in-Ok.ensures) in
    on_err_then _ _ (OfEachFound (g.S.PlacedBlocks.Holds image.source.blocks) image.len c.args.words.now (λ bytes found. AppendsFront (g.W.Write.contents c.args.writer.now) (g.W.Write.contents c.write_selected.new.writer) (selected_text (selection.All c.args.format) found))) (λ part own h. carried (Some own) image.len c.args.words.now c.found_in-found.result (is own h) (λ bytes s. AppendsFront (g.W.Write.contents c.args.writer.now) (g.W.Write.contents c.write_selected.new.writer) (s.rows (selection.All c.args.format))) (λ bytes same. part))
    c.write_selected.ensures.part

pub returns-clause-status : goal.returns-clause-status
returns-clause-status g c =
    let image = c.args.image.now in
    let is = λ (own : List ℕ) (h : g.S.PlacedBlocks.Holds image.source.blocks own). found_known (Some own) image.len c.args.words.now c.limit_for-limit.result image.finds c.found_in-found.result c.limit_for-limit.ensures (image.finds_are own h)
    (λ bytes found. c.found_in-found.ensures.found bytes c.limit_for-limit.result found c.in-Ok.ensures) in
    told_by_each c.write_selected.result (λ s. s.status) image.len c.args.words.now c.found_in-found.result (g.S.PlacedBlocks.Holds image.source.blocks) is image.check.fault image.finds image.fault_is image.finds_are
    c.write_selected.ensures.status

pub returns-in_default-clause-part : goal.returns-in_default-clause-part
returns-in_default-clause-part g c =
    λ own h. nothing_shown (Some own) c.args.image.now.len c.args.words.now (g.W.Write.contents c.args.writer.now) (λ bytes found. selected_text (selection.All c.args.format) found)
