-- What is shown of what was found is shown of the image.
use Rattle.std.proofs.Common.{◌≡◌, ℕ, List, IfOk, Some, subst}
use Rattle.std.specs.Io.KnownBytes.{Appends}
use Rattle.hfs_fields.proofs.OutcomeLemmas.{on_err_then, on_ok}
use Rattle.hfs_texts.specs.Writing.{AppendsFront}
use Rattle.hfs_rescue_items.specs.Paths.{path_end}
use Rattle.hfs_word_rescue.specs.Shown.{OfEachFound, end_rows, folder_told}
use Rattle.hfs_word_rescue.proofs.BagLemmas.{found_known}
use Rattle.hfs_word_rescue.proofs.ShownLemmas.{carried, nothing_shown, told_by_each}
use Rattle.hfs_word_rescue.proofs.showing.write_found_folder.Goals as goal

pub returns-clause-written : goal.returns-clause-written
returns-clause-written g c =
    let image = c.args.image.now in
    let is = λ (own : List ℕ) (h : g.S.PlacedBlocks.Holds image.source.blocks own). found_known (Some own) image.len c.args.words.now c.limit_for-limit.result image.finds c.found_in-found.result c.limit_for-limit.ensures (image.finds_are own h)
    (λ bytes found. c.found_in-found.ensures.found bytes c.limit_for-limit.result found c.in-Ok.ensures) in
    on_ok _ _ (OfEachFound (g.S.PlacedBlocks.Holds image.source.blocks) image.len c.args.words.now (λ bytes found. Appends (g.W.Write.contents c.args.writer.now) (g.W.Write.contents c.write_end_rows.new.writer) (end_rows found (path_end found c.args.path.now)))) (λ written own h. carried (Some own) image.len c.args.words.now c.found_in-found.result (is own h) (λ bytes s. Appends (g.W.Write.contents c.args.writer.now) (g.W.Write.contents c.write_end_rows.new.writer) (s.listed c.args.path.now))
    (λ bytes same. subst (λ e. Appends (g.W.Write.contents c.args.writer.now) (g.W.Write.contents c.write_end_rows.new.writer) (end_rows c.found_in-found.result e)) c.in-Ok-path_end.ensures written)) c.write_end_rows.ensures.written

pub returns-clause-part : goal.returns-clause-part
returns-clause-part g c =
    let image = c.args.image.now in
    let is = λ (own : List ℕ) (h : g.S.PlacedBlocks.Holds image.source.blocks own). found_known (Some own) image.len c.args.words.now c.limit_for-limit.result image.finds c.found_in-found.result c.limit_for-limit.ensures (image.finds_are own h)
    (λ bytes found. c.found_in-found.ensures.found bytes c.limit_for-limit.result found c.in-Ok.ensures) in
    on_err_then _ _ (OfEachFound (g.S.PlacedBlocks.Holds image.source.blocks) image.len c.args.words.now (λ bytes found. AppendsFront (g.W.Write.contents c.args.writer.now) (g.W.Write.contents c.write_end_rows.new.writer) (end_rows found (path_end found c.args.path.now)))) (λ part own h. carried (Some own) image.len c.args.words.now c.found_in-found.result (is own h) (λ bytes s. AppendsFront (g.W.Write.contents c.args.writer.now) (g.W.Write.contents c.write_end_rows.new.writer) (s.listed c.args.path.now))
    (λ bytes same. subst (λ e. AppendsFront (g.W.Write.contents c.args.writer.now) (g.W.Write.contents c.write_end_rows.new.writer) (end_rows c.found_in-found.result e)) c.in-Ok-path_end.ensures part)) c.write_end_rows.ensures.part

pub returns-clause-told : goal.returns-clause-told
returns-clause-told g c =
    let image = c.args.image.now in
    let is = λ (own : List ℕ) (h : g.S.PlacedBlocks.Holds image.source.blocks own). found_known (Some own) image.len c.args.words.now c.limit_for-limit.result image.finds c.found_in-found.result c.limit_for-limit.ensures (image.finds_are own h)
    (λ bytes found. c.found_in-found.ensures.found bytes c.limit_for-limit.result found c.in-Ok.ensures) in
    told_by_each c.write_end_rows.result (λ s. s.folder c.args.path.now) image.len c.args.words.now c.found_in-found.result (g.S.PlacedBlocks.Holds image.source.blocks) is image.check.fault image.finds image.fault_is image.finds_are
    (λ bytes check finds. subst (λ e. IfOk c.write_end_rows.result (λ told. told ≡ folder_told bytes c.found_in-found.result e)) c.in-Ok-path_end.ensures
    (c.write_end_rows.ensures.told bytes check finds))

pub returns-in_default-clause-part : goal.returns-in_default-clause-part
returns-in_default-clause-part g c =
    λ own h. nothing_shown (Some own) c.args.image.now.len c.args.words.now (g.W.Write.contents c.args.writer.now) (λ bytes found. end_rows found (path_end found c.args.path.now))

pub returns-in_default-path_end-clause-part : goal.returns-in_default-path_end-clause-part
returns-in_default-path_end-clause-part g c =
    λ own h. nothing_shown (Some own) c.args.image.now.len c.args.words.now (g.W.Write.contents c.args.writer.now) (λ bytes found. end_rows found (path_end found c.args.path.now))
