-- What is shown of what was found is shown of each image that holds.
use Rattle.std.proofs.Common.{◌≡◌, ℕ, List, IfOk, Some, subst}
use Rattle.hfs_fields.proofs.OutcomeLemmas.{on_err_then, on_ok}
use Rattle.hfs_rescue_items.specs.Paths.{path_end}
use Rattle.hfs_word_rescue.specs.Shown.{end_bytes, fork_told}
use Rattle.hfs_word_rescue.proofs.BagLemmas.{found_known}
use Rattle.hfs_word_rescue.proofs.ShownLemmas.{bytes_shown, front_shown, nothing_shown, told_by_each}
use Rattle.hfs_word_rescue.proofs.showing.write_found_fork.Goals as goal

pub returns-clause-written : goal.returns-clause-written
returns-clause-written g c =
    let image = c.args.image in
    let is = λ (own : List ℕ) (h : g.S.PlacedBlocks.Holds c.write_end_fork-told.new.source.blocks own). found_known (Some own) image.len c.args.words.now c.limit_for-limit.result image.finds c.found_in-found.result c.limit_for-limit.ensures
    (image.finds_are own (c.write_end_fork-told.ensures.narrows own h)) (λ bytes found. c.found_in-found.ensures.found bytes c.limit_for-limit.result found c.in-Ok.ensures) in
    on_ok _ _ _ (λ written. bytes_shown (g.S.PlacedBlocks.Holds c.write_end_fork-told.new.source.blocks) image.len c.args.words.now c.found_in-found.result is c.args.kind c.args.path.now
    c.in-Ok-path_end.end c.in-Ok-path_end.ensures (g.W.Write.contents c.args.writer.now) (g.W.Write.contents c.write_end_fork-told.new.writer) written) c.write_end_fork-told.ensures.written

pub returns-clause-part : goal.returns-clause-part
returns-clause-part g c =
    let image = c.args.image in
    let is = λ (own : List ℕ) (h : g.S.PlacedBlocks.Holds c.write_end_fork-told.new.source.blocks own). found_known (Some own) image.len c.args.words.now c.limit_for-limit.result image.finds c.found_in-found.result c.limit_for-limit.ensures
    (image.finds_are own (c.write_end_fork-told.ensures.narrows own h)) (λ bytes found. c.found_in-found.ensures.found bytes c.limit_for-limit.result found c.in-Ok.ensures) in
    on_err_then _ _ _ (λ part. front_shown (g.S.PlacedBlocks.Holds c.write_end_fork-told.new.source.blocks) image.len c.args.words.now c.found_in-found.result is c.args.kind c.args.path.now
    c.in-Ok-path_end.end c.in-Ok-path_end.ensures (g.W.Write.contents c.args.writer.now) (g.W.Write.contents c.write_end_fork-told.new.writer) part) c.write_end_fork-told.ensures.part

pub returns-clause-told : goal.returns-clause-told
returns-clause-told g c =
    let image = c.args.image in
    let Now = g.S.PlacedBlocks.Holds c.write_end_fork-told.new.source.blocks in
    let held = c.write_end_fork-told.ensures.narrows in
    let is = λ (own : List ℕ) (h : g.S.PlacedBlocks.Holds c.write_end_fork-told.new.source.blocks own). found_known (Some own) image.len c.args.words.now c.limit_for-limit.result image.finds c.found_in-found.result c.limit_for-limit.ensures
    (image.finds_are own (held own h)) (λ bytes found. c.found_in-found.ensures.found bytes c.limit_for-limit.result found c.in-Ok.ensures) in
    told_by_each c.write_end_fork-told.result (λ s. s.fork c.args.kind c.args.path.now) image.len c.args.words.now c.found_in-found.result Now is image.check.fault image.finds
    (λ own h. image.fault_is own (held own h)) (λ own h. image.finds_are own (held own h))
    (λ bytes check finds. subst (λ e. IfOk c.write_end_fork-told.result (λ told. told ≡ fork_told c.found_in-found.result c.args.kind e)) c.in-Ok-path_end.ensures
    c.write_end_fork-told.ensures.told)

pub returns-in_default-clause-part : goal.returns-in_default-clause-part
returns-in_default-clause-part g c = λ own h.
    nothing_shown (Some own) c.args.image.len c.args.words.now (g.W.Write.contents c.args.writer.now) (λ bytes found. end_bytes bytes found c.args.kind (path_end found c.args.path.now))

pub returns-in_default-path_end-clause-part : goal.returns-in_default-path_end-clause-part
returns-in_default-path_end-clause-part g c = λ own h.
    nothing_shown (Some own) c.args.image.len c.args.words.now (g.W.Write.contents c.args.writer.now) (λ bytes found. end_bytes bytes found c.args.kind (path_end found c.args.path.now))
