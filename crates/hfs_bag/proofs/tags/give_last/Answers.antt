use Rattle.std.proofs.Common.{ℕ, List, [], ◌∷◌, codes, ap, ◌∙◌, subst, None}
use Rattle.hfs_fields.proofs.OutcomeLemmas.{on_err}
use Rattle.hfs_bag.specs.Entries.{IsBeginning, file}
use Rattle.hfs_bag.proofs.Beginnings.{begins_appended}
use Rattle.hfs_bag.specs.Filling.{with_whole_file}
use Rattle.hfs_bag.specs.TagParts.{tag_lines}
use Rattle.hfs_bag.proofs.tags.give_last.Goals as goal

pub returns-in_err-text-clause-part : goal.returns-in_err-text-clause-part
returns-in_err-text-clause-part g c = on_err _ _ (begins_appended (g.S.Shelf.given c.args.shelf.now) (file (codes "tagmanifest-sha256.txt") None (tag_lines c.args.tags.now) ∷ []))

pub returns-in_err-put_text-clause-part : goal.returns-in_err-put_text-clause-part
returns-in_err-put_text-clause-part g c =
    let before = g.S.Shelf.given c.args.shelf.now in
    let now = g.S.Shelf.given c.put_text.new.shelf in
    on_err _ _ (subst (λ (text : List ℕ). IsBeginning now (with_whole_file before (codes "tagmanifest-sha256.txt") text)) (c.as_str.ensures.value ∙ c.in_ok-text.ensures) c.in_err-put_text.ensures.part)

pub returns-clause-whole : goal.returns-clause-whole
returns-clause-whole g c =
    c.in_ok-put_text.ensures.whole
    ∙ ap (λ (text : List ℕ). with_whole_file (g.S.Shelf.given c.args.shelf.now) (codes "tagmanifest-sha256.txt") text) (c.as_str.ensures.value ∙ c.in_ok-text.ensures)
