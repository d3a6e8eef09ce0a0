use Rattle.std.proofs.Common.{List, ℕ, ap, ◌∙◌, subst}
use Rattle.hfs_fields.proofs.OutcomeLemmas.{on_err}
use Rattle.hfs_bag.specs.Entries.{IsBeginning, with_piece}
use Rattle.hfs_bag.proofs.FileLemmas.{part_unmade, part_text, whole_text}
use Rattle.hfs_bag.proofs.filling.put_text.Goals as goal

pub returns-in_err-make_file-clause-part : goal.returns-in_err-make_file-clause-part
returns-in_err-make_file-clause-part g c = on_err _ _ (part_unmade _ _ _ _ c.args.text.now c.in_err-make_file.ensures.part)

pub returns-in_err-append-clause-part : goal.returns-in_err-append-clause-part
returns-in_err-append-clause-part g c =
    let made = g.S.Shelf.given c.make_file.new.self in
    let now = g.S.Shelf.given c.append.new.self in
    on_err _ _ (part_text _ made _ _ c.args.text.now c.in_ok-make_file.ensures.whole now
    (subst (λ (text : List ℕ). IsBeginning now (with_piece made text)) c.as_bytes.ensures.value c.in_err-append.ensures.part))

pub returns-clause-whole : goal.returns-clause-whole
returns-clause-whole g c =
    let made = g.S.Shelf.given c.make_file.new.self in
    whole_text _ made _ _ c.args.text.now c.in_ok-make_file.ensures.whole _ (c.in_ok-append.ensures.whole ∙ ap (with_piece made) c.as_bytes.ensures.value)
