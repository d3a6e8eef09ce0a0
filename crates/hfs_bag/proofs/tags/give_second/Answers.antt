use Rattle.std.proofs.Common.{◌≡◌, ℕ, List, [], ◌∷◌, codes, ap, ◌∙◌, refl, subst, None}
use Rattle.hfs_fields.proofs.OutcomeLemmas.{on_err}
use Rattle.hfs_bag.specs.Entries.{IsBeginning, file}
use Rattle.hfs_bag.specs.Filling.{with_whole_file}
use Rattle.hfs_bag.specs.Tags.{declaration_file, info_text, report_file}
use Rattle.hfs_bag.proofs.Growing.{part_done, part_first, part_next, whole_next}
use Rattle.hfs_bag.proofs.tags.give_second.Goals as goal

pub returns-in_err-report-clause-part : goal.returns-in_err-report-clause-part
returns-in_err-report-clause-part g c =
    on_err _ _ (part_first (g.S.Shelf.given c.args.shelf.now) (g.S.Shelf.given c.put_text.new.shelf) (report_file c.args.facts.now ∷ [])
    (file (codes "bag-info.txt") None (info_text c.args.facts.now c.args.bytes c.args.files) ∷ declaration_file ∷ []) c.in_err-report.ensures.part)

pub returns-in_err-text-clause-part : goal.returns-in_err-text-clause-part
returns-in_err-text-clause-part g c =
    let first = g.S.Shelf.given c.put_text.new.shelf in
    on_err _ _ (part_done (g.S.Shelf.given c.args.shelf.now) first (report_file c.args.facts.now ∷ []) c.in_ok-report.ensures.whole first
    (file (codes "bag-info.txt") None (info_text c.args.facts.now c.args.bytes c.args.files) ∷ declaration_file ∷ []) refl)

pub returns-in_err-info-clause-part : goal.returns-in_err-info-clause-part
returns-in_err-info-clause-part g c =
    let before = g.S.Shelf.given c.args.shelf.now in
    let first = g.S.Shelf.given c.put_text.new.shelf in
    let now = g.S.Shelf.given c.put_text-2.new.shelf in
    on_err _ _ (part_next before first (report_file c.args.facts.now ∷ []) c.in_ok-report.ensures.whole now
    (file (codes "bag-info.txt") None (info_text c.args.facts.now c.args.bytes c.args.files) ∷ []) (declaration_file ∷ [])
    (subst (λ (text : List ℕ). IsBeginning now (with_whole_file first (codes "bag-info.txt") text)) (c.as_str.ensures.value ∙ c.in_ok-text.ensures) c.in_err-info.ensures.part))

pub returns-in_err-declaration-clause-part : goal.returns-in_err-declaration-clause-part
returns-in_err-declaration-clause-part g c =
    let before = g.S.Shelf.given c.args.shelf.now in
    let first = g.S.Shelf.given c.put_text.new.shelf in
    let second = g.S.Shelf.given c.put_text-2.new.shelf in
    let info = file (codes "bag-info.txt") None (info_text c.args.facts.now c.args.bytes c.args.files) in
    let told : second ≡ with_whole_file first (codes "bag-info.txt") (info_text c.args.facts.now c.args.bytes c.args.files) =
    c.in_ok-info.ensures.whole ∙ ap (λ (text : List ℕ). with_whole_file first (codes "bag-info.txt") text) (c.as_str.ensures.value ∙ c.in_ok-text.ensures) in
    on_err _ _ (part_next before second (report_file c.args.facts.now ∷ info ∷ []) (whole_next before first (report_file c.args.facts.now ∷ []) c.in_ok-report.ensures.whole second (info ∷ []) told)
    _ (declaration_file ∷ []) [] c.in_err-declaration.ensures.part)

pub returns-clause-whole : goal.returns-clause-whole
returns-clause-whole g c =
    let before = g.S.Shelf.given c.args.shelf.now in
    let first = g.S.Shelf.given c.put_text.new.shelf in
    let second = g.S.Shelf.given c.put_text-2.new.shelf in
    let info = file (codes "bag-info.txt") None (info_text c.args.facts.now c.args.bytes c.args.files) in
    let told : second ≡ with_whole_file first (codes "bag-info.txt") (info_text c.args.facts.now c.args.bytes c.args.files) =
    c.in_ok-info.ensures.whole ∙ ap (λ (text : List ℕ). with_whole_file first (codes "bag-info.txt") text) (c.as_str.ensures.value ∙ c.in_ok-text.ensures) in
    whole_next before second (report_file c.args.facts.now ∷ info ∷ []) (whole_next before first (report_file c.args.facts.now ∷ []) c.in_ok-report.ensures.whole second (info ∷ []) told)
    _ (declaration_file ∷ []) c.in_ok-declaration.ensures.whole
