use Rattle.std.proofs.Common.{◌≡◌, ℕ, List, [], ◌∷◌, ◌++◌, codes, ap, ◌∙◌, append_assoc, subst}
use Rattle.sha2.specs.Sha256.{sha256}
use Rattle.hfs_bag.specs.Entries.{ShelfEntry, IsBeginning}
use Rattle.hfs_bag.specs.declared.tags.TagDigests.{TagDigests}
use Rattle.hfs_bag.specs.Bags.{bytes_in, payload}
use Rattle.hfs_bag.specs.Filling.{with_whole_file}
use Rattle.hfs_bag.specs.Tags.{declaration_file, info_file, info_text, report_file, tag_manifest_file}
use Rattle.hfs_bag.specs.TagParts.{first_tags, second_tags}
use Rattle.hfs_bag.proofs.Growing.{each_err, part_first, part_last, part_next, whole_next}
use Rattle.hfs_bag.proofs.TagLemmas.{lines_are}
use Rattle.hfs_bag.proofs.tags.give_tags.Goals as goal

pub returns-in_err-first-clause-part : goal.returns-in_err-first-clause-part
returns-in_err-first-clause-part g c =
    each_err _ (g.B.BagSource.Holds c.give_first.new.source) (λ image h.
    let source = g.B.BagSource.state c.args.source.now image in
    part_first (g.S.Shelf.given c.args.shelf.now) (g.S.Shelf.given c.give_first.new.shelf) (first_tags source.all source.tables)
    (report_file c.args.facts.now ∷ info_file source.all c.args.facts.now ∷ declaration_file ∷ tag_manifest_file source.all source.tables c.args.facts.now ∷ []) (c.in_err-first.ensures.part image h))

pub returns-in_err-second-clause-part : goal.returns-in_err-second-clause-part
returns-in_err-second-clause-part g c =
    let facts = c.args.facts.now in
    let first = g.S.Shelf.given c.give_first.new.shelf in
    let now = g.S.Shelf.given c.give_second.new.shelf in
    each_err _ (g.B.BagSource.Holds c.give_first.new.source) (λ image h.
    let source = g.B.BagSource.state c.args.source.now image in
    let was = c.in_ok-first.ensures.narrows image h in
    let bytes_told : IsBeginning now (first ++ second_tags facts (bytes_in (payload source.all)) c.args.files) =
    subst (λ (n : ℕ). IsBeginning now (first ++ second_tags facts n c.args.files)) (c.requires.bytes image was) c.in_err-second.ensures.part in
    part_next (g.S.Shelf.given c.args.shelf.now) first (first_tags source.all source.tables) (c.in_ok-first.ensures.whole image h) now
    (report_file facts ∷ info_file source.all facts ∷ declaration_file ∷ []) (tag_manifest_file source.all source.tables facts ∷ [])
    (subst (λ (n : ℕ). IsBeginning now (first ++ second_tags facts (bytes_in (payload source.all)) n)) (c.requires.files image was) bytes_told))

pub returns-in_err-give_last-clause-part : goal.returns-in_err-give_last-clause-part
returns-in_err-give_last-clause-part g c =
    let facts = c.args.facts.now in
    let before = g.S.Shelf.given c.args.shelf.now in
    let first = g.S.Shelf.given c.give_first.new.shelf in
    let second = g.S.Shelf.given c.give_second.new.shelf in
    let now = g.S.Shelf.given c.give_last.new.shelf in
    let digests : TagDigests = record { manifest = c.in_ok-first.first.0; table = c.in_ok-first.first.1; remains = c.in_ok-first.first.2; report = c.in_ok-second.second.0; info = c.in_ok-second.second.1; declaration = c.in_ok-second.second.2 } in
    each_err _ (g.B.BagSource.Holds c.give_first.new.source) (λ image h.
    let source = g.B.BagSource.state c.args.source.now image in
    let was = c.in_ok-first.ensures.narrows image h in
    let lines = lines_are source.all source.tables facts digests (c.in_ok-first.ensures.manifest image h) (c.in_ok-first.ensures.table image h) (c.in_ok-first.ensures.remains image h) c.in_ok-second.ensures.report
    (c.in_ok-second.ensures.info ∙ ap (λ (n : ℕ). sha256 (info_text facts n c.args.files)) (c.requires.bytes image was) ∙ ap (λ (n : ℕ). sha256 (info_text facts (bytes_in (payload source.all)) n)) (c.requires.files image was))
    c.in_ok-second.ensures.declaration in
    let seconds : second ≡ first ++ (report_file facts ∷ info_file source.all facts ∷ declaration_file ∷ []) =
    c.in_ok-second.ensures.whole ∙ ap (λ (n : ℕ). first ++ second_tags facts n c.args.files) (c.requires.bytes image was)
    ∙ ap (λ (n : ℕ). first ++ second_tags facts (bytes_in (payload source.all)) n) (c.requires.files image was) in
    subst (λ (files : List ShelfEntry). IsBeginning now (before ++ files)) (append_assoc (first_tags source.all source.tables) (report_file facts ∷ info_file source.all facts ∷ declaration_file ∷ []) (tag_manifest_file source.all source.tables facts ∷ []))
    (part_last before second (first_tags source.all source.tables ++ (report_file facts ∷ info_file source.all facts ∷ declaration_file ∷ []))
    (whole_next before first (first_tags source.all source.tables) (c.in_ok-first.ensures.whole image h) second (report_file facts ∷ info_file source.all facts ∷ declaration_file ∷ []) seconds)
    now (tag_manifest_file source.all source.tables facts ∷ [])
    (subst (λ (text : List ℕ). IsBeginning now (with_whole_file second (codes "tagmanifest-sha256.txt") text)) lines c.in_err-give_last.ensures.part)))

pub returns-clause-whole : goal.returns-clause-whole
returns-clause-whole g c = λ image h.
    let source = g.B.BagSource.state c.args.source.now image in
    let was = c.in_ok-first.ensures.narrows image h in
    let facts = c.args.facts.now in
    let before = g.S.Shelf.given c.args.shelf.now in
    let first = g.S.Shelf.given c.give_first.new.shelf in
    let second = g.S.Shelf.given c.give_second.new.shelf in
    let now = g.S.Shelf.given c.give_last.new.shelf in
    let digests : TagDigests = record { manifest = c.in_ok-first.first.0; table = c.in_ok-first.first.1; remains = c.in_ok-first.first.2; report = c.in_ok-second.second.0; info = c.in_ok-second.second.1; declaration = c.in_ok-second.second.2 } in
    let lines = lines_are source.all source.tables facts digests (c.in_ok-first.ensures.manifest image h) (c.in_ok-first.ensures.table image h) (c.in_ok-first.ensures.remains image h) c.in_ok-second.ensures.report
    (c.in_ok-second.ensures.info ∙ ap (λ (n : ℕ). sha256 (info_text facts n c.args.files)) (c.requires.bytes image was) ∙ ap (λ (n : ℕ). sha256 (info_text facts (bytes_in (payload source.all)) n)) (c.requires.files image was))
    c.in_ok-second.ensures.declaration in
    let seconds : second ≡ first ++ (report_file facts ∷ info_file source.all facts ∷ declaration_file ∷ []) =
    c.in_ok-second.ensures.whole ∙ ap (λ (n : ℕ). first ++ second_tags facts n c.args.files) (c.requires.bytes image was)
    ∙ ap (λ (n : ℕ). first ++ second_tags facts (bytes_in (payload source.all)) n) (c.requires.files image was) in
    whole_next before second (first_tags source.all source.tables ++ (report_file facts ∷ info_file source.all facts ∷ declaration_file ∷ []))
    (whole_next before first (first_tags source.all source.tables) (c.in_ok-first.ensures.whole image h) second (report_file facts ∷ info_file source.all facts ∷ declaration_file ∷ []) seconds)
    now (tag_manifest_file source.all source.tables facts ∷ [])
    (c.in_ok-give_last.ensures.whole ∙ ap (λ (text : List ℕ). with_whole_file second (codes "tagmanifest-sha256.txt") text) lines)
    ∙ ap (λ (files : List ShelfEntry). before ++ files) (append_assoc (first_tags source.all source.tables) (report_file facts ∷ info_file source.all facts ∷ declaration_file ∷ []) (tag_manifest_file source.all source.tables facts ∷ []))
