use Rattle.std.proofs.Common.{◌≡◌, [], ◌∷◌, ◌++◌, ap, ◌∙◌, subst}
use Rattle.hfs_bag.specs.Entries.{IsBeginning}
use Rattle.hfs_bag.specs.Sources.{BagTables}
use Rattle.hfs_bag.specs.Tags.{manifest_file, remains_files, table_file}
use Rattle.hfs_bag.proofs.Growing.{each_err, part_first, part_last, part_next, whole_next}
use Rattle.hfs_bag.proofs.tags.give_first.Goals as goal

pub returns-in_err-manifest-clause-part : goal.returns-in_err-manifest-clause-part
returns-in_err-manifest-clause-part g c = each_err _ (g.B.BagSource.Holds c.give_manifest.new.source) (λ image h.
    let source = g.B.BagSource.state c.args.source.now image in
    part_first (g.S.Shelf.given c.args.shelf.now) (g.S.Shelf.given c.give_manifest.new.shelf) (manifest_file source.all ∷ [])
    (table_file source.tables.items ∷ remains_files source.tables.remains) (c.in_err-manifest.ensures.part image h))

pub returns-in_err-table-clause-part : goal.returns-in_err-table-clause-part
returns-in_err-table-clause-part g c = each_err _ (g.B.BagSource.Holds c.put_file.new.source) (λ image h.
    let source = g.B.BagSource.state c.args.source.now image in
    let first = g.S.Shelf.given c.give_manifest.new.shelf in
    let now = g.S.Shelf.given c.put_file.new.shelf in
    let was = c.in_err-table.ensures.narrows image h in
    part_next (g.S.Shelf.given c.args.shelf.now) first (manifest_file source.all ∷ []) (c.in_ok-manifest.ensures.whole image was) now (table_file source.tables.items ∷ [])
    (remains_files source.tables.remains)
    (subst (λ (tables : BagTables). IsBeginning now (first ++ table_file tables.items ∷ [])) (c.in_ok-manifest.ensures.tables image was) (c.in_err-table.ensures.part image h)))

pub returns-in_err-remains-clause-part : goal.returns-in_err-remains-clause-part
returns-in_err-remains-clause-part g c = each_err _ (g.B.BagSource.Holds c.give_remains.new.source) (λ image h.
    let source = g.B.BagSource.state c.args.source.now image in
    let before = g.S.Shelf.given c.args.shelf.now in
    let first = g.S.Shelf.given c.give_manifest.new.shelf in
    let second = g.S.Shelf.given c.put_file.new.shelf in
    let now = g.S.Shelf.given c.give_remains.new.shelf in
    let after = c.in_err-remains.ensures.narrows image h in
    let was = c.in_ok-table.ensures.narrows image after in
    let tabled : second ≡ first ++ table_file source.tables.items ∷ [] =
    c.in_ok-table.ensures.whole image after ∙ ap (λ (tables : BagTables). first ++ table_file tables.items ∷ []) (c.in_ok-manifest.ensures.tables image was) in
    part_last before second (manifest_file source.all ∷ table_file source.tables.items ∷ [])
    (whole_next before first (manifest_file source.all ∷ []) (c.in_ok-manifest.ensures.whole image was) second (table_file source.tables.items ∷ []) tabled)
    now (remains_files source.tables.remains)
    (subst (λ (tables : BagTables). IsBeginning now (second ++ remains_files tables.remains))
    ((c.in_ok-table.ensures.same image after).tables ∙ c.in_ok-manifest.ensures.tables image was)
    (c.in_err-remains.ensures.part image h)))

pub returns-clause-whole : goal.returns-clause-whole
returns-clause-whole g c = λ image h.
    let source = g.B.BagSource.state c.args.source.now image in
    let before = g.S.Shelf.given c.args.shelf.now in
    let first = g.S.Shelf.given c.give_manifest.new.shelf in
    let second = g.S.Shelf.given c.put_file.new.shelf in
    let after = c.in_ok-remains.ensures.narrows image h in
    let was = c.in_ok-table.ensures.narrows image after in
    let tabled : second ≡ first ++ table_file source.tables.items ∷ [] =
    c.in_ok-table.ensures.whole image after ∙ ap (λ (tables : BagTables). first ++ table_file tables.items ∷ []) (c.in_ok-manifest.ensures.tables image was) in
    whole_next before second (manifest_file source.all ∷ table_file source.tables.items ∷ [])
    (whole_next before first (manifest_file source.all ∷ []) (c.in_ok-manifest.ensures.whole image was) second (table_file source.tables.items ∷ []) tabled)
    (g.S.Shelf.given c.give_remains.new.shelf) (remains_files source.tables.remains)
    (c.in_ok-remains.ensures.whole image h
    ∙ ap (λ (tables : BagTables). second ++ remains_files tables.remains)
    ((c.in_ok-table.ensures.same image after).tables ∙ c.in_ok-manifest.ensures.tables image was))
