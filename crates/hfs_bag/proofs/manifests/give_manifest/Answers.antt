use Rattle.std.proofs.Common.{List, [], ◌∷◌, codes, ap, ◌∙◌, subst, None}
use Rattle.sha2.specs.Sha256.{sha256}
use Rattle.hfs_bag.specs.Entries.{IsBeginning, file}
use Rattle.hfs_bag.proofs.Beginnings.{begins_appended}
use Rattle.hfs_bag.specs.Items.{BagItem}
use Rattle.hfs_bag.specs.Bags.{items_entries, manifest}
use Rattle.hfs_bag.specs.Filling.{with_whole_file}
use Rattle.hfs_bag.proofs.FileLemmas.{part_unmade, part_text, whole_text}
use Rattle.hfs_bag.proofs.Growing.{each_err}
use Rattle.hfs_bag.proofs.ListingLemmas.{told_again}
use Rattle.hfs_bag.proofs.manifests.give_manifest.Goals as goal

pub returns-in_err-restart-clause-part : goal.returns-in_err-restart-clause-part
returns-in_err-restart-clause-part g c =
    each_err _ (g.B.BagSource.Holds c.restart.new.self) (λ image h. begins_appended (g.S.Shelf.given c.args.shelf.now)
    (file (codes "manifest-sha256.txt") None (manifest (items_entries (g.B.BagSource.state c.args.source.now image).all)) ∷ []))

pub returns-in_err-make_file-clause-part : goal.returns-in_err-make_file-clause-part
returns-in_err-make_file-clause-part g c =
    each_err _ (g.B.BagSource.Holds c.restart.new.self) (λ image h. part_unmade (g.S.Shelf.given c.args.shelf.now) (g.S.Shelf.given c.make_file.new.self) (codes "manifest-sha256.txt") None
    (manifest (items_entries (g.B.BagSource.state c.args.source.now image).all)) c.in_err-make_file.ensures.part)

pub list_items-requires : goal.list_items-requires
list_items-requires g c = λ image h.
    told_again c.args.told.now _ _ (c.in_ok-restart.ensures.restarted image h).left (c.requires image (c.in_ok-restart.ensures.narrows image h))

pub returns-in_err-list_items-clause-part : goal.returns-in_err-list_items-clause-part
returns-in_err-list_items-clause-part g c = each_err _ (g.B.BagSource.Holds c.list_items.new.source) (λ image h.
    let before = g.S.Shelf.given c.args.shelf.now in
    let now = g.S.Shelf.given c.list_items.new.shelf in
    subst (λ (left : List BagItem). IsBeginning now (with_whole_file before (codes "manifest-sha256.txt") (manifest (items_entries left))))
    (c.in_ok-restart.ensures.restarted image (c.in_err-list_items.ensures.narrows image h)).left
    (part_text before (g.S.Shelf.given c.make_file.new.self) (codes "manifest-sha256.txt") None (manifest (items_entries (g.B.BagSource.state c.restart.new.self image).left))
    c.in_ok-make_file.ensures.whole now (c.in_err-list_items.ensures.part image h)))

pub returns-clause-whole : goal.returns-clause-whole
returns-clause-whole g c = λ image h.
    let before = g.S.Shelf.given c.args.shelf.now in
    whole_text before (g.S.Shelf.given c.make_file.new.self) (codes "manifest-sha256.txt") None (manifest (items_entries (g.B.BagSource.state c.restart.new.self image).left))
    c.in_ok-make_file.ensures.whole (g.S.Shelf.given c.list_items.new.shelf) (c.in_ok-list_items.ensures.whole image h)
    ∙ ap (λ (left : List BagItem). with_whole_file before (codes "manifest-sha256.txt") (manifest (items_entries left)))
    (c.in_ok-restart.ensures.restarted image (c.in_ok-list_items.ensures.narrows image h)).left

pub returns-clause-digest : goal.returns-clause-digest
returns-clause-digest g c = λ image h.
    c.finalize.ensures (manifest (items_entries (g.B.BagSource.state c.restart.new.self image).left)) (c.in_ok-list_items.ensures.digest image h [] c.new-digest.ensures)
    ∙ ap (λ (left : List BagItem). sha256 (manifest (items_entries left))) (c.in_ok-restart.ensures.restarted image (c.in_ok-list_items.ensures.narrows image h)).left
