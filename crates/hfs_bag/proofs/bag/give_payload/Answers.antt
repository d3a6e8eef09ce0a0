use Rattle.std.proofs.Common.{List, [], ◌∷◌, ◌++◌, codes, ap, map, ◌∙◌, subst, rules}
use Rattle.hfs_bag.specs.Entries.{IsBeginning, folder}
use Rattle.hfs_bag.proofs.Beginnings.{begins_appended}
use Rattle.hfs_bag.specs.Items.{BagItem, item_digests}
use Rattle.hfs_bag.specs.Bags.{bytes_in, items_entries, payload}
use Rattle.hfs_bag.specs.Faults.{AreTooMany, IsPayloadFault}
use Rattle.hfs_bag.proofs.FaultLemmas.{larger}
use Rattle.hfs_bag.proofs.Growing.{each_err, part_first, part_last, whole_next}
use Rattle.hfs_bag.proofs.bag.give_payload.Goals as goal

pub returns-in_err-restart-clause-part : goal.returns-in_err-restart-clause-part
returns-in_err-restart-clause-part g c = each_err _ (g.B.BagSource.Holds c.restart.new.self)
    (λ image h. begins_appended (g.S.Shelf.given c.args.shelf.now) (payload (g.B.BagSource.state c.args.source.now image).all))

pub returns-in_err-make_folder-clause-part : goal.returns-in_err-make_folder-clause-part
returns-in_err-make_folder-clause-part g c = each_err _ (g.B.BagSource.Holds c.restart.new.self) (λ image h.
    part_first (g.S.Shelf.given c.args.shelf.now) (g.S.Shelf.given c.make_folder.new.self) (folder (codes "data") ∷ []) (items_entries (g.B.BagSource.state c.args.source.now image).all)
    c.in_err-make_folder.ensures.part)

pub returns-in_err-given-clause-part : goal.returns-in_err-given-clause-part
returns-in_err-given-clause-part g c = each_err _ (g.B.BagSource.Holds c.give_items.new.source) (λ image h.
    let first = g.S.Shelf.given c.make_folder.new.self in
    let now = g.S.Shelf.given c.give_items.new.shelf in
    part_last (g.S.Shelf.given c.args.shelf.now) first (folder (codes "data") ∷ []) c.in_ok-make_folder.ensures.whole
    now (items_entries (g.B.BagSource.state c.args.source.now image).all)
    (subst (λ (left : List BagItem). IsBeginning now (first ++ items_entries left)) (c.in_ok-restart.ensures.restarted image (c.in_err-given.ensures.narrows image h)).left
    (c.in_err-given.ensures.part image h)))

pub returns-clause-whole : goal.returns-clause-whole
returns-clause-whole g c = λ image h.
    let first = g.S.Shelf.given c.make_folder.new.self in
    whole_next (g.S.Shelf.given c.args.shelf.now) first (folder (codes "data") ∷ []) c.in_ok-make_folder.ensures.whole (g.S.Shelf.given c.give_items.new.shelf)
    (items_entries (g.B.BagSource.state c.args.source.now image).all)
    (c.in_ok-given.ensures.whole image h
    ∙ ap (λ (items : List BagItem). first ++ items_entries items) (c.in_ok-restart.ensures.restarted image (c.in_ok-given.ensures.narrows image h)).left)

pub returns-clause-told : goal.returns-clause-told
returns-clause-told g c = λ image h.
    let again = (c.in_ok-restart.ensures.restarted image (c.in_ok-given.ensures.narrows image h)).left in
    record {
      digests_are = c.in_ok-given.ensures.digests image h ∙ ap (map item_digests) again;
      bytes_are = c.in_ok-given.ensures.bytes image h ∙ ap (λ (items : List BagItem). bytes_in (items_entries items)) again;
    }

pub returns-clause-kept : goal.returns-clause-kept
returns-clause-kept g c = λ image h.
    let restarted = c.in_ok-restart.ensures.restarted image (c.in_ok-given.ensures.narrows image h) in
    record {
      all = c.in_ok-given.ensures.all image h ∙ restarted.all;
      tables = c.in_ok-given.ensures.tables image h ∙ restarted.tables;
    }

pub returns-in_err-given-clause-fault : goal.returns-in_err-given-clause-fault
returns-in_err-given-clause-fault g c =
    let Holds = g.B.BagSource.Holds c.give_items.new.source in
    let state = g.B.BagSource.state c.args.source.now in
    let Shelf = g.S.Shelf.Fails (g.S.Shelf.place c.make_folder.new.self) in
    let fault : IsPayloadFault g.B.BagSource.Fails Shelf Holds state c.in_err-given.field-0.0 = larger g.B.BagSource.Fails Shelf c.in_err-given.field-0.0
    (λ many image h. subst (λ (items : List BagItem). AreTooMany (bytes_in (items_entries items)))
    (c.in_ok-restart.ensures.restarted image (c.in_err-given.ensures.narrows image h)).left (many image h))
    c.in_err-given.ensures.fault in
    search rules
