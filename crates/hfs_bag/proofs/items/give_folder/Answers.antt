use Rattle.std.proofs.Common.{[], ◌∷◌, refl}
use Rattle.hfs_bag.specs.Entries.{folder}
use Rattle.hfs_bag.specs.Items.{double_entry, item_path}
use Rattle.hfs_bag.proofs.Growing.{each_err, part_done, part_first}
use Rattle.hfs_bag.proofs.items.give_folder.Goals as goal

pub returns-in_err-double-clause-part : goal.returns-in_err-double-clause-part
returns-in_err-double-clause-part g c = each_err _ (g.B.BagSource.Holds c.give_double.new.source) (λ image h.
    let item = (g.B.BagSource.state c.args.source.now image).item in
    part_first (g.S.Shelf.given c.args.shelf.now) (g.S.Shelf.given c.give_double.new.shelf) (double_entry item ∷ []) (folder (item_path item) ∷ []) (c.in_err-double.ensures.part image h))

pub returns-in_err-path-clause-part : goal.returns-in_err-path-clause-part
returns-in_err-path-clause-part g c = each_err _ (g.B.BagSource.Holds c.give_double.new.source) (λ image h.
    let item = (g.B.BagSource.state c.args.source.now image).item in
    let now = g.S.Shelf.given c.give_double.new.shelf in
    part_done (g.S.Shelf.given c.args.shelf.now) now (double_entry item ∷ []) (c.in_ok-double.ensures.whole image h) now (folder (item_path item) ∷ []) refl)
