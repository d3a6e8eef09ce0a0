use Rattle.std.proofs.Common.{[], ◌∷◌}
use Rattle.hfs_bag.proofs.Beginnings.{begins_appended}
use Rattle.hfs_bag.specs.Items.{double_entry}
use Rattle.hfs_bag.proofs.Growing.{each_err}
use Rattle.hfs_bag.proofs.items.give_double.Goals as goal

pub returns-in_err-path-clause-part : goal.returns-in_err-path-clause-part
returns-in_err-path-clause-part g c = each_err _ (g.B.BagSource.Holds c.args.source.now)
    (λ image h. begins_appended (g.S.Shelf.given c.args.shelf.now) (double_entry (g.B.BagSource.state c.args.source.now image).item ∷ []))
