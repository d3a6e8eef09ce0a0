use Rattle.std.proofs.Common.{List, ℕ, [], ◌∷◌, Option, ◌∙◌, subst}
use Rattle.hfs_bag.specs.Entries.{IsBeginning}
use Rattle.hfs_bag.proofs.Beginnings.{begins_appended}
use Rattle.hfs_bag.specs.declared.item.BagKind.TheVariants as kind
use Rattle.hfs_bag.specs.Items.{data_entry, double_entry, entries_of_kind, item_path}
use Rattle.hfs_bag.specs.Filling.{with_dated_file}
use Rattle.hfs_bag.proofs.Growing.{each_err, part_first}
use Rattle.hfs_bag.proofs.items.give_file.Goals as goal

pub returns-in_err-path-clause-part : goal.returns-in_err-path-clause-part
returns-in_err-path-clause-part g c = each_err _ (g.B.BagSource.Holds c.args.source.now)
    (λ image h. begins_appended (g.S.Shelf.given c.args.shelf.now) (entries_of_kind kind.File (g.B.BagSource.state c.args.source.now image).item))

pub returns-in_err-data-clause-part : goal.returns-in_err-data-clause-part
returns-in_err-data-clause-part g c = each_err _ (g.B.BagSource.Holds c.put_file.new.source) (λ image h.
    let before = g.S.Shelf.given c.args.shelf.now in
    let now = g.S.Shelf.given c.put_file.new.shelf in
    let item = (g.B.BagSource.state c.args.source.now image).item in
    let was = c.in_err-data.ensures.narrows image h in
    part_first before now (data_entry item ∷ []) (double_entry item ∷ [])
    (subst (λ (time : Option ℕ). IsBeginning now (with_dated_file before (item_path item) time item.data_fork)) (c.requires image was).modified_is
    (subst (λ (path : List ℕ). IsBeginning now (with_dated_file before path c.args.head.now.modified item.data_fork)) (c.as_str.ensures.value ∙ c.in_ok-path.ensures image was)
    (c.in_err-data.ensures.part image h))))
