-- What holds the item that was found is a folder, but for 1.
use Rattle.std.proofs.Common.{sym, ◌∙◌}
use Rattle.hfs_catalog.specs.Tree.{catalog_of}
use Rattle.hfs_items.proofs.Holders.{folder_child-one, folder_child-found}
use Rattle.hfs_items.proofs.reading.folder_child.Goals as goal

pub returns-then-dir-eq-ABOVE_ROOT : goal.returns-then-dir-eq-ABOVE_ROOT
returns-then-dir-eq-ABOVE_ROOT g c =
    folder_child-one c.requires.next (catalog_of (g.N.Nodes.nodes c.args.nodes.now)) c.requires.catalog c.args.dir c.args.name.now c.if-dir-eq-ABOVE_ROOT.true

pub returns-else-dir-eq-ABOVE_ROOT : goal.returns-else-dir-eq-ABOVE_ROOT
returns-else-dir-eq-ABOVE_ROOT g c =
    folder_child-found c.requires.next (catalog_of (g.N.Nodes.nodes c.args.nodes.now)) c.requires.catalog c.args.dir c.args.name.now c.in-Some.item (sym c.in-Some.is ∙ c.lookup.ensures)
    c.if-dir-eq-ABOVE_ROOT.false
