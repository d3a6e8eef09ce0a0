-- What holds the item that was found is a folder, but for 1.
use Rattle.hfs_catalog.specs.Tree.{catalog_of}
use Rattle.hfs_items.proofs.Holders.{folder_child-one, folder_child-found}
use Rattle.hfs_call_edits.proofs.placed.placed_child.Goals as goal

pub returns-then-dir-eq-ABOVE_ROOT-clause-chosen :
    goal.returns-then-dir-eq-ABOVE_ROOT-clause-chosen
returns-then-dir-eq-ABOVE_ROOT-clause-chosen g c =
    folder_child-one c.requires.next (catalog_of (g.N.Nodes.nodes c.args.nodes.now)) c.requires.catalog c.args.dir c.args.name.now c.if-dir-eq-ABOVE_ROOT.true

pub returns-else-dir-eq-ABOVE_ROOT-clause-chosen :
    goal.returns-else-dir-eq-ABOVE_ROOT-clause-chosen
returns-else-dir-eq-ABOVE_ROOT-clause-chosen g c =
    folder_child-found c.requires.next (catalog_of (g.N.Nodes.nodes c.args.nodes.now)) c.requires.catalog c.args.dir c.args.name.now c.in-Some.placed.item c.in-Some.ensures.named
    c.if-dir-eq-ABOVE_ROOT.false
