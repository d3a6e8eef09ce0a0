use Rattle.hfs_catalog.specs.Tree.{cat_keys}
use Rattle.hfs_repair.proofs.Openings.{some-node}
use Rattle.hfs_repair.proofs.catalog_tree.catalog_records.Goals as goal

pub invariant_of-headed : goal.invariant_of-headed
invariant_of-headed g c = record { some = some-node cat_keys c.requires.0 (g.N.Nodes.nodes c.args.nodes.now) c.args.counts.now c.requires.1 }
