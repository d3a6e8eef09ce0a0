use Rattle.hfs_space.specs.TreeKeys.{ext_keys}
use Rattle.hfs_repair.proofs.Openings.{some-node, headed-sound}
use Rattle.hfs_repair.proofs.catalog_tree.catalog_extents.Goals as goal

pub invariant_of-headed : goal.invariant_of-headed
invariant_of-headed g c = record { some = some-node ext_keys c.requires.right.0 (g.N.Nodes.nodes c.args.nodes.now) c.args.counts.now c.requires.right.1 }

pub fork_extents-requires : goal.fork_extents-requires
fork_extents-requires g c = headed-sound ext_keys c.requires.right.0 (g.N.Nodes.nodes c.args.nodes.now) c.args.counts.now c.requires.right.1 c.requires.order
