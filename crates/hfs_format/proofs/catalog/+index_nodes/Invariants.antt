use Rattle.hfs_format.proofs.catalog.+index_nodes.Given as goal

abbrev pub decreases-index_nodes : goal.decreases-index_nodes
decreases-index_nodes l = l.levels
