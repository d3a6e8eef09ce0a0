use Rattle.hfs_store.proofs.entries.+lies_in.Given as goal

abbrev pub decreases-lies_in : goal.decreases-lies_in
decreases-lies_in l = l.steps
