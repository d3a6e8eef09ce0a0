use Rattle.hfs_remains_forks.proofs.again.find_seen.Given as goal

-- what may fail at first, of so many bytes
abbrev pub ghosts-find_picked : goal.ghosts-find_picked
ghosts-find_picked g a = record { fails = g.S.PlacedBlocks.Fails a.source.blocks; len = a.len }
