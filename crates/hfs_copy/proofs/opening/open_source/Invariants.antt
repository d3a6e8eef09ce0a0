use Rattle.hfs_copy.proofs.opening.open_source.Given as goal

-- what may fail at first, of so many bytes
abbrev pub ghosts-open_noted : goal.ghosts-open_noted
ghosts-open_noted g a = record { fails = g.S.FailingBlocks.Fails a.source; len = a.len }
