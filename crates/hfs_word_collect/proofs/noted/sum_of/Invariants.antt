use Rattle.hfs_word_collect.proofs.noted.sum_of.Given as goal

-- what may fail at first, of so many bytes
abbrev pub ghosts-sum_noted : goal.ghosts-sum_noted
ghosts-sum_noted g a = record { fails = g.S.PlacedBytes.Fails a.source; len = a.len }
