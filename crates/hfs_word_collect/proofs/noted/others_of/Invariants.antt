use Rattle.hfs_word_collect.proofs.noted.others_of.Given as goal

-- what may fail at first, of so many bytes
abbrev pub ghosts-others_noted : goal.ghosts-others_noted
ghosts-others_noted g a = record { fails = g.S.PlacedBytes.Fails a.source; len = a.len }
