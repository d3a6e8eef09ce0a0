use Rattle.hfs_word_collect.proofs.noted.layout_of.Given as goal

-- what may fail at first, of so many bytes
abbrev pub ghosts-layout_noted : goal.ghosts-layout_noted
ghosts-layout_noted g a = record { fails = g.S.PlacedBytes.Fails a.source; len = a.len }
