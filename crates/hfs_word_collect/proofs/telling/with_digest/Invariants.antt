use Rattle.hfs_word_collect.proofs.telling.with_digest.Given as goal

-- what may fail at first, of so many bytes
abbrev pub ghosts-digest_noted : goal.ghosts-digest_noted
ghosts-digest_noted g a = record { fails = g.S.PlacedBlocks.Fails a.source.blocks; len = a.len }
