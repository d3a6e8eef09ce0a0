use Rattle.hfs_image.proofs.seen.SeenImage.write_fork.Given as goal

-- what may fail at first, of so many bytes
abbrev pub ghosts-write_noted : goal.ghosts-write_noted
ghosts-write_noted g a = record { fails = g.S.PlacedBlocks.Fails a.source.blocks; len = a.len }
