use Rattle.hfs_image.proofs.seen.SeenImage.file.Given as goal

-- what may fail at first, of so many bytes
abbrev pub ghosts-file_noted : goal.ghosts-file_noted
ghosts-file_noted g a = record { fails = g.S.PlacedBlocks.Fails a.source.blocks; len = a.len }
