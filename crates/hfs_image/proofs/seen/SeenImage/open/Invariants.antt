use Rattle.hfs_image.proofs.seen.SeenImage.open.Given as goal

-- what may fail at first, of so many bytes
abbrev pub ghosts-open_noted : goal.ghosts-open_noted
ghosts-open_noted g a = record { fails = g.S.PlacedBlocks.Fails a.source.blocks; len = a.len }
