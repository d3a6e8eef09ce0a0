use Rattle.hfs_image.proofs.seen.SeenImage.open_reported.Given as goal

-- what may fail at first, of so many bytes
abbrev pub ghosts-report_noted : goal.ghosts-report_noted
ghosts-report_noted g a = record { fails = g.S.PlacedBlocks.Fails a.source.blocks; len = a.len }
