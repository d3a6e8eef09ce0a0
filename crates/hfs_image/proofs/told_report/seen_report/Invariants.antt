use Rattle.hfs_image.proofs.told_report.seen_report.Given as goal

-- what may fail at first, of so many bytes
abbrev pub ghosts-report_picked : goal.ghosts-report_picked
ghosts-report_picked g a = record { fails = g.S.PlacedBlocks.Fails a.source.blocks; len = a.len }
