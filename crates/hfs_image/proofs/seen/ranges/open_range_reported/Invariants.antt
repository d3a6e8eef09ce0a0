use Rattle.hfs_image.proofs.seen.ranges.open_range_reported.Given as goal

-- where the range lies at first, and the files that it may lie in
abbrev pub ghosts-report_picked : goal.ghosts-report_picked
ghosts-report_picked g a =
    let range = a.source.blocks.bytes in
    record { start = range.start; len = range.len; Holds = g.S.PlacedBytes.Holds range.bytes }
