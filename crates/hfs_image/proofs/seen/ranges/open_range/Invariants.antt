use Rattle.hfs_image.proofs.seen.ranges.open_range.Given as goal

-- where the range lies at first, and the files that it may lie in
abbrev pub ghosts-open_picked : goal.ghosts-open_picked
ghosts-open_picked g a =
    let range = a.source.blocks.bytes in
    record { start = range.start; len = range.len; Holds = g.S.PlacedBytes.Holds range.bytes }
