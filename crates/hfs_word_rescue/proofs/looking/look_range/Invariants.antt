use Rattle.hfs_word_rescue.proofs.looking.look_range.Given as goal

-- where the range lies at first, and the files that it may lie in
abbrev pub ghosts-look_picked : goal.ghosts-look_picked
ghosts-look_picked g a =
    let range = a.source.blocks.bytes in
    record { start = range.start; len = range.len; Holds = g.S.PlacedBytes.Holds range.bytes }
