-- what is told behind the names so far
use Rattle.std.specs.Prelude.{◌≡◌, take}
use Rattle.std.specs.List.{fold}
use Rattle.hfs_commands.specs.Entries.{entries_in}
use Rattle.hfs_model.specs.Reading.{get_cat_info}
use Rattle.hfs_image.specs.Paths.{told_next}
use Rattle.hfs_word_put.proofs.target.told_behind.Given as goal

abbrev pub invariant-loop-name : goal.invariant-loop-name
invariant-loop-name l = l.told ≡ fold (told_next (get_cat_info (entries_in l.volume.current))) l.fn.root (take l.name-index l.below)
