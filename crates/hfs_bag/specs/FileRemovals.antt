-- What a removal of a file is as what was asked.
use Rattle.std.specs.Prelude.{ℕ, List}
use Rattle.hfs_bag.specs.SystemSteps.{Asked, removed_file, found_folder}
use Rattle.hfs_bag.specs.declared.system.Removal.{Removal}
use Rattle.hfs_bag.specs.declared.system.Removal.TheVariants.{Gone, Folder}

-- nothing but a folder is at this path any more, or a folder was found
abbrev pub removal_of : Removal → List ℕ → Asked
removal_of Gone path = removed_file path
removal_of Folder path = found_folder path
