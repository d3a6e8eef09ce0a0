-- Laws of this crate, each by the laws that it stands on.
use Rattle.hfs_word_take.proofs.PlacedItemLemmas.{bag-paths-told, items-placed}
use Rattle.hfs_word_take.proofs.NamedLemmas.{sound-placed, sound-told}
use Rattle.hfs_word_take.proofs.PathsBack.{paths-back}
use Rattle.hfs_word_take.proofs.TableRows.{rows-told}
use Rattle.hfs_word_take.specs.Laws.{ArePathsPrintedBack, BagPathsAreTold, ItemsArePlaced, SoundCatalogsTellTables, SoundItemsArePlaced, SoundPathsAreTold}

-- The law of paths: the items of a lawful volume, each as a bag has it, have plain names and paths of their own, also without regard to case.
-- So no path in the bag of such a volume leads out of it, and all differ (`bag_path_laws` of `hfs_bag`).
pub items_are_placed : ItemsArePlaced
items_are_placed = λ v lawful named. items-placed v lawful named

-- And each item lies at the path below the payload that its line in the table tells.
pub bag_paths_are_told : BagPathsAreTold
bag_paths_are_told = λ v lawful named. bag-paths-told v lawful named

-- Both of each sound image of bytes.
pub sound_items_are_placed : SoundItemsArePlaced
sound_items_are_placed = sound-placed

pub sound_paths_are_told : SoundPathsAreTold
sound_paths_are_told = sound-told

-- The rows of a sound image's catalog are those of its table.
pub sound_catalogs_tell_tables : SoundCatalogsTellTables
sound_catalogs_tell_tables = rows-told

-- And a path that is read is printed back.
pub paths_are_printed_back : ArePathsPrintedBack
paths_are_printed_back = paths-back
