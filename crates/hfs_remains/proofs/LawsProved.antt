-- Laws of this crate, each by the laws that it stands on.
use Rattle.hfs_remains.specs.Laws.{BlocksHaveFewItems, DirectoriesAreRead, ItemsAreCounted, ItemsAreFew, RecordsAreRead, SoundDirectoryIsFound, SoundOverflowIsFound, SoundCatalogIsFound, SoundItemsAreFound}
use Rattle.hfs_remains.proofs.FewLemmas.{blocks-few}
use Rattle.hfs_remains.proofs.SumLemmas.{scattered-few}
use Rattle.hfs_remains.proofs.CountLemmas.{directories-read, items-counted}
use Rattle.hfs_remains.proofs.ReadLemmas.{records-read}
use Rattle.hfs_remains.proofs.DirectoryLemmas.{directory-is}
use Rattle.hfs_remains.proofs.SoundItemLemmas.{items-are}
use Rattle.hfs_remains.proofs.SoundLemmas.{overflow-is, records-are}

-- 512 bytes have at most six items.
pub blocks_have_few_items : BlocksHaveFewItems
blocks_have_few_items = blocks-few

-- A catalog that does not pass its check gives at most six items for each of its nodes that is there, and for each other block.
pub items_are_few : ItemsAreFew
items_are_few = scattered-few

-- The records that remain in blocks of bytes have names of at most 31 bytes and numbers of 32 bits.
pub records_are_read : RecordsAreRead
records_are_read = records-read

-- By a directory of such an image fewer than 2^48 items remain,
pub items_are_counted : ItemsAreCounted
items_are_counted = items-counted

-- and each directory that is found in an image of bytes is one of these.
pub directories_are_read : DirectoriesAreRead
directories_are_read = directories-read

-- The directory of a sound image is found in block 2, where the catalog file has a block in the directory's own extents of it.
pub sound_directory_is_found : SoundDirectoryIsFound
sound_directory_is_found = directory-is

-- Of a sound volume the records of the extents tree are its own.
pub sound_overflow_is_found : SoundOverflowIsFound
sound_overflow_is_found = overflow-is

-- Of a sound volume the records that are found are those of its catalog, in order, and none is old.
pub sound_catalog_is_found : SoundCatalogIsFound
sound_catalog_is_found = records-are

-- Of a sound volume the items are the folders and files of its catalog, in order.
pub sound_items_are_found : SoundItemsAreFound
sound_items_are_found = items-are
