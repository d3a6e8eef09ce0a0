-- Laws of this crate, each by the laws that it stands on.
use Rattle.std.proofs.Common.{map}
use Rattle.hfs_blocks.specs.Blocks.{block_at, block_count}
use Rattle.hfs_remains_places.proofs.LawsProved.{places_differ}
use Rattle.hfs_remains_forks.specs.Records.{thing_of, namings_of}
use Rattle.hfs_remains_forks.specs.Laws.{ForksAreTheirBlocks, FoundAreThings, RecordsHaveOwnPlaces, SoundAreThings, SoundForksAreTaken, SoundForksAreWhole, SoundItemsHaveWays, SoundNamesAreOwn, SoundPathsAreHostPaths, SoundThingsAreItems}
use Rattle.hfs_remains_forks.proofs.ReadThingLemmas.{found-are-things, sound-are-things}
use Rattle.hfs_remains_forks.proofs.SoundPathLemmas.{sound-paths}
use Rattle.hfs_remains_forks.proofs.SoundWayLemmas.{ways-are}
use Rattle.hfs_remains_forks.proofs.SoundThingLemmas.{things-are, names-own}
use Rattle.hfs_remains_forks.proofs.TakenLemmas.{forks-taken}
use Rattle.hfs_remains_forks.proofs.WholeForkLemmas.{forks-whole}
use Rattle.hfs_remains_forks.proofs.SameLemmas.{forks-same, are-items}

-- The law of forks: how many bytes are taken of a fork, which these are, and what is said of it but for who else owns its blocks, are a function of
-- the numbers, the size and the beginning of the allocation blocks, the number of logical blocks, the fork's length and extents, and its blocks' bytes.
pub forks_are_their_blocks : ForksAreTheirBlocks
forks_are_their_blocks = forks-same

-- The law of places: the items among records, and the folders that records name, have places of their own, and each place leads down from the payload.
pub records_have_own_places : RecordsHaveOwnPlaces
records_have_own_places items records things = places_differ (map thing_of items) (namings_of records) (are-items items) things

-- Each sound fork of a sound volume is taken whole: its blocks are there, nothing of it is cut or missing, and its bytes are those that the volume has.
pub sound_forks_are_whole : SoundForksAreWhole
sound_forks_are_whole = forks-whole

-- No fork of a sound volume is left, where as many bytes may be taken as the volume has: no two own a block.
pub sound_forks_are_taken : SoundForksAreTaken
sound_forks_are_taken = forks-taken

-- Of a sound volume the items alone are things: no folder is named by a thread alone.
pub sound_things_are_items : SoundThingsAreItems
sound_things_are_items = things-are

-- What is found in an image of bytes has names of at most 31 bytes and numbers of 32 bits, and there are fewer than 2^64 things.
pub found_are_things : FoundAreThings
found_are_things = found-are-things

-- So it is of a sound image's.
pub sound_are_things : SoundAreThings
sound_are_things = sound-are-things

-- Of a sound volume no two items of a folder are called the same, not even but for case.
pub sound_names_are_own : SoundNamesAreOwn
sound_names_are_own image sound bytes = names-own (block_count image) (block_at image) sound.blocks (sound_are_things image sound bytes)

-- Of a sound volume names lead from each item but the root up to the payload.
pub sound_items_have_ways : SoundItemsHaveWays
sound_items_have_ways = ways-are

-- Of a sound volume whose folders' host paths take at most 800 bytes each item but the root is put at the host path of the names that lead to it.
pub sound_paths_are_host_paths : SoundPathsAreHostPaths
sound_paths_are_host_paths = sound-paths
