-- Laws of this crate, each by the laws that it stands on.
use Rattle.hfs_remains_places.proofs.LawLemmas.{paths-short}
use Rattle.hfs_remains_places.specs.Laws.{FoldersAreThings, NamesLeadDown, PathsAreHostPaths, PathsAreShort, PathsTellNames, PlacesDiffer, EndlessChainsTurn}
use Rattle.hfs_remains_places.proofs.ReturnLemmas.{endless-turns}
use Rattle.hfs_remains_places.proofs.NamedLemmas.{named-once}
use Rattle.hfs_remains_places.proofs.PlaceLemmas.{own-places}
use Rattle.hfs_remains_places.proofs.BelowLemmas.{in-folders}
use Rattle.hfs_remains_places.proofs.FolderTextLemmas.{own-folders}
use Rattle.hfs_remains_places.proofs.DownLemmas.{lead-down}
use Rattle.hfs_remains_places.proofs.DoubleLemmas.{own-doubles}
use Rattle.hfs_remains_places.proofs.WayFolderLemmas.{folders-things}
use Rattle.hfs_remains_places.proofs.WayLemmas.{host-paths-are}
use Rattle.hfs_remains_places.proofs.NameWayLemmas.{names-lead, paths-tell}
use Rattle.hfs_remains_places.specs.Things.{things_of}

-- The law of lengths: the path of a folder has at most 800 bytes, that of any item, without what stands before an old one, at most 916.
pub paths_are_short : PathsAreShort
paths_are_short = paths-short

-- The law of places: no two items, nor an item and a folder that only a thread names, lie at one path below the payload, in whatever case the
-- letters are; so it is of what they lie in; what has a path that stands before another's is a folder; and each path leads down from the payload, by parts as file systems
-- take them, none of which begins with a point; so AppleDouble files lie at paths of their own.
pub places_differ : PlacesDiffer
places_differ items namings are things = record {
  own = own-places (things_of items namings) things (named-once items namings are);
  own_folders = own-folders (things_of items namings) things (named-once items namings are);
  in_folders = in-folders (things_of items namings) things (named-once items namings are);
  down = lead-down (things_of items namings) things;
  doubles = own-doubles (things_of items namings) (own-places (things_of items namings) things (named-once items namings are));
}

-- The law of host paths: where no two things are called the same and the host paths of folders take at most 800 bytes, the path of a thing from
-- which names lead up to the payload is their host path.
pub paths_are_host_paths : PathsAreHostPaths
paths_are_host_paths = host-paths-are

-- And what that path lies in is the path of a folder from which names lead up.
pub folders_are_things : FoldersAreThings
folders_are_things = folders-things

-- The law of names: to each thing but the root that lies neither in what is old nor in what is lost, names lead from the payload down; to others none.
pub names_lead_down : NamesLeadDown
names_lead_down = names-lead

-- And where nothing is lost and no two things are called the same, they are the names of its host path.
pub paths_tell_names : PathsTellNames
paths_tell_names = paths-tell

-- The law of chains: one has no end exactly where it comes to one of its places again.
pub endless_chains_turn : EndlessChainsTurn
endless_chains_turn = endless-turns
