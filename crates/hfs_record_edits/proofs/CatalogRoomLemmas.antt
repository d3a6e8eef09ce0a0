-- Lemmas about the definitions of specs/Rooms.antt.
use Rattle.std.proofs.Common.{List, arith}
use Rattle.hfs_btree.specs.Tree.{Store}
use Rattle.hfs_fields.specs.declared.key.CatKey.{CatKey}
use Rattle.hfs_catalog.specs.Records.{Record}
use Rattle.hfs_record_edits.specs.Keeps.{KeepsCatalog}
use Rattle.hfs_record_edits.specs.RecordEdits.{RecordSet}
use Rattle.hfs_record_edits.specs.Rooms.{IsInFile, HasRoom, HasRoomForTwo, TakesFewNodes, TakesNoNodes}

pub still_in_file : (given : List CatKey) (old new : Store) → KeepsCatalog given old new → IsInFile old → IsInFile new
still_in_file given old new keeps is = record { small = omega (arith, is.small, keeps.frame.nodes); file = omega (arith, is.file, keeps.frame.nodes, keeps.frame.file) }

-- there is room for one
pub room_for_first : (nodes : Store) → HasRoomForTwo nodes → HasRoom nodes
room_for_first nodes room = record { shallow = omega (arith, room.shallow); free = omega (arith, room.free) }

-- and afterwards for the other
pub room_for_second : (old new : Store) → HasRoomForTwo old → TakesFewNodes old new → HasRoom new
room_for_second old new room took = record { shallow = omega (arith, room.shallow, took.most_depth); free = omega (arith, room.free, took.most, took.most_depth) }

-- where a record went, there is as much room as before
pub room_after : (old new : Store) → HasRoom old → TakesNoNodes old new → HasRoom new
room_after old new room took = record { shallow = omega (arith, room.shallow, took.depth); free = omega (arith, room.free, took.free, took.depth) }

-- for two as well
pub room_for_two_after : (old new : Store) → HasRoomForTwo old → TakesNoNodes old new → HasRoomForTwo new
room_for_two_after old new room took = record { shallow = omega (arith, room.shallow, took.depth); free = omega (arith, room.free, took.free, took.depth) }

-- a record that is set takes none
pub set_takes_none : (r : Record) (old new : Store) → RecordSet r old new → TakesNoNodes old new
set_takes_none r old new set = record { free = omega (arith, set.free); depth = omega (arith, set.depth) }
