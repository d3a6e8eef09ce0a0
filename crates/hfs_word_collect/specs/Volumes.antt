-- The rows of the volumes in a file.
use Rattle.std.specs.Prelude.{ℕ, ◌+◌, Bool, true, false, ◌==◌, if◌then◌else◌, List, [], ◌∷◌, ◌++◌, codes, length, Option, Some, None}
use Rattle.std.specs.Fmt.{decimal}
use Rattle.hfs_fields.specs.declared.mdb.Mdb.{Mdb}
use Rattle.hfs_blocks.specs.Blocks.{block_at}
use Rattle.hfs_check.specs.declared.mount_fault.MountFault.{MountFault}
use Rattle.hfs_check.specs.Faults.{fault_of}
use Rattle.hfs_check.specs.Parts.{mdb_in}
use Rattle.hfs_source.specs.declared.ranges.FoundRange.{FoundRange}
use Rattle.hfs_source.specs.declared.ranges.Layout.{Layout}
use Rattle.hfs_source.specs.declared.ranges.Layout.TheVariants.{Plain, Raw}
use Rattle.hfs_source.specs.Found.{found_in, found_raw_in}
use Rattle.hfs_source.specs.Ranges.{bytes_in, range_of}
use Rattle.hfs_source.specs.Sums.{sum_told}
use Rattle.hfs_source.specs.Sectors.{other_count, user_data_of}
use Rattle.hfs_table.specs.Columns.{moment_cell}
use Rattle.hfs_model.specs.Children.{entries_of}
use Rattle.hfs_check.specs.VolumeOf.{volume_of}
use Rattle.hfs_check.specs.Refusals.{refusal_text}
use Rattle.hfs_commands.specs.Volumes.{container_text, name_text}
use Rattle.hfs_source.specs.declared.ranges.Container.{Container}
use Rattle.hfs_remains_forks.specs.Finds.{found_directory}
use Rattle.hfs_database.specs.declared.value.RowValue.{RowValue}
use Rattle.hfs_database.specs.declared.value.RowValue.TheVariants.{Empty, Number, Text}
use Rattle.hfs_database.specs.declared.value.Table.TheVariants.{Volume}
use Rattle.hfs_database.specs.Taken.{TakenRow, row_of}
use Rattle.hfs_word_collect.specs.declared.places.Way.{Way}
use Rattle.hfs_word_collect.specs.declared.places.Way.TheVariants.{Found, WrongSum, Lost}
use Rattle.hfs_word_collect.specs.declared.places.VolumePlace.{VolumePlace}
use Rattle.hfs_word_collect.specs.Values.{cell_value, text_value}
use Rattle.hfs_word_collect.specs.Items.{item_rows}
use Rattle.hfs_word_collect.specs.Remains.{remains_rows}

-- ---- places

-- how a volume lies that was found, by what is told of its sum
abbrev pub way_of : Container → Option Bool → Way
way_of container None = Found container
way_of container (Some true) = Found container
way_of container (Some false) = WrongSum

-- a volume that was found, with this number and what is told of its sum, where so many sectors of its image have no user data
abbrev pub place_of : ℕ → ℕ → FoundRange → Option Bool → VolumePlace
place_of others number found sum = record { number = number; way = way_of found.container sum; others = others; range = found.range }

-- how a volume lies that was found in a file
abbrev pub way_in : FoundRange → List ℕ → Way
way_in found file = way_of found.container (sum_told found.container (bytes_in found.range file))

-- a volume that was found in a file
abbrev pub place_in : ℕ → ℕ → FoundRange → List ℕ → VolumePlace
place_in others number found file = place_of others number found (sum_told found.container (bytes_in found.range file))

-- the whole file of so many bytes, where its volume is lost
abbrev pub lost_place : ℕ → ℕ → VolumePlace
lost_place others len = record { number = 0; way = Lost; others = others; range = range_of 0 len }

-- how a volume lies in its file
abbrev pub way_text : Way → List ℕ
way_text (Found container) = container_text container
way_text WrongSum = codes "disk copy, sum wrong"
way_text Lost = codes "lost"

-- so many raw sectors have no user data
abbrev pub other_mode_text : ℕ → List ℕ
other_mode_text others = codes ", other mode " ++ decimal others

-- how many raw sectors have no user data, where there are some
unfoldable pub others_text : ℕ → List ℕ
others_text others = if others == 0 then [] else other_mode_text others

abbrev pub place_text : VolumePlace → List ℕ
place_text place = way_text place.way ++ others_text place.others

-- ---- the values of a row

-- number, how it lies, first byte, bytes; of raw sectors these are told of the user data
unfoldable pub range_values : VolumePlace → List RowValue
range_values place = Number place.number ∷ [] ++ Text (place_text place) ∷ [] ++ Number place.range.start ∷ [] ++ Number place.range.len ∷ []

-- name, created, modified, backup
unfoldable pub name_values : Mdb → List RowValue
name_values mdb =
    text_value (name_text mdb.volume_name) ∷ [] ++ cell_value (moment_cell mdb.created) ∷ [] ++ cell_value (moment_cell mdb.modified) ∷ []
    ++ cell_value (moment_cell mdb.backup) ∷ []

-- blocks, their bytes, free blocks
unfoldable pub block_values : Mdb → List RowValue
block_values mdb = Number mdb.allocation_blocks ∷ [] ++ Number mdb.allocation_block_size ∷ [] ++ Number mdb.free_blocks ∷ []

-- where there is no directory nothing of one is told
unfoldable pub no_directory : List RowValue
no_directory = Empty ∷ [] ++ Empty ∷ [] ++ Empty ∷ [] ++ Empty ∷ [] ++ Empty ∷ [] ++ Empty ∷ [] ++ Empty ∷ []

abbrev pub directory_values : Option Mdb → List RowValue
directory_values (Some mdb) = name_values mdb ++ block_values mdb
directory_values None = no_directory

-- sound, or the fault
abbrev pub verdict_text : Option MountFault → List ℕ
verdict_text None = codes "sound"
verdict_text (Some why) = refusal_text why

unfoldable pub volume_values : VolumePlace → Option MountFault → Option Mdb → List RowValue
volume_values place fault directory = range_values place ++ directory_values directory ++ Text (verdict_text fault) ∷ []

-- ---- the rows of a volume

-- its directory: of a sound one the block in which it belongs, of a refused one that which is found
abbrev pub told_directory : Option MountFault → List ℕ → Option Mdb
told_directory None bytes = Some (mdb_in (block_at bytes))
told_directory (Some why) bytes = found_directory bytes

-- its items: of a sound one all, of a refused one what remains
abbrev pub told_items : Bool → Option MountFault → List ℕ → List TakenRow
told_items taken None bytes = item_rows taken (entries_of (volume_of bytes))
told_items taken (Some why) bytes = remains_rows taken bytes

-- the row of a volume with these bytes and this fault, if it has one, and those of its items
unfoldable pub fault_rows : Bool → VolumePlace → Option MountFault → List ℕ → List TakenRow
fault_rows taken place fault bytes = row_of Volume (volume_values place fault (told_directory fault bytes)) ∷ told_items taken fault bytes

unfoldable pub volume_rows : Bool → VolumePlace → List ℕ → List TakenRow
volume_rows taken place bytes = fault_rows taken place (fault_of bytes) bytes

-- ---- the rows of a file

-- those of the volume in this range of a file
abbrev pub range_rows : Bool → ℕ → ℕ → FoundRange → List ℕ → List TakenRow
range_rows taken others number found file = volume_rows taken (place_in others number found file) (bytes_in found.range file)

-- those of the volumes in these ranges of a file, with numbers from this one on
abbrev pub volume_rows_from : Bool → ℕ → ℕ → List FoundRange → List ℕ → List TakenRow
volume_rows_from taken others number [] file = []
volume_rows_from taken others number (found ∷ ranges) file =
    range_rows taken others number found file ++ volume_rows_from taken others (number + 1) ranges file

-- those of a refused file in which a directory is found: none where there is none
unfoldable pub rows_by_directory : Bool → VolumePlace → MountFault → Option Mdb → List ℕ → List TakenRow
rows_by_directory taken place why None bytes = []
rows_by_directory taken place why (Some mdb) bytes = row_of Volume (volume_values place (Some why) (Some mdb)) ∷ remains_rows taken bytes

-- those of the volume that is lost in a file: none where the file is sound, since it is found then
abbrev pub lost_rows : Bool → VolumePlace → Option MountFault → List ℕ → List TakenRow
lost_rows taken place None file = []
lost_rows taken place (Some why) file = rows_by_directory taken place why (found_directory file) file

-- those of all volumes of a file in which these ranges are found
abbrev pub all_volume_rows : Bool → ℕ → List FoundRange → List ℕ → List TakenRow
all_volume_rows taken others [] file = lost_rows taken (lost_place others (length file)) (fault_of file) file
all_volume_rows taken others (found ∷ ranges) file = volume_rows_from taken others 1 (found ∷ ranges) file

-- ---- the rows of an image

-- those of all volumes in its bytes, or in the user data of its raw sectors
abbrev pub content_rows : Bool → Layout → List ℕ → List TakenRow
content_rows taken Plain file = all_volume_rows taken 0 (found_in file) file
content_rows taken Raw file = all_volume_rows taken (other_count file) (found_raw_in (user_data_of file)) (user_data_of file)
