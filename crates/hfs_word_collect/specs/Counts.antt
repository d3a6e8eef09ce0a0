-- How much an image holds.
use Rattle.std.specs.Prelude.{ℕ, ◌+◌, Bool, ◌&&◌, true, if◌then◌else◌, List, [], ◌∷◌, slice_index_or, Option, Some, None}
use Rattle.hfs_fields.specs.declared.mdb.Mdb.{Mdb}
use Rattle.hfs_model.specs.declared.reply.Info.{Info}
use Rattle.hfs_model.specs.declared.reply.ItemKind.{ItemKind}
use Rattle.hfs_model.specs.declared.reply.ItemKind.TheVariants.{Folder, File}
use Rattle.hfs_model.specs.Children.{entries_of}
use Rattle.hfs_check.specs.declared.mount_fault.MountFault.{MountFault}
use Rattle.hfs_check.specs.Faults.{fault_of}
use Rattle.hfs_check.specs.VolumeOf.{volume_of}
use Rattle.hfs_source.specs.declared.ranges.FoundRange.{FoundRange}
use Rattle.hfs_source.specs.declared.ranges.Layout.{Layout}
use Rattle.hfs_source.specs.declared.ranges.Layout.TheVariants.{Plain, Raw}
use Rattle.hfs_source.specs.Found.{found_in, found_raw_in}
use Rattle.hfs_source.specs.Raw.{layout_of}
use Rattle.hfs_source.specs.Ranges.{bytes_in}
use Rattle.hfs_items.specs.ToldRows.{ToldRow, told_rows}
use Rattle.hfs_source.specs.Sectors.{user_data_of}
use Rattle.hfs_remains_forks.specs.declared.shares.FileShares.{FileShares}
use Rattle.hfs_remains_forks.specs.Verdicts.{fork_share}
use Rattle.hfs_space.specs.declared.fork_kind.ForkKind.{ForkKind}
use Rattle.hfs_space.specs.declared.fork_kind.ForkKind.TheVariants.{Data, Resource}
use Rattle.hfs_remains.specs.declared.catalog.FoundRecord.{FoundRecord}
use Rattle.hfs_rescue_items.specs.Found.{told}
use Rattle.hfs_remains_places.specs.Verdicts.{is_whole}
use Rattle.hfs_remains_forks.specs.Finds.{found_directory, found_items}
use Rattle.hfs_remains_forks.specs.Images.{FoundImage, found_image, said_of}
use Rattle.hfs_word_collect.specs.declared.counts.FileCounts.{FileCounts}
use Rattle.hfs_word_collect.specs.declared.counts.ImageCounts.{ImageCounts}
use Rattle.hfs_word_collect.specs.declared.places.Way.{Way}
use Rattle.hfs_word_collect.specs.declared.places.Way.TheVariants.{Found, WrongSum, Lost}
use Rattle.hfs_word_collect.specs.Volumes.{way_in}

-- ---- sums

abbrev pub no_files : FileCounts
no_files = record { files = 0; damaged = 0 }

abbrev pub item_files : ItemKind → Bool → FileCounts
item_files Folder whole = no_files
item_files File whole = record { files = 1; damaged = if whole then 0 else 1 }

abbrev pub both_files : FileCounts → FileCounts → FileCounts
both_files a b = record { files = a.files + b.files; damaged = a.damaged + b.damaged }

abbrev pub no_volumes : ImageCounts
no_volumes = record { volumes = 0; refused = 0; files = 0; damaged = 0; wrong_sums = 0 }

abbrev pub sound_volume : ℕ → ImageCounts
sound_volume files = record { volumes = 1; refused = 0; files = files; damaged = 0; wrong_sums = 0 }

abbrev pub refused_volume : FileCounts → ImageCounts
refused_volume counts = record { volumes = 1; refused = 1; files = counts.files; damaged = counts.damaged; wrong_sums = 0 }

abbrev pub both_volumes : ImageCounts → ImageCounts → ImageCounts
both_volumes a b = record { volumes = a.volumes + b.volumes; refused = a.refused + b.refused; files = a.files + b.files; damaged = a.damaged + b.damaged; wrong_sums = a.wrong_sums + b.wrong_sums }

-- a volume that lies in its file this way
abbrev pub wrong_sum : Way → ℕ
wrong_sum (Found container) = 0
wrong_sum WrongSum = 1
wrong_sum Lost = 0

abbrev pub lying : Way → ImageCounts → ImageCounts
lying way counts = record { volumes = counts.volumes; refused = counts.refused; files = counts.files; damaged = counts.damaged; wrong_sums = wrong_sum way }

-- ---- the files of a volume

-- those of a sound one, by the rows of its items
abbrev pub file_number : ItemKind → ℕ
file_number Folder = 0
file_number File = 1

abbrev pub file_total : List ToldRow → ℕ
file_total [] = 0
file_total (row ∷ rest) = file_number row.info.kind + file_total rest

-- a fork of an item is whole; a folder has none that isn't
abbrev pub is_fork_whole : FoundImage → ForkKind → Option FileShares → Bool
is_fork_whole f kind None = true
is_fork_whole f kind (Some file) = is_whole (said_of f file (fork_share kind file))

-- item i, of which its record tells this
abbrev pub remains_files : FoundImage → ℕ → Option Info → FileCounts
remains_files f i None = no_files
remains_files f i (Some info) =
    item_files info.kind (is_fork_whole f Data (slice_index_or f.shares i None) && is_fork_whole f Resource (slice_index_or f.shares i None))

-- those of what remains of a refused one
abbrev pub remains_files_from : FoundImage → ℕ → List FoundRecord → FileCounts
remains_files_from f i [] = no_files
remains_files_from f i (item ∷ rest) = both_files (remains_files f i (told item)) (remains_files_from f (i + 1) rest)

abbrev pub files_by : List ℕ → Option Mdb → FileCounts
files_by bytes None = no_files
files_by bytes (Some mdb) = remains_files_from (found_image bytes mdb) 0 (found_items bytes mdb)

-- ---- the volumes of a file

-- a volume with these bytes and this fault, if it has one
abbrev pub fault_counts : Option MountFault → List ℕ → ImageCounts
fault_counts None bytes = sound_volume (file_total (told_rows (entries_of (volume_of bytes))))
fault_counts (Some why) bytes = refused_volume (files_by bytes (found_directory bytes))

unfoldable pub volume_counts : List ℕ → ImageCounts
volume_counts bytes = fault_counts (fault_of bytes) bytes

-- the volume in a range of a file
abbrev pub range_counts : FoundRange → List ℕ → ImageCounts
range_counts found file = lying (way_in found file) (volume_counts (bytes_in found.range file))

-- the volumes in these ranges of a file
abbrev pub volume_counts_from : List FoundRange → List ℕ → ImageCounts
volume_counts_from [] file = no_volumes
volume_counts_from (found ∷ ranges) file = both_volumes (range_counts found file) (volume_counts_from ranges file)

-- the volume that is lost in a file, where there is a directory
abbrev pub counts_by_directory : Option Mdb → List ℕ → ImageCounts
counts_by_directory None bytes = no_volumes
counts_by_directory (Some mdb) bytes = refused_volume (files_by bytes (Some mdb))

abbrev pub lost_counts : Option MountFault → List ℕ → ImageCounts
lost_counts None file = no_volumes
lost_counts (Some why) file = counts_by_directory (found_directory file) file

-- all volumes of a file in which these ranges are found
abbrev pub all_volume_counts : List FoundRange → List ℕ → ImageCounts
all_volume_counts [] file = lost_counts (fault_of file) file
all_volume_counts (found ∷ ranges) file = volume_counts_from (found ∷ ranges) file

-- all volumes in an image's bytes, or in the user data of its raw sectors
abbrev pub content_counts : Layout → List ℕ → ImageCounts
content_counts Plain file = all_volume_counts (found_in file) file
content_counts Raw file = all_volume_counts (found_raw_in (user_data_of file)) (user_data_of file)

-- of an image with these bytes
unfoldable pub image_counts : List ℕ → ImageCounts
image_counts file = content_counts (layout_of file) file
