-- What a report says about an image.
use Rattle.std.specs.Prelude.{ℕ, ◌-◌, ◌&&◌, ◌==◌, Bool, if◌then◌else◌, List, Option, Some, None, take, ◌≡◌}
use Rattle.std.specs.Str.{bytes_eq}
use Rattle.hfs_fields.specs.declared.mdb.Mdb.{Mdb}
use Rattle.hfs_fields.specs.Mdb.{mdb_of}
use Rattle.hfs_blocks.specs.Blocks.{block_at, block_count}
use Rattle.hfs_space.specs.Bitmap.{clear_count}
use Rattle.hfs_space.specs.Faults.{stray_count}
use Rattle.hfs_catalog.specs.Sound.{counts_of}
use Rattle.hfs_check.specs.declared.mount_fault.MountFault.{MountFault}
use Rattle.hfs_check.specs.declared.reported.Alternate.{Alternate}
use Rattle.hfs_check.specs.declared.reported.Alternate.TheVariants.{Same, Differs, Missing}
use Rattle.hfs_check.specs.declared.reported.Report.{Report}
use Rattle.hfs_check.specs.Parts.{Blocks, mdb_in, catalog_in, owned_in}
use Rattle.hfs_check.specs.Faults.{blocks_fault, fault_of}

-- ---- the alternate master directory block

-- two master directory blocks give the bitmap, the allocation blocks and the name alike
abbrev pub places_the_same : Mdb → Mdb → Bool
places_the_same a b =
    (a.bitmap_start == b.bitmap_start) && (a.allocation_blocks == b.allocation_blocks) && (a.allocation_block_size == b.allocation_block_size)
    && (a.allocation_start == b.allocation_start) && bytes_eq a.volume_name b.volume_name

abbrev pub compare_mdbs : Mdb → Mdb → Alternate
compare_mdbs mdb other = if other.signature == 0x4244 then (if places_the_same mdb other then Same else Differs) else Missing

-- the alternate is in the last of so many blocks but one
unfoldable pub alternate_in : ℕ → Blocks → Alternate
alternate_in total blocks = compare_mdbs (mdb_in blocks) (mdb_of (take 162 (blocks (total - 2))))

-- ---- the report

-- of a sound volume of so many blocks: files, and folders but the root; clear bits; marked blocks that nobody owns
unfoldable pub sound_report : ℕ → Blocks → Report
sound_report total blocks = record {
  fault = None;
  files = (counts_of (catalog_in blocks)).files;
  folders = (counts_of (catalog_in blocks)).folders;
  free = clear_count blocks (mdb_in blocks).bitmap_start (mdb_in blocks).allocation_blocks;
  alternate = alternate_in total blocks;
  unowned = stray_count blocks (mdb_in blocks) (owned_in blocks);
}

-- of an image that is refused
abbrev pub refused_report : MountFault → Report
refused_report fault = record { fault = Some fault; files = 0; folders = 0; free = 0; alternate = Missing; unowned = 0 }

abbrev pub report_with : List ℕ → Option MountFault → Report
report_with image None = sound_report (block_count image) (block_at image)
report_with image (Some fault) = refused_report fault

unfoldable pub report_of : List ℕ → Report
report_of image = report_with image (fault_of image)

-- ---- of blocks, except for the check of the image's length

-- of so many blocks with this first fault
abbrev pub report_by : ℕ → Blocks → Option MountFault → Report
report_by total blocks None = sound_report total blocks
report_by total blocks (Some fault) = refused_report fault

unfoldable pub report_in : ℕ → Blocks → Report
report_in total blocks = report_by total blocks (blocks_fault total blocks)

-- ---- the answers of those who report

-- the report of a sound volume of so many blocks
abbrev pub IsSoundReport : ℕ → Blocks → Report → Type 0
IsSoundReport total blocks report = report ≡ sound_report total blocks

-- the report on so many blocks
abbrev pub IsReportOn : ℕ → Blocks → Report → Type 0
IsReportOn total blocks report = report ≡ report_in total blocks
