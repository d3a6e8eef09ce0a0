-- What is printed of a repair.
use Rattle.std.specs.Prelude.{◌≡◌, ℕ, List, ◌++◌, Option, Some, None, Result, Ok, Err, codes, length, string_bytes}
use Rattle.std.proofs.Common.{String, Global}
use Rattle.std.specs.List.{flat_map}
use Rattle.std.specs.Fmt.{decimal}
use Rattle.hfs_check.specs.declared.mount_fault.MountFault.{MountFault}
use Rattle.hfs_check.specs.Faults.{fault_of}
use Rattle.hfs_repair.specs.declared.fixed.Fix.{Fix}
use Rattle.hfs_repair.specs.declared.fixed.FixPlace.{FixPlace}
use Rattle.hfs_repair.specs.declared.fixed.FixPlace.TheVariants.{RootFiles, FreeBlocks, RootFolders, Files, Folders, ExtentsRecords, ExtentsFree, CatalogRecords, CatalogFree, Valence}
use Rattle.hfs_repair.specs.Fixes.{AreFixes}
use Rattle.hfs_repair.specs.Repair.{repair, wrong_in}
use Rattle.hfs_commands.specs.Checks.{refused_line}
use Rattle.hfs_texts.specs.Lines.{line}
use Rattle.hfs_volume.specs.Image.{patched}
use Rattle.hfs_commands.specs.declared.patched_image.PatchedImage.{PatchedImage}

-- which number
unfoldable pub place_text : FixPlace → List ℕ
place_text RootFiles = codes "drNmFls"
place_text FreeBlocks = codes "drFreeBks"
place_text RootFolders = codes "drNmRtDirs"
place_text Files = codes "drFilCnt"
place_text Folders = codes "drDirCnt"
place_text ExtentsRecords = codes "extents bthNRecs"
place_text ExtentsFree = codes "extents bthFree"
place_text CatalogRecords = codes "catalog bthNRecs"
place_text CatalogFree = codes "catalog bthFree"
place_text (Valence id) = codes "valence " ++ decimal id

-- which number, what the volume told, and what is counted
unfoldable pub fix_text : Fix → List ℕ
fix_text fix = place_text fix.place ++ codes " " ++ decimal fix.was ++ codes " " ++ decimal fix.now

-- the line of a number that is mended
unfoldable pub fixed_line : Fix → List ℕ
fixed_line fix = line (codes "fixed") (fix_text fix)

unfoldable pub fixed_lines : List Fix → List ℕ
fixed_lines fixes = flat_map fixed_line fixes

-- a line for each number that is mended, and the last one
unfoldable pub repaired_lines : List Fix → List ℕ
repaired_lines fixes = fixed_lines fixes ++ codes "sound\n"

-- the repaired image has a fault, and these are the first, the status and its line
pub record IsRefused (image : List ℕ) (told : Option MountFault) (status : ℕ) (lines : List ℕ) : Type 0 where
  pub why : MountFault
  pub fault : fault_of (repair image) ≡ Some why
  pub told_is : told ≡ Some why
  pub status_is : status ≡ 2
  pub line_is : lines ≡ refused_line why

-- the repaired image is sound and is this one, and these are the status and the lines of the numbers that were wrong
pub record IsRepaired (image : List ℕ) (current : List ℕ) (told : Option MountFault) (status : ℕ) (lines : List ℕ) : Type 0 where
  pub fixes : List Fix
  pub are : AreFixes (wrong_in image) fixes
  pub mended : current ≡ repair image
  pub told_is : told ≡ None
  pub status_is : status ≡ 0
  pub lines_are : lines ≡ repaired_lines fixes

-- what a repaired image is read from, or a refused one was
abbrev pub source_of : {S : Type 0} → Result (PatchedImage S) S → S
source_of (Ok contents) = contents.source
source_of (Err source) = source

-- the repaired image is refused; or it is the image with these changed blocks in place of its own, all of it; and this is what is told of it
abbrev pub TellsRepair : {S : Type 0} → List ℕ → Result (PatchedImage S) S → Option MountFault → ℕ → List ℕ → Type 0
TellsRepair image (Ok contents) told status lines = (contents.len ≡ length image) × IsRepaired image (patched contents.patch image) told status lines
TellsRepair image (Err source) told status lines = IsRefused image told status lines

-- the status and the lines of a mended image that has this first fault, or none
abbrev pub IsMendedText : List Fix → Option MountFault → ℕ × String Global → Type 0
IsMendedText fixes None told = (told.0 ≡ 0) × (string_bytes told.1 ≡ repaired_lines fixes)
IsMendedText fixes (Some why) told = (told.0 ≡ 2) × (string_bytes told.1 ≡ refused_line why)
