-- Why an image is refused.
use Rattle.std.specs.Prelude.{List, ℕ, ◌++◌, codes}
use Rattle.std.specs.Fmt.{decimal}
use Rattle.hfs_check.specs.declared.mount_fault.MountFault.{MountFault}
use Rattle.hfs_check.specs.declared.mount_fault.MountFault.TheVariants as mount

-- why an image is refused, with the File Manager's own code where it has one
unfoldable pub refusal_text : MountFault → List ℕ
refusal_text mount.TooLarge = codes "image too large"
refusal_text mount.Short = codes "image too short"
refusal_text mount.NoMacDisk = codes "not an HFS volume (-57)"
refusal_text (mount.BadMdb test) = codes "bad master directory block M" ++ decimal test ++ codes " (-60)"
refusal_text (mount.Check number place) = codes "check C" ++ decimal number ++ codes " at " ++ decimal place
refusal_text mount.Memory = codes "out of memory"
