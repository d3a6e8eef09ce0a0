-- Laws of this crate, each by the laws that it stands on.
use Rattle.hfs_space.proofs.Agreed.{no_tree_file_fault as no_tree_file_fault-proved, no_fork_fault as no_fork_fault-proved}
use Rattle.hfs_space.proofs.LawTypes.{NoTreeFileFault, NoForkFault, NoSpaceFault, OwnedAreWithin}
use Rattle.hfs_space.proofs.OwnedOnce.{no_space_fault as no_space_fault-proved}
use Rattle.hfs_space.proofs.OwnedWithin.{owned_are_within as owned_are_within-proved}

-- The check of a tree's file passes exactly where the file lies in the volume and has room for its bytes.
pub no_tree_file_fault : NoTreeFileFault
no_tree_file_fault = no_tree_file_fault-proved

-- The check of extents finds no fault exactly where the files' forks and the records of the extents tree are sound.
pub no_fork_fault : NoForkFault
no_fork_fault = no_fork_fault-proved

-- The check of space finds no fault exactly where the space is sound. The owned blocks are among the volume's.
pub no_space_fault : NoSpaceFault
no_space_fault = no_space_fault-proved

-- Where the trees' files and the forks are sound, the blocks that somebody owns are among the volume's.
pub owned_are_within : OwnedAreWithin
owned_are_within = owned_are_within-proved
