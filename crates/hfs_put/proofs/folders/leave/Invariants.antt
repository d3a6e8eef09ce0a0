-- What is left of the folders is left of the volume as it is.
use Rattle.std.proofs.Common.{◌≡◌, length}
use Rattle.hfs_check.specs.VolumeOf.{volume_of}
use Rattle.hfs_put_plan.specs.Put.{left}
use Rattle.hfs_put.specs.Folders.{opens}
use Rattle.hfs_put.proofs.folders.leave.Given as goal

abbrev pub invariant-loop-folder : goal.invariant-loop-folder
invariant-loop-folder l = record {
  left_is : left l.parent (volume_of l.fn.volume.current) (opens l.now l.fn.folders.items) ≡ left l.parent (volume_of l.volume.current) (opens l.now l.folders.items);
  base : l.volume.base ≡ l.fn.volume.base;
}

abbrev pub decreases-loop-folder : goal.decreases-loop-folder
decreases-loop-folder l = length l.folders.items
