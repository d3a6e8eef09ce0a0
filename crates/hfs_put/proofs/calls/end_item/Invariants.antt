-- What is left of the calls is made of the volume as it is.
use Rattle.std.proofs.Common.{◌≡◌}
use Rattle.hfs_check.specs.VolumeOf.{volume_of}
use Rattle.hfs_put_plan.specs.Accepted.{all_accepted}
use Rattle.hfs_put_plan.specs.Calls.{somes, ending}
use Rattle.hfs_put.proofs.CallRows.{rest}
use Rattle.hfs_put.proofs.calls.end_item.Given as goal

abbrev pub invariant-loop-place : goal.invariant-loop-place
invariant-loop-place l = record {
  calls : all_accepted (volume_of l.fn.volume.current) (somes (ending l.dir l.item l.now)) ≡ rest (ending l.dir l.item l.now) (volume_of l.volume.current) l.place;
  base : l.volume.base ≡ l.fn.volume.base;
}
