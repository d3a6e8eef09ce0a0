-- What is left of the list is laid on the volume as it is.
use Rattle.std.proofs.Common.{◌≡◌, length, take, [], map, Ok}
use Rattle.hfs_check.specs.VolumeOf.{volume_of}
use Rattle.hfs_put_plan.specs.Put.{put_from}
use Rattle.hfs_put.specs.Folders.{opens}
use Rattle.hfs_put.specs.Laying.{bare, front_laid}
use Rattle.hfs_put.proofs.LaidLists.{AreLeft}
use Rattle.hfs_put.proofs.laying.lay_items.Given as goal

abbrev pub invariant-loop-item : goal.invariant-loop-item
invariant-loop-item l = record {
  count : length l.ids.items ≡ l.item-index;
  laid : AreLeft l.target l.now l.items (put_from l.target l.now 0 (volume_of l.fn.volume.current) [] (map bare l.items)) l.ids.items (volume_of l.volume.current)
      (opens l.now l.folders.items) l.item-index;
  base : l.volume.base ≡ l.fn.volume.base;
  front : front_laid l.target l.now 0 (volume_of l.fn.volume.current) [] (take l.item-index l.items) ≡ Ok (volume_of l.volume.current, opens l.now l.folders.items);
}
