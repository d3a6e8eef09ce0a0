-- The blocks of the places before this one were read.
use Rattle.std.proofs.Common.{◌≡◌, ◌-◌, ◌≤◌, length}
use Rattle.hfs_image.specs.Gathered.{HasRead}
use Rattle.hfs_source.specs.Seen.{SeesMore}
use Rattle.hfs_remains_forks.specs.FileReads.{HasPlaces}
use Rattle.hfs_remains_forks.proofs.gathering.fetch_file.Given as goal

abbrev pub invariant-loop-i : goal.invariant-loop-i
invariant-loop-i g l = record {
  few : l.i ≤ length l.file;
  has : HasPlaces l.read l.mdb l.file 0 l.i;
  reads : HasRead (g.S.BlockSource.image l.initial.source) l.count l.initial.read l.read;
  sees : SeesMore (g.S.BlockSource.Holds l.initial.source) (g.S.BlockSource.Holds l.source) l.initial.read l.read;
  image : g.S.BlockSource.image l.source ≡ g.S.BlockSource.image l.initial.source;
}

abbrev pub decreases-loop-i : goal.decreases-loop-i
decreases-loop-i g l = length l.file - l.i
