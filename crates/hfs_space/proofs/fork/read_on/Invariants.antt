-- What was read, and what is left to read behind the place, is the whole answer.
use Rattle.std.proofs.Common.{◌≡◌, ◌++◌, ◌-◌, length, take, drop}
use Rattle.hfs_space.specs.Places.{IsPlace, bytes_behind}
use Rattle.hfs_space.proofs.fork.read_on.Given as goal

abbrev pub invariant-loop-at : goal.invariant-loop-at
invariant-loop-at g l = record {
  place : IsPlace l.mdb l.extents l.at;
  read : l.bytes.items ++ take l.rest (bytes_behind (g.B.Blocks.blocks l.blocks) l.mdb l.extents l.at)
      ≡ take l.count (bytes_behind (g.B.Blocks.blocks l.blocks) l.mdb l.extents l.fn.place);
  behind : drop l.rest (bytes_behind (g.B.Blocks.blocks l.blocks) l.mdb l.extents l.at)
      ≡ drop l.count (bytes_behind (g.B.Blocks.blocks l.blocks) l.mdb l.extents l.fn.place);
}

abbrev pub decreases-loop-at : goal.decreases-loop-at
decreases-loop-at g l = length l.extents - l.at.extent
