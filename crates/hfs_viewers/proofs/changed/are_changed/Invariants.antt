-- The extents before this one have none of the changed blocks.
use Rattle.std.proofs.Common.{take}
use Rattle.hfs_fields.specs.Each.{Each}
use Rattle.hfs_viewers.specs.Changed.{HasNone}
use Rattle.hfs_viewers.proofs.changed.are_changed.Given as goal

abbrev pub invariant-loop-i : goal.invariant-loop-i
invariant-loop-i l = Each (HasNone l.changes l.mdb) (take l.i l.extents)
