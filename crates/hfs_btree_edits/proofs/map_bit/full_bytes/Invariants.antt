use Rattle.std.proofs.Common.{◌*◌}
use Rattle.hfs_btree_edits.specs.MapPlaces.{AreAllSet}
use Rattle.hfs_btree_edits.proofs.map_bit.full_bytes.Given as goal

abbrev pub invariant-loop-i : goal.invariant-loop-i
invariant-loop-i l = AreAllSet (8 * l.i) l.bytes
