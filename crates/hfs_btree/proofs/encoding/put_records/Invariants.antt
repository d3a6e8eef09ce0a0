use Rattle.std.proofs.Common.{◌≡◌, ◌-◌, ◌*◌, length}
use Rattle.hfs_btree.specs.Node.{start_of}
use Rattle.hfs_btree.specs.Laid.{AreLaid, SameHead, IsZeroFrom}
use Rattle.hfs_btree.proofs.encoding.put_records.Given as goal

abbrev pub invariant-loop-i : goal.invariant-loop-i
invariant-loop-i g l = record {
  at : l.at ≡ start_of (g.R.RecordRow.records l.row) l.i;
  laid : AreLaid (g.R.RecordRow.records l.row) l.i l.out;
  len : length l.out ≡ 512;
  head : SameHead l.initial.out l.out;
  clear : IsZeroFrom (start_of (g.R.RecordRow.records l.row) l.i) (512 - 2 * l.i) l.out;
}
