use Rattle.std.proofs.Common.{arith, sym, ◌∙◌}
use Rattle.hfs_btree_checks.proofs.ShapeMarks.{clear-yes, clear-no}
use Rattle.hfs_btree_checks.proofs.shape_map.clear_count.Goals as goal
use Rattle.hfs_btree_checks.proofs.shape_map.clear_count.Goals.{then-not-bit_at, else-not-bit_at}

pub loop-i-preserved : goal.loop-i-preserved
loop-i-preserved c =
    elim c.if-not-bit_at.branch [
      | then-not-bit_at w ↦
          let more = clear-yes c.args.bytes.now c.loop-i.i (sym c.bit_at.ensures ∙ w.if-not-bit_at.true) in
          record { counted = omega (arith, more); few = omega arith }
      | else-not-bit_at w ↦
          let more = clear-no c.args.bytes.now c.loop-i.i (sym c.bit_at.ensures ∙ w.if-not-bit_at.false) in
          record { counted = omega (arith, more); few = omega arith }
    ]
