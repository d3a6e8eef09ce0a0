-- There are rows for some more numbers, which follow one another.
use Rattle.std.proofs.Common.{◌∙◌, refl, arith}
use Rattle.hfs_blocks.proofs.TableLemmas.{rows-next}
use Rattle.hfs_blocks.proofs.table.add_rows_for.Goals as goal

pub loop-done-preserved : goal.loop-done-preserved
loop-done-preserved c = record {
  few = omega (arith, c.following-count.ensures.within);
  same = λ n. c.in_ok-add_rows.ensures.same n ∙ c.loop-done.invariant.same n;
  rows = rows-next c.args.numbers.now c.loop-done.places.entries _ c.loop-done.done c.following-count.result _ refl c.following-count.ensures.follow c.in_ok-add_rows.ensures.kept c.in_ok-add_rows.ensures.there c.loop-done.invariant.rows;
}
