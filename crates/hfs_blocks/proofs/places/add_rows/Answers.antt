-- The rest of the row's blocks have the row that one of them has.
use Rattle.std.proofs.Common.{◌<◌, ◌≤◌, ◌∙◌, ⊎_elim, arith}
use Rattle.std.proofs.lemmas.Bool.{cases_lt}
use Rattle.hfs_blocks.proofs.PlaceLemmas.{row-same}
use Rattle.hfs_blocks.proofs.places.add_rows.Goals as goal

pub loop-n-preserved : goal.loop-n-preserved
loop-n-preserved c = record {
  within = omega (arith, c.min-n.ensures);
  same = λ m. c.in_ok-add_row.ensures.same m ∙ c.loop-n.invariant.same m;
  kept = λ m there. c.in_ok-add_row.ensures.kept m (c.loop-n.invariant.kept m there);
  there = λ m low high. ⊎_elim
      (λ (lt : m < c.loop-n.n). c.in_ok-add_row.ensures.kept m (c.loop-n.invariant.there m low lt))
      (λ (ge : c.loop-n.n ≤ m). row-same _ c.loop-n.n m (omega (arith, ge, high, c.min-n.ensures)) c.in_ok-add_row.ensures.there)
      (cases_lt m c.loop-n.n);
}
