-- The places of some more blocks of one row are set.
use Rattle.std.proofs.Common.{◌+◌, ◌≤◌, ◌%◌, arith}
use Rattle.hfs_blocks.specs.Places.{HasRow}
use Rattle.hfs_blocks.proofs.PlaceLemmas.{placed-next, placed-none, rows-kept}
use Rattle.hfs_blocks.proofs.places.set_places.Goals as goal

pub loop-done-init : goal.loop-done-init
loop-done-init c = record { few = omega arith; placed = placed-none c.args.first c.args.place c.args.places.now.entries; kept = λ n there. there }

pub set_in_rows-requires-clause-row : goal.set_in_rows-requires-clause-row
unfolding HasRow
set_in_rows-requires-clause-row c =
    c.loop-done.invariant.kept (c.args.first + c.loop-done.done) (c.requires.rows (c.args.first + c.loop-done.done) (omega arith) (omega (arith, c.loop-done-test.true)))

pub loop-done-preserved : goal.loop-done-preserved
loop-done-preserved c =
    let one : (c.args.first + c.loop-done.done) % 16 + c.min-more.result ≤ 16 = omega (arith, c.min-more.ensures) in
    record {
      few = omega (arith, c.min-more.ensures, c.loop-done.invariant.few);
      placed = placed-next c.args.places.now.entries c.loop-done.places.entries _ c.args.first c.loop-done.done c.min-more.result c.args.place (c.args.first + c.loop-done.done) (omega arith) one
          c.set_in_rows.ensures.set c.set_in_rows.ensures.others c.loop-done.invariant.placed;
      kept = λ n there. rows-kept c.loop-done.places.entries _ c.set_in_rows.ensures.kept n (c.loop-done.invariant.kept n there);
    }
