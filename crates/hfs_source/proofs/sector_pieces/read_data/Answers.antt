-- Sector by sector.
use Rattle.std.proofs.Common.{rules, ◌≡◌, ◌∙◌, ◌+◌, ◌-◌, ◌/◌, ◌%◌, min, length, arith}
use Rattle.hfs_fields.specs.Mdb.{bytes_at}
use Rattle.hfs_source.specs.Sectors.{sector_data}
use Rattle.hfs_source.proofs.DataLemmas.{laid-more}
use borrow.Rule.Slice.PartMut.{put_mid}
use Rattle.hfs_source.proofs.sector_pieces.read_data.Goals as goal

pub loop-done-preserved : goal.loop-done-preserved
loop-done-preserved g c =
    let done = c.loop-done.done in
    let count = c.min-count.result in
    let at = c.args.place + done in
    let size : count ≡ min (length c.loop-done.into - done) (2048 - at % 2048) = search rules in
    let filled : length c.put_data.new.part ≡ count = search rules in
    let is : c.put_data.new.part ≡ bytes_at (at % 2048) count (sector_data c.in_ok-sector.sector) = search rules in
    let long : length (put_mid done (done + count - done) c.loop-done.into c.put_data.new.part) ≡ length c.loop-done.into = search rules in
    let whole : length c.in_ok-sector.sector ≡ 2352 = search rules in
    record {
      long = long ∙ c.loop-done.invariant.long;
      few = omega (arith, long, size, c.loop-done-test.true);
      laid = λ file holds.
          laid-more (at / 2048) (at % 2048) c.args.place done count (done + count - done) c.in_ok-sector.sector c.loop-done.into c.put_data.new.part file
          (omega arith) (omega (arith, size)) whole (c.in_ok-sector.ensures.read file holds) filled is
          c.loop-done.invariant.few (c.loop-done.invariant.laid file (c.in_ok-sector.ensures.held file holds));
      held = λ file holds. c.loop-done.invariant.held file (c.in_ok-sector.ensures.held file holds);
      later = λ place count fails. c.loop-done.invariant.later place count (c.in_ok-sector.ensures.later place count fails);
    }
