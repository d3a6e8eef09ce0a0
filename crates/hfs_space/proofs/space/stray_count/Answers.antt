-- One more block may be a stray one.
use Rattle.std.proofs.Common.{◌+◌, ◌<◌, Bool, cond, length, ap, ◌∙◌, arith}
use Rattle.std.proofs.lemmas.List.FromFn.{length-map-range_with_len}
use Rattle.hfs_space.specs.Extents.{extent_blocks}
use Rattle.hfs_space.specs.Bitmap.{count_below, is_used}
use Rattle.hfs_space.specs.Owners.{owners, is_stray_block}
use Rattle.hfs_space.proofs.SpaceWalk.{count-read, stray-more}
use Rattle.hfs_space.proofs.space.stray_count.Goals as goal
use Rattle.hfs_space.proofs.space.stray_count.Goals.{then-stray, else-stray}

pub index-requires : goal.index-requires
index-requires g c = omega (arith, ap length c.in_ok-marks.ensures, length-map-range_with_len (is_used (g.B.Blocks.blocks c.args.blocks.now) c.args.mdb.now.bitmap_start) 0 c.args.mdb.now.allocation_blocks)

pub index-requires-in-loop-block : goal.index-requires-in-loop-block
index-requires-in-loop-block g c = omega (arith, ap length c.in_ok-counts.ensures, length-map-range_with_len (owners (extent_blocks c.args.owned.now)) 0 c.args.mdb.now.allocation_blocks)

pub loop-block-preserved : goal.loop-block-preserved
loop-block-preserved g c =
    let lt : c.loop-block.block < c.args.mdb.now.allocation_blocks = omega arith in
    let mark = count-read (is_used (g.B.Blocks.blocks c.args.blocks.now) c.args.mdb.now.bitmap_start) c.args.mdb.now.allocation_blocks c.loop-block.block c.from-place.result c.in_ok-marks.marks.items c.index.result.now lt c.from-place.ensures c.in_ok-marks.ensures c.index.ensures in
    let own = count-read (owners (extent_blocks c.args.owned.now)) c.args.mdb.now.allocation_blocks c.loop-block.block c.from-place.result c.in_ok-counts.counts.items c.index-in-loop-block.result.now lt c.from-place.ensures c.in_ok-counts.ensures c.index-in-loop-block.ensures in
    let more = stray-more (g.B.Blocks.blocks c.args.blocks.now) c.args.mdb.now (extent_blocks c.args.owned.now) c.loop-block.block c.index-in-loop-block.result.now c.index.result.now c.is_stray-stray.result own mark c.is_stray-stray.ensures in
    elim c.if-stray.branch [
      | then-stray w ↦
          let one = more ∙ ap (λ (t : Bool). count_below (is_stray_block (g.B.Blocks.blocks c.args.blocks.now) c.args.mdb.now (extent_blocks c.args.owned.now)) c.loop-block.block + cond t 1 0) w.if-stray.true in
          record { counted = omega (arith, one, w.strays-is, c.loop-block.invariant.counted); few = omega (arith, w.strays-is, c.loop-block.invariant.few) }
      | else-stray w ↦
          let none = more ∙ ap (λ (t : Bool). count_below (is_stray_block (g.B.Blocks.blocks c.args.blocks.now) c.args.mdb.now (extent_blocks c.args.owned.now)) c.loop-block.block + cond t 1 0) w.if-stray.false in
          record { counted = omega (arith, none, w.strays-is, c.loop-block.invariant.counted); few = omega (arith, w.strays-is, c.loop-block.invariant.few) }
    ]
