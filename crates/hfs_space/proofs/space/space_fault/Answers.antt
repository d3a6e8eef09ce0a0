-- The fault is the first block that isn't sound, and behind the blocks the count.
use Rattle.std.proofs.Common.{◌≡◌, ℕ, ◌<◌, true, Some, length, sym, ap, ◌∙◌, arith, below_more}
use Rattle.std.proofs.lemmas.List.FromFn.{length-map-range_with_len}
use Rattle.hfs_space.specs.Extents.{extent_blocks}
use Rattle.hfs_space.specs.Bitmap.{is_used}
use Rattle.hfs_space.specs.Owners.{owners, is_block_sound}
use Rattle.hfs_space.proofs.SpaceWalk.{count-read, sound-as, fault-block, fault-none, fault-count}
use Rattle.hfs_space.proofs.space.space_fault.Goals as goal

pub index-requires : goal.index-requires
index-requires g c = omega (arith, ap length c.in_ok-marks.ensures, length-map-range_with_len (is_used (g.B.Blocks.blocks c.args.blocks.now) c.args.mdb.now.bitmap_start) 0 c.args.mdb.now.allocation_blocks)

pub index-requires-in-loop-block : goal.index-requires-in-loop-block
index-requires-in-loop-block g c = omega (arith, ap length c.in_ok-counts.ensures, length-map-range_with_len (owners (extent_blocks c.args.owned.now)) 0 c.args.mdb.now.allocation_blocks)

pub returns-then-not-sound : goal.returns-then-not-sound
returns-then-not-sound g c =
    let lt : c.loop-block.block < c.args.mdb.now.allocation_blocks = omega arith in
    let mark = count-read (is_used (g.B.Blocks.blocks c.args.blocks.now) c.args.mdb.now.bitmap_start) c.args.mdb.now.allocation_blocks c.loop-block.block c.from-place.result c.in_ok-marks.marks.items c.index.result.now lt c.from-place.ensures c.in_ok-marks.ensures c.index.ensures in
    let own = count-read (owners (extent_blocks c.args.owned.now)) c.args.mdb.now.allocation_blocks c.loop-block.block c.from-place.result c.in_ok-counts.counts.items c.index-in-loop-block.result.now lt c.from-place.ensures c.in_ok-counts.ensures c.index-in-loop-block.ensures in
    let sound = sound-as (g.B.Blocks.blocks c.args.blocks.now) c.args.mdb.now (extent_blocks c.args.owned.now) c.loop-block.block c.index-in-loop-block.result.now c.index.result.now own mark ∙ sym c.is_sound-sound.ensures in
    ap (λ (n : ℕ). Some n) c.from.ensures
    ∙ fault-block (g.B.Blocks.blocks c.args.blocks.now) c.args.mdb.now (extent_blocks c.args.owned.now) c.loop-block.block lt c.loop-block.invariant (sound ∙ c.if-not-sound.true)

pub loop-block-preserved : goal.loop-block-preserved
loop-block-preserved g c =
    let lt : c.loop-block.block < c.args.mdb.now.allocation_blocks = omega arith in
    let mark = count-read (is_used (g.B.Blocks.blocks c.args.blocks.now) c.args.mdb.now.bitmap_start) c.args.mdb.now.allocation_blocks c.loop-block.block c.from-place.result c.in_ok-marks.marks.items c.index.result.now lt c.from-place.ensures c.in_ok-marks.ensures c.index.ensures in
    let own = count-read (owners (extent_blocks c.args.owned.now)) c.args.mdb.now.allocation_blocks c.loop-block.block c.from-place.result c.in_ok-counts.counts.items c.index-in-loop-block.result.now lt c.from-place.ensures c.in_ok-counts.ensures c.index-in-loop-block.ensures in
    let sound = sound-as (g.B.Blocks.blocks c.args.blocks.now) c.args.mdb.now (extent_blocks c.args.owned.now) c.loop-block.block c.index-in-loop-block.result.now c.index.result.now own mark ∙ sym c.is_sound-sound.ensures in
    below_more (λ k. is_block_sound (g.B.Blocks.blocks c.args.blocks.now) c.args.mdb.now (extent_blocks c.args.owned.now) k ≡ true) c.loop-block.block c.loop-block.invariant (sound ∙ c.if-not-sound.false)

pub returns-then-free_count-from : goal.returns-then-free_count-from
returns-then-free_count-from g c =
    fault-none (g.B.Blocks.blocks c.args.blocks.now) c.args.mdb.now (extent_blocks c.args.owned.now) (λ k lt. c.loop-block.invariant k (omega arith))
    (sym c.from-2.ensures ∙ sym c.if-free_count-from.true ∙ c.free_count.ensures)

pub returns : goal.returns
returns g c =
    ap (λ (n : ℕ). Some n) c.from-else-free_count-from.ensures
    ∙ fault-count (g.B.Blocks.blocks c.args.blocks.now) c.args.mdb.now (extent_blocks c.args.owned.now) (λ k lt. c.loop-block.invariant k (omega arith))
    (λ same. c.if-free_count-from.false (c.free_count.ensures ∙ sym same ∙ sym c.from-2.ensures))
