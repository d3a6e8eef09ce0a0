-- The bits of one more block are counted.
use Rattle.std.proofs.Common.{◌+◌, ◌*◌, ◌<◌, ◌∙◌, ap, arith}
use Rattle.hfs_space.proofs.Clears.{clear-step, clear-few}
use Rattle.hfs_space.proofs.bitmap.Bitmap.free_count.Goals as goal

pub overflow_add-free : goal.overflow_add-free
overflow_add-free g c =
    let few = clear-few c.block.new.into c.min-bits.result c.clear_in-free.result c.clear_in-free.ensures (omega (arith, c.min-bits.ensures)) in
    record { fits = omega arith }

pub loop-i-preserved : goal.loop-i-preserved
loop-i-preserved g c =
    let few = clear-few c.block.new.into c.min-bits.result c.clear_in-free.result c.clear_in-free.ensures (omega (arith, c.min-bits.ensures)) in
    let within : 4096 * c.loop-i.i < c.from-count.result = omega arith in
    record {
      counted = clear-step (g.B.Blocks.blocks c.args.self.now.blocks.now) c.args.self.now.start c.from-count.result c.loop-i.i c.min-bits.result c.loop-i.free c.clear_in-free.result c.block.new.into
          c.loop-i.invariant.counted c.clear_in-free.ensures (c.block.ensures ∙ ap (λ n. g.B.Blocks.blocks c.args.self.now.blocks.now (n + c.loop-i.i)) c.from.ensures) c.min-bits.ensures within;
      few = omega arith;
    }
