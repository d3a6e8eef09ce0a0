use Rattle.std.proofs.Common.{sym, ◌++◌, ◌∙◌, arith}
use Rattle.hfs_format.specs.Image.{new_block}
use Rattle.hfs_format.proofs.BlockLemmas.{flat_map-range-more}
use Rattle.hfs_format.proofs.formatting.volume_image.Goals as goal

pub loop-k-preserved : goal.loop-k-preserved
loop-k-preserved c =
    record {
      bytes =
          c.in_ok-extend_from_slice.ensures.items ∙ (λ i. c.loop-k.invariant.bytes i ++ c.new_block.ensures i)
          ∙ sym (flat_map-range-more (new_block c.args.volume.now) c.loop-k.k);
      len = omega (arith, c.in_ok-extend_from_slice.ensures.len);
    }
