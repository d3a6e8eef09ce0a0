-- one more block
use Rattle.std.proofs.Common.{◌++◌, [], ◌∷◌, sym, ap, ◌∙◌, arith}
use Rattle.std.proofs.lemmas.List.FromFn.{map-range_with_len_more}
use Rattle.hfs_space.specs.Bitmap.{is_used}
use Rattle.hfs_page.specs.Uses.{unowned}
use Rattle.hfs_page.proofs.uses.marked_uses.Goals as goal

pub loop-block-preserved : goal.loop-block-preserved
loop-block-preserved g c =
    let is = c.unowned.ensures ∙ ap unowned c.is_used.ensures in
    c.in_ok-push.ensures.items ∙ (λ i. c.loop-block.invariant i ++ is i ∷ [])
    ∙ sym (map-range_with_len_more (λ block. unowned (is_used (g.B.Blocks.blocks c.args.bitmap.now.blocks.now) c.args.bitmap.now.start block)) 0 c.loop-block.block c.loop-block.block (omega arith))
