-- A block is a changed one, or else the base's.
use Rattle.std.proofs.Common.{◌≡◌, ap, ◌∙◌, arith}
use Rattle.hfs_blocks.specs.Blocks.{block_at, block_count}
use Rattle.hfs_blocks.specs.Layers.{changes, over}
use Rattle.hfs_volume.proofs.Viewing.{same_count, same_blocks}
use Rattle.hfs_volume.proofs.image.Image.block.Goals as goal

pub block-requires : goal.block-requires
block-requires c =
    let e : block_count c.over.result.below.now.base.now ≡ block_count c.args.self.now.current =
    ap (λ b. block_count b.base.now) c.over.ensures.below ∙ ap block_count c.blocks-base.ensures
    ∙ same_count (changes c.self.inside.changed) c.self.inside.base c.args.self.now.current c.self.invariant.within (ap (λ v. v.current) c.self.view_is) in
    omega (arith, c.requires)

pub returns : goal.returns
returns c =
    c.block.ensures ∙ (λ i. over (changes (c.over.ensures.changed i)) (block_at (c.over.ensures.below i).base.now) c.args.n)
    ∙ ap (λ bytes. over (changes c.self.inside.changed) (block_at bytes) c.args.n) c.blocks-base.ensures
    ∙ ap (λ f. f c.args.n) (same_blocks (changes c.self.inside.changed) c.self.inside.base c.args.self.now.current c.self.invariant.within (ap (λ v. v.current) c.self.view_is))
