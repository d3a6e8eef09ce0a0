-- Block by block.
use Rattle.std.proofs.Common.{◌+◌, ◌-◌, ◌*◌, refl, ap, ◌∙◌, arith}
use Rattle.std.specs.Prelude.{unwrap_or}
use Rattle.hfs_blocks.specs.Blocks.{block_at}
use Rattle.hfs_blocks.specs.Layers.{changes, over}
use Rattle.hfs_volume.proofs.Pieces.{laid-first, laid-next, next-own, laid-all}
use Rattle.hfs_volume.proofs.laying.lay_piece.Goals as goal

pub loop-k-init : goal.loop-k-init
loop-k-init c = laid-first (over (λ k. changes c.args.changed.now (c.args.first + k)) (block_at c.args.piece.now)) c.args.piece.now

pub loop-k-preserved : goal.loop-k-preserved
loop-k-preserved c =
    let bytes = c.args.piece.now in
    let f = over (λ k. changes c.args.changed.now (c.args.first + k)) (block_at bytes) in
    let k = c.loop-k.k in
    laid-next f bytes c.loop-k.piece c.lay_block.new.block k (k * 512) (k * 512 + 512 - k * 512) c.loop-k.invariant
    (omega (arith, c.loop-k-test.true)) refl (omega arith)
    (c.lay_block.ensures.laid ∙ ap (unwrap_or (changes c.args.changed.now (c.args.first + k))) (next-own f bytes c.loop-k.piece k (k * 512) c.loop-k.invariant refl))
    c.lay_block.ensures.whole

pub returns : goal.returns
returns c = laid-all c.args.first c.args.changed.now c.args.piece.now c.loop-k.piece c.loop-k.k (omega arith) c.loop-k.invariant
