-- A sound volume's allocation blocks have a size, and a fork has no more of them than 16 bits count.
use Rattle.std.proofs.Common.{◌∙◌, ap, arith}
use Rattle.hfs_space.specs.Extents.{block_total}
use Rattle.hfs_call_patches.proofs.Edits as edits
use Rattle.hfs_call_patches.proofs.resizing.resize.Goals as goal

pub unreachable-requires : goal.unreachable-requires
unreachable-requires g c = edits.size_some _ _ _ _ _ c.requires.volume _ c.new.ensures c.in_default.is

pub block_count-requires : goal.block_count-requires
block_count-requires g c =
    let few = edits.total_few _ _ _ _ _ c.requires.volume _ c.args.resizing.now.fork _ c.requires.found.is c.volume_blocks-blocks.ensures.few in
    let same = ap block_total (c.deref.ensures.value ∙ c.in_ok-was.ensures) in
    omega (arith, few, same)
