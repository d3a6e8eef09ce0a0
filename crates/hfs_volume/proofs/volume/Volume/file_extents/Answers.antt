use Rattle.std.proofs.Common.{◌≡◌, List, sym, subst}
use Rattle.std.specs.Prelude.{IfOk}
use Rattle.hfs_fields.specs.declared.extent.Extent.{Extent}
use Rattle.hfs_blocks.specs.Blocks.{block_at, block_count}
use Rattle.hfs_space.specs.TreeKeys.{IsExtentsTree}
use Rattle.hfs_check.specs.Sound.{IsSound}
use Rattle.hfs_volume.specs.Image.{ImageValue}
use Rattle.hfs_volume.proofs.Shared.{extents_are}
use Rattle.hfs_check.proofs.LawsProved.{trees_are_sound}
use Rattle.hfs_volume.proofs.volume.Volume.file_extents.Goals as goal

pub fork_extents-requires : goal.fork_extents-requires
fork_extents-requires c =
    let v = c.args.self.now in
    let sound : IsSound v.current = subst (λ (w : ImageValue). IsSound w.current) c.self.view_is c.self.invariant.agrees.sound in
    subst IsExtentsTree (sym c.extents_nodes.ensures) (trees_are_sound (block_count v.current) (block_at v.current) sound.blocks).0

pub returns : goal.returns
returns c =
    subst (λ (es : List Extent). IfOk c.fork_extents.result (λ extents. extents.items ≡ es))
    (extents_are (block_at c.args.self.now.current) c.args.fork c.args.file.now c.fork_record-kind.result c.extents_nodes.result c.fork_record-kind.ensures c.extents_nodes.ensures)
    c.fork_extents.ensures
