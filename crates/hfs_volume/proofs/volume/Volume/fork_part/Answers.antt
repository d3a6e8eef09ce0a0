use Rattle.std.proofs.Common.{◌≡◌, List, ℕ, subst}
use Rattle.std.specs.Prelude.{IfOk}
use Rattle.hfs_model.specs.Reading.{part_of}
use Rattle.hfs_volume.proofs.SeenForks.{fork_sound, bytes_same}
use Rattle.hfs_volume.proofs.volume.Volume.fork_part.Goals as goal

pub read_part-requires-clause-fork : goal.read_part-requires-clause-fork
read_part-requires-clause-fork c =
    fork_sound _ _ _ _ _ c.self.view_is c.self.invariant c.extents_nodes.result c.extents_nodes.ensures c.args.file.now c.args.fork _ c.fork_record-kind.ensures c.requires

pub returns : goal.returns
returns c =
    subst (λ (bs : List ℕ). IfOk c.read_part.result (λ reply. reply ≡ part_of bs c.args.offset c.args.count))
    (bytes_same _ _ _ _ _ c.self.view_is c.self.invariant c.extents_nodes.result c.extents_nodes.ensures c.args.file.now c.args.fork _ c.fork_record-kind.ensures _ c.blocks-2.ensures)
    c.read_part.ensures
