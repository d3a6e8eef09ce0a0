-- A piece is a run of the base or a changed block.
use Rattle.std.proofs.Common.{arith}
use Rattle.hfs_blocks.specs.Layers.{changes}
use Rattle.hfs_volume.proofs.SavedPieces.{run_bytes, block_bytes}
use Rattle.hfs_volume.proofs.saving.piece.Goals as goal

pub returns-then-n-end-clause-bytes : goal.returns-then-n-end-clause-bytes
returns-then-n-end-clause-bytes c =
    run_bytes (changes c.args.changed.now) c.args.base.now c.requires.within c.args.n c.next_changed-end.result (omega arith) (omega (arith, c.requires.count)) c.next_changed-end.ensures.unchanged

pub returns-clause-bytes : goal.returns-clause-bytes
returns-clause-bytes c = block_bytes (changes c.args.changed.now) c.args.base.now c.requires.within c.args.n _ c.in-Some.ensures.value
