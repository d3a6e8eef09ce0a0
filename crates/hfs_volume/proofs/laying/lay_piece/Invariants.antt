-- The first blocks were laid.
use Rattle.std.specs.Prelude.{◌+◌}
use Rattle.hfs_blocks.specs.Blocks.{block_at}
use Rattle.hfs_blocks.specs.Layers.{changes, over}
use Rattle.hfs_volume.proofs.Pieces.{AreLaid}
use Rattle.hfs_volume.proofs.laying.lay_piece.Given as goal

abbrev pub invariant-loop-k : goal.invariant-loop-k
invariant-loop-k l = AreLaid (over (λ k. changes l.changed (l.first + k)) (block_at l.initial.piece)) l.initial.piece l.k l.piece
