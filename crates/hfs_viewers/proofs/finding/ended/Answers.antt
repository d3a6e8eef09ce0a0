-- The pieces are in the order of their ends.
use Rattle.std.proofs.Common.{rules, of_calls, leb}
use Rattle.std.proofs.lemmas.Fn.{always_returns_same}
use Rattle.hfs_viewers.specs.declared.piece.Piece.{Piece}
use Rattle.hfs_viewers.proofs.Placed.{ended-parted, ended-point}
use Rattle.hfs_viewers.proofs.finding.ended.Goals as goal

pub returns : goal.returns
returns c =
    ended-point c.args.pieces.now c.args.place c.partition_point.result c.partition_point.ensures.bound
    (c.partition_point.ensures.partitioned (λ (p : Piece). leb p.end c.args.place) (always_returns_same _ _ _ (λ a r f k. search (rules, of_calls))) (ended-parted c.args.pieces.now c.args.place c.requires))
