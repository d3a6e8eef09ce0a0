-- The piece of that number is the first of those from it on.
use Rattle.std.proofs.Common.{◌-◌, ℕ, List, take, sym, subst, arith}
use Rattle.hfs_viewers.specs.declared.piece.Piece.{Piece}
use Rattle.hfs_viewers.specs.Pieces.{end_of}
use Rattle.hfs_viewers.specs.PieceEdits.{MaySkip, MaySkipTo}
use Rattle.hfs_viewers.proofs.Placed.{drop-first}
use Rattle.hfs_viewers.proofs.coming.push_back.Goals as goal

pub skipped-requires : goal.skipped-requires
skipped-requires c =
    let found = subst (λ (ps : List Piece). MaySkipTo (end_of 0 (take c.args.number c.args.pieces.now)) c.args.place ps)
    (drop-first c.args.number c.args.pieces.now c.index-pieces-number.result (omega (arith, c.requires.ended.within))) c.requires.skip in
    subst (λ (s : ℕ). MaySkip (c.args.place - s) c.index-pieces-number.result.source) (sym c.start_of.ensures)
    (subst (λ (p : Piece). MaySkip (c.args.place - end_of 0 (take c.args.number c.args.pieces.now)) p.source) (sym c.index-pieces-number.is) found)
