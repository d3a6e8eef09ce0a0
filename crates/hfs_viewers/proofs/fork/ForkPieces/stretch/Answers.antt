-- The piece in which the place is.
use Rattle.std.proofs.Common.{ℕ, ◌≤◌, ◌<◌, List, length, get_or, sym, subst}
use Rattle.hfs_viewers.specs.declared.piece.Piece.{Piece}
use Rattle.hfs_viewers.proofs.Placed.{rises-from_row}
use Rattle.hfs_viewers.proofs.Read.{may-read-there, is-stretch}
use Rattle.hfs_viewers.proofs.fork.ForkPieces.stretch.Goals as goal

pub ended-number-requires : goal.ended-number-requires
ended-number-requires c =
    subst (λ (ps : List Piece). (i j : ℕ) (d : Piece) → i ≤ j → j < length ps → (get_or ps i d).end ≤ (get_or ps j d).end)
    (sym c.as_slice-pieces.ensures) (rises-from_row c.args.self.now.base_len 0 c.args.self.now.pieces c.requires.pieces.row)

pub part-requires : goal.part-requires
part-requires c =
    may-read-there c.args.self.now c.as_slice-pieces.result.now c.as_slice-pieces.ensures c.requires.pieces c.if-not-self.false c.ended-number.result c.args.place c.ended-number.ensures c.requires.within
    c.start_of.result c.start_of.ensures c.min-count.result c.args.most c.index-pieces-number.result c.index-pieces-number.is c.min-count.ensures

pub returns : goal.returns
returns c =
    is-stretch c.args.self.now c.as_slice-pieces.result.now c.as_slice-pieces.ensures c.requires.pieces c.if-not-self.false c.ended-number.result c.args.place c.ended-number.ensures c.requires.within
    c.start_of.result c.start_of.ensures c.min-count.result c.args.most c.index-pieces-number.result c.index-pieces-number.is c.min-count.ensures c.requires.some c.part.result c.part.ensures
