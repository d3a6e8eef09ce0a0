-- What stays of the piece in which the place is.
use Rattle.std.proofs.Common.{ℕ, ◌≤◌, ◌<◌, List, length, get_or, sym, subst}
use Rattle.hfs_fields.proofs.OutcomeLemmas.{on_ok}
use Rattle.hfs_viewers.specs.declared.piece.Piece.{Piece}
use Rattle.hfs_viewers.proofs.Placed.{rises-from_row}
use Rattle.hfs_viewers.proofs.EditedPieces.{cut-made}
use Rattle.hfs_viewers.proofs.fork.ForkPieces.cut.Goals as goal

pub ended-number-requires : goal.ended-number-requires
ended-number-requires c =
    subst (λ (ps : List Piece). (i j : ℕ) (d : Piece) → i ≤ j → j < length ps → (get_or ps i d).end ≤ (get_or ps j d).end)
    (sym c.as_slice-pieces.ensures) (rises-from_row c.args.self.now.base_len 0 c.args.self.now.pieces c.requires.pieces.row)

pub returns-clause-ok : goal.returns-clause-ok
returns-clause-ok c =
    on_ok c.replace.result _ _
    (cut-made c.args.self.now c.as_slice-pieces.result.now c.new.result.items c.in_ok-front.front.items c.replace.new.self c.requires.pieces c.requires.touched
    c.as_slice-pieces.ensures c.ended-number.result c.args.place c.ended-number.ensures c.requires.within c.new.ensures.items c.in_ok-front.ensures)
    c.replace.ensures.ok
