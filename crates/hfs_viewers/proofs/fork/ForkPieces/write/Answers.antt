-- The bytes come between what stays of the pieces in which they begin and end.
use Rattle.std.proofs.Common.{ℕ, ◌+◌, ◌≤◌, ◌<◌, List, length, get_or, sym, ap, subst, arith}
use Rattle.hfs_fields.proofs.OutcomeLemmas.{on_ok}
use Rattle.hfs_viewers.specs.declared.piece.Piece.{Piece}
use Rattle.hfs_viewers.specs.Pieces.{AreRow}
use Rattle.hfs_viewers.proofs.Placed.{rises-from_row, may-skip-at, in-order}
use Rattle.hfs_viewers.proofs.EditedPieces.{write-made}
use Rattle.hfs_viewers.proofs.fork.ForkPieces.write.Goals as goal

pub ended-first-requires : goal.ended-first-requires
ended-first-requires c =
    subst (λ (ps : List Piece). (i j : ℕ) (d : Piece) → i ≤ j → j < length ps → (get_or ps i d).end ≤ (get_or ps j d).end)
    (sym c.as_slice-pieces.ensures) (rises-from_row c.touch.new.self.base_len 0 c.touch.new.self.pieces c.in_ok-touch.ensures.ok.keeps.pieces.row)

pub ended-last-requires : goal.ended-last-requires
ended-last-requires c =
    subst (λ (ps : List Piece). (i j : ℕ) (d : Piece) → i ≤ j → j < length ps → (get_or ps i d).end ≤ (get_or ps j d).end)
    (sym c.as_slice-pieces.ensures) (rises-from_row c.touch.new.self.base_len 0 c.touch.new.self.pieces c.in_ok-touch.ensures.ok.keeps.pieces.row)

pub coming-requires-clause-skip : goal.coming-requires-clause-skip
coming-requires-clause-skip c =
    may-skip-at c.touch.new.self.base_len c.as_slice-pieces.result.now c.ended-last.result _
    (subst (λ (ps : List Piece). AreRow c.touch.new.self.base_len 0 ps) (sym c.as_slice-pieces.ensures) c.in_ok-touch.ensures.ok.keeps.pieces.row) c.ended-last.ensures

pub replace-requires-clause-order : goal.replace-requires-clause-order
replace-requires-clause-order c =
    let first = c.ended-first.ensures in
    let within = first.within in
    let order = in-order c.touch.new.self.base_len c.as_slice-pieces.result.now c.ended-first.result c.ended-last.result c.args.offset _
    (subst (λ (ps : List Piece). AreRow c.touch.new.self.base_len 0 ps) (sym c.as_slice-pieces.ensures) c.in_ok-touch.ensures.ok.keeps.pieces.row) c.ended-first.ensures c.ended-last.ensures (omega arith) in
    omega (arith, within, order, c.min-to.ensures)

pub returns-clause-ok : goal.returns-clause-ok
returns-clause-ok c =
    on_ok c.replace.result _ _
    (write-made c.args.self.now c.touch.new.self c.as_slice-pieces.result.now c.in_ok-come.come.items c.replace.new.self c.in_ok-touch.ensures.ok c.as_slice-pieces.ensures
    c.ended-first.result c.ended-last.result c.args.offset c.args.bytes.now _ c.min-to.result c.ended-first.ensures c.ended-last.ensures c.requires.within
    (ap (λ (l : List ℕ). c.args.offset + length l) c.as_slice.ensures) (omega (arith, c.requires.small, ap (λ (l : List ℕ). length l) c.as_slice.ensures)) c.min-to.ensures c.in_ok-come.ensures)
    c.replace.ensures.ok
