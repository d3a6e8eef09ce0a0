use Rattle.std.proofs.Common.{◌++◌, List, ℕ, ap, ◌∙◌, subst}
use Rattle.sha2.specs.Hashers.{Holds256}
use Rattle.hfs_bag.specs.Entries.{IsBeginning, with_piece}
use Rattle.hfs_bag.proofs.Beginnings.{begins_piece}
use Rattle.hfs_bag.proofs.Growing.{each_err}
use Rattle.hfs_bag.proofs.Moves.{moved_piece, part_piece}
use Rattle.hfs_bag.proofs.filling.move_piece.Goals as goal

pub returns-in_err-read-clause-part : goal.returns-in_err-read-clause-part
returns-in_err-read-clause-part g c = each_err _ (g.B.BagSource.Holds c.read.new.self) (λ image h. begins_piece (g.S.Shelf.given c.args.shelf.now) (g.B.BagSource.state c.args.source.now image).bytes)

pub returns-in_err-append-clause-part : goal.returns-in_err-append-clause-part
returns-in_err-append-clause-part g c =
    let before = g.S.Shelf.given c.args.shelf.now in
    let now = g.S.Shelf.given c.append.new.self in
    let first : IsBeginning now (with_piece before c.read.new.piece.items) =
    subst (λ (p : List ℕ). IsBeginning now (with_piece before p)) c.deref.ensures.value c.in_err-append.ensures.part in
    each_err _ (g.B.BagSource.Holds c.read.new.self) (λ image h. part_piece before now (g.B.BagSource.state c.args.source.now image) (g.B.BagSource.state c.read.new.self image) (Holds256 c.args.digest.now)
    (Holds256 c.args.digest.now) c.read.new.piece.items (c.in_ok-read.ensures.read image h) first)

pub returns-clause-moved : goal.returns-clause-moved
returns-clause-moved g c = λ image h.
    let before = g.S.Shelf.given c.args.shelf.now in
    moved_piece before _ _ _ (Holds256 c.args.digest.now) (Holds256 c.update.new.self) c.read.new.piece.items (c.in_ok-read.ensures.read image h)
    (c.in_ok-append.ensures.whole ∙ ap (with_piece before) c.deref.ensures.value)
    (λ m held. subst (λ (p : List ℕ). Holds256 c.update.new.self (m ++ p)) c.as_slice.ensures.value (c.update.ensures m held))
