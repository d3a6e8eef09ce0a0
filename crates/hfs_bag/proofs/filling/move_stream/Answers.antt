use Rattle.std.proofs.Common.{◌≡◌, ◌∙◌, [], Bool, subst}
use Rattle.hfs_source.specs.Images.{OfEach}
use Rattle.hfs_bag.specs.Filling.{IsMore}
use Rattle.hfs_bag.proofs.Growing.{each_err}
use Rattle.hfs_bag.proofs.Moves.{moved_digest, moved_next, moved_whole, part_moved}
use Rattle.hfs_bag.proofs.filling.move_stream.Goals as goal

pub loop-piece-preserved : goal.loop-piece-preserved
loop-piece-preserved g c =
    let before = c.loop-piece.invariant in
    let one = c.in_ok-move_piece.ensures in
    record {
      moved = λ image h. moved_next _ _ _ _ _ _ _ _ _ (before.moved image (one.narrows image h)) (one.moved image h);
      narrows = λ image h. before.narrows image (one.narrows image h);
      stays = one.stays ∙ before.stays;
      place = one.place ∙ before.place;
    }

pub returns-in_err-move_piece-clause-part : goal.returns-in_err-move_piece-clause-part
returns-in_err-move_piece-clause-part g c =
    each_err _ (g.B.BagSource.Holds c.move_piece.new.source) (λ image h. part_moved _ _ _ _ _ _ _ (c.loop-piece.invariant.moved image (c.in_err-move_piece.ensures.narrows image h)) (c.in_err-move_piece.ensures.part image h))

pub returns-clause-whole : goal.returns-clause-whole
returns-clause-whole g c = λ image h.
    let before = g.B.BagSource.bytes_left c.loop-piece.source in
    let now = g.B.BagSource.bytes_left c.move_piece.new.source in
    let one = c.in_ok-move_piece.ensures in
    let none = subst (λ (more : Bool). IsMore before now (OfEach (g.B.BagSource.Holds c.move_piece.new.source) (λ image. (g.B.BagSource.state c.move_piece.new.source image).bytes ≡ [])) more)
    c.if-branch.false one.more in
    moved_whole _ _ _ _ _ _ (moved_next _ _ _ _ _ _ _ _ _ (c.loop-piece.invariant.moved image (one.narrows image h)) (one.moved image h)) (none image h)

pub returns-clause-digest : goal.returns-clause-digest
returns-clause-digest g c = λ image h.
    let before = g.B.BagSource.bytes_left c.loop-piece.source in
    let now = g.B.BagSource.bytes_left c.move_piece.new.source in
    let one = c.in_ok-move_piece.ensures in
    let none = subst (λ (more : Bool). IsMore before now (OfEach (g.B.BagSource.Holds c.move_piece.new.source) (λ image. (g.B.BagSource.state c.move_piece.new.source image).bytes ≡ [])) more)
    c.if-branch.false one.more in
    moved_digest _ _ _ _ _ _ (moved_next _ _ _ _ _ _ _ _ _ (c.loop-piece.invariant.moved image (one.narrows image h)) (one.moved image h)) (none image h)
