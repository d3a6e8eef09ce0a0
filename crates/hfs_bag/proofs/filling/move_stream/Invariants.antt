-- what was moved and what is left are the whole stream, of each image; fewer bytes are left in each turn; the shelf stays where it is
use Rattle.std.proofs.Common.{◌≡◌}
use Rattle.sha2.specs.Hashers.{Holds256}
use Rattle.hfs_source.specs.Images.{OfEach}
use Rattle.hfs_bag.specs.Filling.{HasMoved}
use Rattle.hfs_bag.proofs.filling.move_stream.Given as goal

abbrev pub invariant-loop-piece : goal.invariant-loop-piece
invariant-loop-piece g l = record {
  moved : OfEach (g.B.BagSource.Holds l.source) (λ image. HasMoved (g.S.Shelf.given l.fn.shelf) (g.S.Shelf.given l.shelf) (g.B.BagSource.state l.fn.source image)
      (g.B.BagSource.state l.source image) (Holds256 l.fn.digest) (Holds256 l.digest));
  narrows : OfEach (g.B.BagSource.Holds l.source) (g.B.BagSource.Holds l.fn.source);
  stays : g.B.BagSource.items_left l.source ≡ g.B.BagSource.items_left l.fn.source;
  place : g.S.Shelf.place l.shelf ≡ g.S.Shelf.place l.fn.shelf;
}

abbrev pub decreases-loop-piece : goal.decreases-loop-piece
decreases-loop-piece g l = g.B.BagSource.bytes_left l.source
