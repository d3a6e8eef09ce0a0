-- some of the items were given, of each image; fewer are to come in each turn; the shelf stays where it is
use Rattle.std.proofs.Common.{◌≡◌, []}
use Rattle.hfs_source.specs.Images.{OfEach}
use Rattle.hfs_bag.specs.Giving.{HasGiven}
use Rattle.hfs_bag.proofs.giving.give_items.Given as goal

abbrev pub invariant-loop-given : goal.invariant-loop-given
invariant-loop-given g l = record {
  given : OfEach (g.B.BagSource.Holds l.source) (λ image. HasGiven (g.S.Shelf.given l.fn.shelf) (g.S.Shelf.given l.shelf) (g.B.BagSource.state l.fn.source image)
      (g.B.BagSource.state l.source image) [] l.given.digests.items 0 l.given.bytes);
  narrows : OfEach (g.B.BagSource.Holds l.source) (g.B.BagSource.Holds l.fn.source);
  place : g.S.Shelf.place l.shelf ≡ g.S.Shelf.place l.fn.shelf;
}

abbrev pub decreases-loop-given : goal.decreases-loop-given
decreases-loop-given g l = g.B.BagSource.items_left l.source
