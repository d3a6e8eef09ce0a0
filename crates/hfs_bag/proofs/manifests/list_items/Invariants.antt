-- the lines of some items were listed, of each image, and what is told behind them is of the others; the shelf stays where it is
use Rattle.std.proofs.Common.{◌≡◌, drop, map}
use Rattle.sha2.specs.Hashers.{Holds256}
use Rattle.hfs_source.specs.Images.{OfEach}
use Rattle.hfs_bag.specs.Items.{item_digests}
use Rattle.hfs_bag.proofs.ListingLemmas.{HasListedSome}
use Rattle.hfs_bag.proofs.manifests.list_items.Given as goal

abbrev pub invariant-loop-at : goal.invariant-loop-at
invariant-loop-at g l = record {
  listed : OfEach (g.B.BagSource.Holds l.source) (λ image. HasListedSome (g.S.Shelf.given l.fn.shelf) (g.S.Shelf.given l.shelf) (g.B.BagSource.state l.fn.source image)
      (g.B.BagSource.state l.source image) (Holds256 l.fn.digest) (Holds256 l.digest));
  told : OfEach (g.B.BagSource.Holds l.source) (λ image. drop l.at l.fn.told ≡ map item_digests (g.B.BagSource.state l.source image).left);
  narrows : OfEach (g.B.BagSource.Holds l.source) (g.B.BagSource.Holds l.fn.source);
  place : g.S.Shelf.place l.shelf ≡ g.S.Shelf.place l.fn.shelf;
}
