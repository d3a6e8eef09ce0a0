-- what was given and the volumes that are still to come make the whole
use Rattle.std.proofs.Common.{◌≡◌}
use Rattle.hfs_bag.specs.Parts.{content_of}
use Rattle.hfs_source.specs.Images.{FailsWhere, OfEach}
use Rattle.hfs_word_collect.proofs.Counting.{VolumesToCount}
use Rattle.hfs_word_collect.proofs.VolumesGoing.{VolumesLeft}
use Rattle.hfs_word_collect.proofs.content.give_volumes.Given as goal

abbrev pub invariant-loop-i : goal.invariant-loop-i
invariant-loop-i g l = record {
  rows : g.F.ImageFile.Holds l.file g.K.PickedImage.image
      → VolumesLeft (content_of l.layout g.K.PickedImage.image) l.taken l.others l.ranges (g.T.RowTaker.given l.fn.taker) l.i (g.T.RowTaker.given l.taker);
  held : OfEach (g.F.ImageFile.Holds l.file) (g.F.ImageFile.Holds l.fn.file);
  later : FailsWhere (g.F.ImageFile.Fails l.file) (g.F.ImageFile.Fails l.fn.file);
  reference : g.T.RowTaker.reference l.taker ≡ g.T.RowTaker.reference l.fn.taker;
  place : g.T.RowTaker.place l.taker ≡ g.T.RowTaker.place l.fn.taker;
  counted : g.F.ImageFile.Holds l.file g.K.PickedImage.image → VolumesToCount (content_of l.layout g.K.PickedImage.image) l.ranges l.i l.counts;
}
