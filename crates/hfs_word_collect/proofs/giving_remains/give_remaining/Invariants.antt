-- what was given and the items that are still to come make the whole
use Rattle.std.proofs.Common.{◌≡◌, ◌++◌}
use Rattle.hfs_source.specs.Images.{FailsWhere, OfEach}
use Rattle.hfs_word_collect.specs.Refused.{image_of}
use Rattle.hfs_word_collect.specs.Remains.{remains_rows_from}
use Rattle.hfs_word_collect.proofs.Counting.{FilesLeft}
use Rattle.hfs_word_collect.proofs.RemainsGoing.{RemainsLeft}
use Rattle.hfs_word_collect.proofs.giving_remains.give_remaining.Given as goal

abbrev pub invariant-loop-i : goal.invariant-loop-i
invariant-loop-i g l = record {
  rows : OfEach (g.S.PlacedBlocks.Holds l.source.blocks)
      (λ image. RemainsLeft l.taken (image_of l.found image) l.items (g.T.RowTaker.given l.fn.taker ++ remains_rows_from l.taken (image_of l.found image) 0 l.items) l.i (g.T.RowTaker.given l.taker));
  reference : g.T.RowTaker.reference l.taker ≡ g.T.RowTaker.reference l.fn.taker;
  place : g.T.RowTaker.place l.taker ≡ g.T.RowTaker.place l.fn.taker;
  narrows : OfEach (g.S.PlacedBlocks.Holds l.source.blocks) (g.S.PlacedBlocks.Holds l.fn.source.blocks);
  later : FailsWhere (g.S.PlacedBlocks.Fails l.source.blocks) (g.S.PlacedBlocks.Fails l.fn.source.blocks);
  counted : OfEach (g.S.PlacedBlocks.Holds l.source.blocks) (λ image. FilesLeft (image_of l.found image) l.items l.i l.counts);
}
