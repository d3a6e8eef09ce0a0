-- what was given and the rows that are to come are the whole
use Rattle.std.proofs.Common.{◌≡◌, ◌+◌, length}
use Rattle.hfs_source.specs.Images.{FailsWhere, OfEach}
use Rattle.hfs_word_collect.specs.Counts.{file_total}
use Rattle.hfs_word_collect.specs.Giving.{GoesOn}
use Rattle.hfs_word_collect.proofs.giving.give_inventory.Given as goal

abbrev pub invariant-loop : goal.invariant-loop
invariant-loop g l = record {
  goes : OfEach (g.S.PlacedBlocks.Holds l.image) (GoesOn l.taken 0 l.counts.items l.fn.inventory.left l.inventory.left (g.T.RowTaker.given l.fn.taker) (g.T.RowTaker.given l.taker));
  reference : g.T.RowTaker.reference l.taker ≡ g.T.RowTaker.reference l.fn.taker;
  place : g.T.RowTaker.place l.taker ≡ g.T.RowTaker.place l.fn.taker;
  narrows : OfEach (g.S.PlacedBlocks.Holds l.image) (g.S.PlacedBlocks.Holds l.fn.image);
  later : FailsWhere (g.S.PlacedBlocks.Fails l.image) (g.S.PlacedBlocks.Fails l.fn.image);
  counted : l.counts.files + file_total l.inventory.left ≡ file_total l.fn.inventory.left;
}

abbrev pub decreases-loop : goal.decreases-loop
decreases-loop g l = length l.inventory.left
