-- What is said of the images that hold now, which held before.
use Rattle.hfs_remains_forks.proofs.LookLemmas.{some_found}
use Rattle.hfs_remains_forks.proofs.looking.refused_image.Goals as goal

pub invariant_of-result : goal.invariant_of-result
invariant_of-result g c = record {
  refused = λ image h. c.requires.fault image (c.in_ok-source.ensures.narrows image h);
  long = λ image h. c.requires.long image (c.in_ok-source.ensures.narrows image h);
  found_is = some_found (g.S.PlacedBlocks.Holds c.in_ok-source.field-0.source.blocks) c.args.len c.in_ok-source.field-0.found
      c.in_ok-source.ensures.found;
  few = c.in_ok-source.ensures.few;
}
