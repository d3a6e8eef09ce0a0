-- What is told of what was not opened is its reason, of what is handed back.
use Rattle.std.proofs.Common.{subst, sym}
use Rattle.hfs_image.specs.Kept.{range_images}
use Rattle.hfs_image.specs.Seen.{IsRefusedBy}
use Rattle.hfs_source.specs.Images.{OfEach}
use Rattle.hfs_word_take.proofs.opening.open_found.Goals as goal

pub returns-in-Err-clause-told : goal.returns-in-Err-clause-told
returns-in-Err-clause-told g c = record {
  why = c.in-Err.back.fault;
  told = c.of_unopened.ensures.fault;
  refused =
      subst (λ source. OfEach (range_images g.S.PlacedBytes.Holds source.blocks.bytes) (IsRefusedBy c.in-Err.back.fault)) (sym c.of_unopened.ensures.source)
      c.in-Err.ensures.refused;
  failed = c.in-Err.ensures.failed;
}
