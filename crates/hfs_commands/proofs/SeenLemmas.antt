-- Blocks of a part of a file, of which more was read.
use Rattle.std.proofs.Common.{◌≡◌, ◌+◌, ℕ, subst, sym}
use Rattle.hfs_commands.specs.OpenedFiles.{images_of}
use Rattle.hfs_commands.specs.SeenFiles.{AreBlocksOf, IsPartOf}
use Rattle.hfs_commands.specs.declared.opened_file.OpenedFile.{OpenedFile}
use Rattle.hfs_image.specs.Kept.{IsSameRange}
use Rattle.hfs_source.specs.Images.{OfEach, ReachesTo}
use Rattle.hfs_source.specs.declared.blocks.BlocksOf.{BlocksOf}
use Rattle.hfs_source.specs.declared.range.RangeBytes.{RangeBytes}
use Rattle.hfs_source.specs.declared.window.Window.{Window}

-- blocks of the same range are those of the same part
pub blocks_of_same : {F : Type 0} (part : Window (OpenedFile F)) (old new : BlocksOf (RangeBytes (OpenedFile F))) → AreBlocksOf part old
    → IsSameRange images_of old.bytes new.bytes → AreBlocksOf part new
blocks_of_same part old new was same = record {
  narrows = λ image holds. was.narrows image (same.narrows image holds);
  range =
      subst (λ (n : ℕ). IsPartOf (images_of part.source) part.range n new.bytes.len) (sym same.start_is)
      (subst (λ (n : ℕ). IsPartOf (images_of part.source) part.range old.bytes.start n) (sym same.len_is) was.range);
  inside =
      subst (λ (n : ℕ). OfEach (images_of part.source) (ReachesTo (n + new.bytes.len))) (sym same.start_is)
      (subst (λ (n : ℕ). OfEach (images_of part.source) (ReachesTo (old.bytes.start + n))) (sym same.len_is) was.inside);
}
