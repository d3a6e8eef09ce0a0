-- The needed blocks of an image, as they are read.
use Rattle.std.specs.Prelude.{ℕ, List}
use Rattle.hfs_blocks.specs.Blocks.{block_at}
use Rattle.hfs_blocks.specs.Layers.{Numbered}
use Rattle.hfs_source.specs.Sparse.{sparse, IsOf}
use Rattle.hfs_image.specs.Laws.{AnswerSame}
use Rattle.hfs_image.specs.Gathered.{HasNeeded}

-- what was read answers as the image does whose it is
abbrev pub GatheredIsEnough : Type 0
GatheredIsEnough =
    (total : ℕ) (bytes : List ℕ) (read : Numbered) → HasNeeded total read → IsOf bytes read → AnswerSame total (sparse read) (block_at bytes)
