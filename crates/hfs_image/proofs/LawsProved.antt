-- Laws of this crate, each by the laws that it stands on.
use Rattle.hfs_image.proofs.SameImages.{answer-same, images-same}
use Rattle.hfs_image.specs.Laws.{NeededIsEnough, NeededOfImages}
use Rattle.hfs_check.proofs.LawsProved.{no_blocks_fault, no_image_fault}
use Rattle.hfs_blocks.specs.Blocks.{block_at}
use Rattle.hfs_source.specs.Sparse.{sparse}
use Rattle.hfs_source.proofs.SparseLemmas.{each-of}
use Rattle.hfs_image.specs.Needed.{needed_blocks}
use Rattle.hfs_image.proofs.GatheredLaws.{GatheredIsEnough}

-- Volumes of as many blocks that agree on the blocks that the first needs have the same first fault. Where there is none,
-- they report the same and hold the same items, but for the bytes of forks.
pub needed_is_enough : NeededIsEnough
needed_is_enough = answer-same no_blocks_fault

-- Images of as many bytes that agree so have the same first fault, the same report, and where they are sound the same volume
-- but for the bytes of forks.
pub needed_of_images : NeededOfImages
needed_of_images = images-same needed_is_enough no_image_fault

-- Where each needed block of an image was read, what was read has the image's first fault, its report, and its items but for
-- the bytes of forks.
pub gathered_is_enough : GatheredIsEnough
gathered_is_enough = λ total bytes read needed of.
    needed_is_enough total (sparse read) (block_at bytes) (each-of bytes read of (needed_blocks total (sparse read)) needed)
