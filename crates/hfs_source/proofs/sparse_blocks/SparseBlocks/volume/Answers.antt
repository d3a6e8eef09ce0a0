-- Each block has 512 bytes.
use Rattle.std.proofs.Common.{subst}
use Rattle.hfs_blocks.specs.Layers.{Numbered, changes, AreWhole}
use Rattle.hfs_source.proofs.PuttingIn.{whole-held}
use Rattle.hfs_source.proofs.sparse_blocks.SparseBlocks.volume.Goals as goal

pub invariant_of-result : goal.invariant_of-result
invariant_of-result c = record {
  few = c.ranges.count.fits;
  whole = subst (λ (l : Numbered). AreWhole (changes l)) c.self.view_is (whole-held c.self.inside.held c.self.invariant);
}
