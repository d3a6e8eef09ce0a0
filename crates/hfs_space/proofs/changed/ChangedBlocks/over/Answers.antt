-- The kept blocks are whole, as they lie over the image, and so are all changed ones.
use Rattle.std.proofs.Common.{subst}
use Rattle.hfs_blocks.specs.Layers.{Numbered, changes, AreWhole}
use Rattle.hfs_space.proofs.AllBlocks.{whole-all}
use Rattle.hfs_space.proofs.changed.ChangedBlocks.over.Goals as goal

pub invariant_of-result : goal.invariant_of-result
invariant_of-result g c =
    let kept : AreWhole (changes c.self.inside.kept) = subst (λ (p : Numbered). AreWhole (changes p)) c.over-kept.ensures.patch c.over-kept.result.whole in
    record { whole = subst (λ (v : Numbered). AreWhole (changes v)) c.self.view_is (whole-all c.self.inside.kept c.self.inside.flags.items kept) }
