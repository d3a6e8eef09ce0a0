-- What was opened is opened by each image.
use Rattle.std.proofs.Common.{ℕ, None, subst, sym}
use Rattle.hfs_source.specs.Images.{OfEach}
use Rattle.hfs_image.specs.Opened.{IsOpenedOf}
use Rattle.hfs_image.specs.Seen.{IsOpenedBy}
use Rattle.hfs_image.proofs.SeenStart.{opened-by}
use Rattle.hfs_image.proofs.seen.SeenImage.volume.Goals as goal

pub returns-clause-opened : goal.returns-clause-opened
returns-clause-opened g c =
    let opened = c.self.inside in
    subst (λ s. OfEach (g.S.PlacedBlocks.Holds s) (IsOpenedBy opened.volume)) c.self.view_is
    (opened-by (g.S.PlacedBlocks.Holds opened.source.blocks) opened.len opened.volume c.self.invariant)

pub returns-clause-sound : goal.returns-clause-sound
returns-clause-sound g c =
    let opened = c.self.inside in
    let is = c.self.invariant.opened in
    subst (λ (n : ℕ). IsOpenedOf None n opened.volume) (sym is.whole) is
