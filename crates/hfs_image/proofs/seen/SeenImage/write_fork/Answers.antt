-- What is read from is what the image is read from, and each image that holds at the end held before.
use Rattle.std.proofs.Common.{subst}
use Rattle.hfs_image.specs.Failing.{SomeReadFails}
use Rattle.hfs_image.proofs.seen.SeenImage.write_fork.Goals as goal

pub invariant_of-image : goal.invariant_of-image
invariant_of-image g c =
    let held = c.write_noted-told.ensures.narrows in
    record {
      opened = c.self.invariant.opened;
      seen = λ image h. c.self.invariant.seen image (held image h);
      long = λ image h. c.self.invariant.long image (held image h);
    }

pub returns-clause-failed : goal.returns-clause-failed
returns-clause-failed g c = λ told.
    subst (λ s. SomeReadFails (g.S.PlacedBlocks.Holds s) (g.S.PlacedBlocks.Fails s)) c.self.view_is (c.write_noted-told.ensures.failed told)

pub returns-clause-broken : goal.returns-clause-broken
returns-clause-broken g c = λ told.
    subst (λ s. SomeReadFails (g.S.PlacedBlocks.Holds s) (g.S.PlacedBlocks.Fails s)) c.self.view_is (c.write_noted-told.ensures.broken told)

pub returns-clause-narrows : goal.returns-clause-narrows
returns-clause-narrows g c = λ image h.
    subst (λ s. g.S.PlacedBlocks.Holds s image) c.self.view_is (c.write_noted-told.ensures.narrows image h)

pub returns-clause-later : goal.returns-clause-later
returns-clause-later g c = λ place count fails.
    subst (λ s. g.S.PlacedBlocks.Fails s place count) c.self.view_is (c.write_noted-told.ensures.later place count fails)
