-- What is read from is what the image is read from.
use Rattle.std.proofs.Common.{◌≡◌, subst}
use Rattle.std.specs.Prelude.{IfErr}
use Rattle.hfs_image.specs.Failing.{SomeReadFails}
use Rattle.hfs_source.specs.declared.fetching.SparseFault.TheVariants.{ReadFailed}
use Rattle.hfs_image.proofs.seen.SeenImage.file.Goals as goal

pub returns-clause-failed : goal.returns-clause-failed
returns-clause-failed g c =
    subst (λ s. IfErr c.file_noted.result (λ fault. fault ≡ ReadFailed → SomeReadFails (g.S.PlacedBlocks.Holds s) (g.S.PlacedBlocks.Fails s)))
    c.self.view_is c.file_noted.ensures.failed
