-- As where it is taken to begin.
use Rattle.std.proofs.Common.{◌∙◌}
use Rattle.hfs_bag.specs.Parts.{content_of}
use Rattle.hfs_bag.proofs.part.ImagePart.range.Goals as goal

pub returns-clause-range : goal.returns-clause-range
returns-clause-range g c = λ bytes own. own.is ∙ c.start_of-start.ensures.bytes (content_of c.args.layout g.K.PickedImage.image)
