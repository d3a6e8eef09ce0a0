use Rattle.std.proofs.Common.{◌∙◌, ap}
use Rattle.hfs_catalog.specs.Indexes.{Numbered, number_of}
use Rattle.hfs_catalog.proofs.Ordered.{number_there}
use Rattle.hfs_remains_places.proofs.numbers.FolderPlaces.get.Goals as goal

pub returns : goal.returns
returns c =
    c.copied.ensures ∙ c.get.ensures.value ∙ number_there c.self.inside.places.entries c.args.number
    ∙ ap (λ (numbers : Numbered). number_of numbers c.args.number) c.self.view_is
