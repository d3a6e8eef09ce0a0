use Rattle.std.proofs.Common.{◌∙◌, ap}
use Rattle.hfs_catalog.specs.Indexes.{Numbered, number_of}
use Rattle.hfs_catalog.proofs.Ordered.{number_there}
use Rattle.hfs_catalog.proofs.numbers.Numbers.get.Goals as goal

pub returns : goal.returns
returns c =
    c.copied.ensures ∙ c.get.ensures.value ∙ number_there c.self.inside.numbers.entries c.args.id
    ∙ ap (λ (numbers : Numbered). number_of numbers c.args.id) c.self.view_is
