use Rattle.std.proofs.Common.{◌∙◌, ap}
use Rattle.hfs_catalog.specs.Indexes.{Numbered, number_of, with_number}
use Rattle.hfs_catalog.proofs.Ordered.{number_there, number_put}
use Rattle.hfs_remains_forks.proofs.codes.CodedPlaces.replace.Goals as goal

pub returns-clause-put : goal.returns-clause-put
returns-clause-put c =
    number_put c.self.inside.places.entries c.insert.new.self.entries c.args.number c.args.place c.in_ok-was.ensures.updates.0
    ∙ ap (λ (numbers : Numbered). with_number (number_of numbers) c.args.number c.args.place) c.self.view_is

pub returns-clause-was : goal.returns-clause-was
returns-clause-was c =
    c.in_ok-was.ensures.old ∙ number_there c.self.inside.places.entries c.args.number
    ∙ ap (λ (numbers : Numbered). number_of numbers c.args.number) c.self.view_is
