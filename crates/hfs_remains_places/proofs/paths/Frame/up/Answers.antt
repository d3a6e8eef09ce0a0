use Rattle.std.proofs.Common.{sym, ap, ◌∙◌}
use Rattle.hfs_remains_places.specs.declared.things.Thing.{Thing}
use Rattle.hfs_remains_places.specs.Things.{folder_of}
use Rattle.hfs_remains_places.proofs.ChainLemmas.{up-of}
use Rattle.hfs_remains_places.proofs.PathLemmas.{within-by}
use Rattle.hfs_remains_places.proofs.paths.Frame.up.Goals as goal

pub returns-clause-is : goal.returns-clause-is
returns-clause-is c =
    let things = c.args.self.now.things.now in
    c.folder.ensures ∙ ap (λ (t : Thing). folder_of things t.parent) c.thing.ensures ∙ sym (up-of things c.args.i c.requires)

pub returns-clause-within : goal.returns-clause-within
returns-clause-within c =
    let things = c.args.self.now.things.now in
    within-by things c.args.i c.folder.result (c.folder.ensures ∙ ap (λ (t : Thing). folder_of things t.parent) c.thing.ensures ∙ sym (up-of things c.args.i c.requires))
