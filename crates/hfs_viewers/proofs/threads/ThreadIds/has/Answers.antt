use Rattle.std.proofs.Common.{◌∙◌, ap, ℕ, List}
use Rattle.hfs_viewers.specs.Opened.{has_number}
use Rattle.hfs_catalog.proofs.Ordered.{id_there}
use Rattle.hfs_viewers.proofs.threads.ThreadIds.has.Goals as goal

pub returns : goal.returns
returns c = c.contains.ensures ∙ id_there c.self.inside.ids.keys c.args.id ∙ ap (λ (ids : List ℕ). has_number ids c.args.id) c.self.view_is
