use Rattle.std.proofs.Common.{◌∙◌, ap, ℕ, ◌||◌, nat_eq, List}
use Rattle.hfs_viewers.specs.Opened.{has_number}
use Rattle.hfs_catalog.proofs.Ordered.{id_put}
use Rattle.hfs_viewers.proofs.threads.ThreadIds.add.Goals as goal

pub returns : goal.returns
returns c = λ k.
    id_put c.self.inside.ids.keys c.insert.new.self.keys c.args.id c.in_ok-insert.ensures.updates.0 k
    ∙ ap (λ (ids : List ℕ). has_number ids k || nat_eq c.args.id k) c.self.view_is
