use Rattle.std.proofs.Common.{◌∙◌, ap, ℕ, ◌||◌, nat_eq, List}
use Rattle.hfs_catalog.specs.Indexes.{has_number}
use Rattle.hfs_catalog.proofs.Ordered.{id_put}
use Rattle.hfs_remains.proofs.sets.Numbers.add.Goals as goal

pub returns : goal.returns
returns c = λ k.
    id_put c.self.inside.numbers.keys c.insert.new.self.keys c.args.number c.in_ok-insert.ensures.updates.0 k
    ∙ ap (λ (numbers : List ℕ). has_number numbers k || nat_eq c.args.number k) c.self.view_is
