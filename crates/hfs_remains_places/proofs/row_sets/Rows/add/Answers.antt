use Rattle.std.proofs.Common.{◌∙◌, ap, ℕ, List, Vec, Global, ◌||◌}
use Rattle.std.specs.Str.{bytes_eq}
use Rattle.hfs_remains_places.specs.Rows.{has_row}
use Rattle.hfs_remains_places.proofs.SetLemmas.{row-put}
use Rattle.hfs_remains_places.proofs.row_sets.Rows.add.Goals as goal

pub returns : goal.returns
returns c = λ other.
    row-put c.self.inside.rows.keys c.insert.new.self.keys c.args.row c.in_ok-insert.ensures.updates.0 other
    ∙ ap (λ (rows : List (Vec ℕ Global)). has_row rows other || bytes_eq c.args.row.items other.items) c.self.view_is
