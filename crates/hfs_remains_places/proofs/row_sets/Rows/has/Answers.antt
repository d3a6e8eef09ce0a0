use Rattle.std.proofs.Common.{◌∙◌, ap, ℕ, List, Vec, Global}
use Rattle.hfs_remains_places.specs.Rows.{has_row}
use Rattle.hfs_remains_places.proofs.SetLemmas.{row-there}
use Rattle.hfs_remains_places.proofs.row_sets.Rows.has.Goals as goal

pub returns : goal.returns
returns c = c.contains.ensures ∙ row-there c.self.inside.rows.keys c.args.row.now ∙ ap (λ (rows : List (Vec ℕ Global)). has_row rows c.args.row.now) c.self.view_is
