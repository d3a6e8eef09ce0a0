use Rattle.std.proofs.Common.{◌∙◌, ap, ℕ, List, Vec, Global}
use Rattle.hfs_remains.specs.Items.{has_row}
use Rattle.hfs_remains.proofs.ItemLemmas.{row-there}
use Rattle.hfs_remains.proofs.sets.Rows.has.Goals as goal

pub returns : goal.returns
returns c = c.contains.ensures ∙ row-there c.self.inside.rows.keys c.args.row.now ∙ ap (λ (rows : List (Vec ℕ Global)). has_row rows c.args.row.now) c.self.view_is
