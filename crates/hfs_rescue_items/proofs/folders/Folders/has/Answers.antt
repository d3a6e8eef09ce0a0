use Rattle.std.proofs.Common.{◌∙◌, ap, ℕ, List, Vec, Global}
use Rattle.hfs_remains.specs.Items.{has_row}
use Rattle.hfs_remains.proofs.ItemLemmas.{row-there}
use Rattle.hfs_rescue_items.proofs.folders.Folders.has.Goals as goal

pub returns : goal.returns
returns c = c.contains.ensures ∙ row-there c.self.inside.paths.keys c.args.path.now ∙ ap (λ (rows : List (Vec ℕ Global)). has_row rows c.args.path.now) c.self.view_is
