use Rattle.std.proofs.Common.{◌∙◌, ap, ℕ, List, Vec, Global, ◌||◌}
use Rattle.std.specs.Str.{bytes_eq}
use Rattle.hfs_remains.specs.Items.{has_row}
use Rattle.hfs_remains.proofs.ItemLemmas.{row-put}
use Rattle.hfs_rescue_items.proofs.folders.Folders.add.Goals as goal

pub returns : goal.returns
returns c = λ other.
    row-put c.self.inside.paths.keys c.insert.new.self.keys c.args.path c.in_ok-insert.ensures.updates.0 other
    ∙ ap (λ (rows : List (Vec ℕ Global)). has_row rows other || bytes_eq c.args.path.items other.items) c.self.view_is
