use Rattle.std.proofs.Common.{◌∙◌}
use Rattle.hfs_model.specs.Children.{is_child_named}
use Rattle.hfs_model.specs.Choices.{is_held}
use Rattle.hfs_store.proofs.Scans.{is_some_found}
use Rattle.hfs_store.proofs.entries.is_held.Goals as goal

pub returns : goal.returns
unfolding is_held
returns c = c.is_some.ensures ∙ is_some_found (is_child_named c.args.dir c.args.name.now) c.args.entries.now _ c.child_named.ensures
