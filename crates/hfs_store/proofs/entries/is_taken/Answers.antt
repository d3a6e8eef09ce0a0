use Rattle.std.proofs.Common.{◌∙◌}
use Rattle.hfs_model.specs.Choices.{is_taken, is_other_named}
use Rattle.hfs_store.proofs.Scans.{is_some_found}
use Rattle.hfs_store.proofs.entries.is_taken.Goals as goal

pub returns : goal.returns
unfolding is_taken
returns c = c.is_some.ensures ∙ is_some_found (is_other_named c.args.dir c.args.name.now c.args.id) c.args.entries.now _ c.other_named.ensures
