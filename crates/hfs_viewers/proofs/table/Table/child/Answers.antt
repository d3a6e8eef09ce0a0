use Rattle.std.proofs.Common.{◌∙◌}
use Rattle.hfs_viewers.proofs.LookedUp.{no_child, a_child, child_has}
use Rattle.hfs_viewers.proofs.table.Table.child.Goals as goal

pub returns-in_default-clause-entry : goal.returns-in_default-clause-entry
returns-in_default-clause-entry c = no_child c.args.self.now c.requires c.args.dir c.args.name.now c.get.result c.get.ensures.value c.in_default.is

pub returns-in-None-clause-entry : goal.returns-in-None-clause-entry
returns-in-None-clause-entry c = a_child c.args.self.now c.requires c.args.dir c.args.name.now c.get.result c.in-Some.id c.get.ensures.value c.in-Some.is ∙ c.in-None.ensures.entry

pub returns-in-Some-row-clause-entry : goal.returns-in-Some-row-clause-entry
returns-in-Some-row-clause-entry c = a_child c.args.self.now c.requires c.args.dir c.args.name.now c.get.result c.in-Some.id c.get.ensures.value c.in-Some.is ∙ c.in-Some-row.ensures.entry

pub returns-in-Some-row-clause-has : goal.returns-in-Some-row-clause-has
returns-in-Some-row-clause-has c = child_has c.args.self.now c.requires c.args.dir c.args.name.now c.in-Some.id.now c.in-Some-row.row.now (a_child c.args.self.now c.requires c.args.dir c.args.name.now c.get.result c.in-Some.id c.get.ensures.value c.in-Some.is ∙ c.in-Some-row.ensures.entry)
