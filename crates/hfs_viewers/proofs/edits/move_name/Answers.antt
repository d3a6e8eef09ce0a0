use Rattle.std.proofs.Common.{sym, ◌∙◌}
use Rattle.hfs_viewers.proofs.Moved.{moved_nowhere, moved_there}
use Rattle.hfs_viewers.proofs.edits.move_name.Goals as goal

pub returns-then-eq-clause-ok : goal.returns-then-eq-clause-ok
returns-then-eq-clause-ok c = moved_nowhere c.args.names.now c.args.from.now c.args.to c.args.id c.requires.sorted c.requires.stands (sym c.eq.ensures ∙ c.if-eq.true)

pub returns-clause-ok : goal.returns-clause-ok
returns-clause-ok c =
    moved_there c.args.names.now c.insert.new.self c.remove.new.self c.args.from.now c.args.to c.args.id c.remove.ensures.ordered (sym c.eq.ensures ∙ c.if-eq.false) c.in-Ok.ensures.updates c.remove.ensures.updates
