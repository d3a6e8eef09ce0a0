use Rattle.hfs_record_edits.proofs.BodyRowLemmas.{body-fits}
use Rattle.hfs_record_edits.proofs.changing.change.Goals as goal

pub replace-requires-clause-there : goal.replace-requires-clause-there
replace-requires-clause-there g c = body-fits (g.S.Nodes.nodes c.args.nodes.now) c.args.key.now c.args.body.now c.requires.tree c.requires.long c.requires.there
