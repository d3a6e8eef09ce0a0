use Rattle.hfs_fields.proofs.OutcomeLemmas.{on_ok}
use Rattle.hfs_record_edits.proofs.Edits.{went}
use Rattle.hfs_record_edits.proofs.one_record.take.Goals as goal

pub returns-clause-went : goal.returns-clause-went
returns-clause-went g c =
    on_ok c.remove.result _ _ (went (g.N.Nodes.nodes c.args.nodes.now) (g.N.Nodes.nodes c.remove.new.nodes) c.requires.tree c.args.key.now c.requires.there) c.remove.ensures.removed
