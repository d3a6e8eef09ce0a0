use Rattle.hfs_fields.proofs.OutcomeLemmas.{on_ok}
use Rattle.hfs_catalog.specs.Tree.{catalog_of}
use Rattle.hfs_record_edits.proofs.RootLemmas.{above_root}
use Rattle.hfs_record_edits.proofs.Edits.{came}
use Rattle.hfs_record_edits.proofs.one_record.put.Goals as goal

pub insert-requires-clause-above : goal.insert-requires-clause-above
insert-requires-clause-above g c =
    above_root (catalog_of (g.N.Nodes.nodes c.args.nodes.now)) c.args.key.now c.requires.tree.ordered.rises c.requires.root c.requires.parent

pub returns-clause-came : goal.returns-clause-came
returns-clause-came g c =
    on_ok c.insert.result _ _ (came (g.N.Nodes.nodes c.args.nodes.now) (g.N.Nodes.nodes c.insert.new.nodes) c.requires.tree c.args.key.now c.args.body.now) c.insert.ensures.inserted
