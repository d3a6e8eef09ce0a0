use Rattle.hfs_fields.proofs.OutcomeLemmas.{on_ok}
use Rattle.hfs_record_edits.proofs.ItemSteps.{records_after, item_went}
use Rattle.hfs_record_edits.proofs.dropping_items.drop_item.Goals as goal

pub drop_thread-requires-clause-records : goal.drop_thread-requires-clause-records
drop_thread-requires-clause-records g c =
    records_after c.args.key.now (g.N.Nodes.nodes c.args.nodes.now) c.requires.there (g.N.Nodes.nodes c.take.new.nodes) c.in_ok-take.ensures.went c.requires.records

pub returns-clause-went : goal.returns-clause-went
returns-clause-went g c =
    on_ok c.drop_thread.result _ _
    (item_went c.args.key.now (g.N.Nodes.nodes c.args.nodes.now) c.requires.there (g.N.Nodes.nodes c.take.new.nodes) c.in_ok-take.ensures.went c.args.id (g.N.Nodes.nodes c.drop_thread.new.nodes))
    c.drop_thread.ensures.went
