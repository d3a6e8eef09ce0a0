use Rattle.hfs_fields.proofs.OutcomeLemmas.{on_ok}
use Rattle.hfs_record_edits.proofs.ItemSteps.{records_then, threads_then, item_rekeyed}
use Rattle.hfs_record_edits.proofs.rekeying.rekey.Goals as goal

pub turn_thread-requires-clause-records : goal.turn_thread-requires-clause-records
turn_thread-requires-clause-records g c =
    records_then c.args.id c.args.from.now c.args.to.now (g.N.Nodes.nodes c.args.nodes.now) (g.N.Nodes.nodes c.move_record.new.nodes) c.requires.there c.in_ok-move_record.ensures.moved
    c.requires.named c.requires.records

pub turn_thread-requires-clause-threads : goal.turn_thread-requires-clause-threads
turn_thread-requires-clause-threads g c =
    threads_then c.args.id c.args.from.now c.args.to.now (g.N.Nodes.nodes c.args.nodes.now) (g.N.Nodes.nodes c.move_record.new.nodes) c.requires.there c.in_ok-move_record.ensures.moved
    c.requires.names

pub returns-clause-rekeyed : goal.returns-clause-rekeyed
returns-clause-rekeyed g c =
    on_ok c.turn_thread.result _ _
    (item_rekeyed c.args.id c.args.from.now c.args.to.now (g.N.Nodes.nodes c.args.nodes.now) (g.N.Nodes.nodes c.move_record.new.nodes) c.requires.there c.in_ok-move_record.ensures.moved
    (g.N.Nodes.nodes c.turn_thread.new.nodes))
    c.turn_thread.ensures.turned
