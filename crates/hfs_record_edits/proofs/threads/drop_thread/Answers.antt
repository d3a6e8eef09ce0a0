use Rattle.std.proofs.Common.{sym}
use Rattle.hfs_fields.proofs.OutcomeLemmas.{on_ok}
use Rattle.hfs_record_edits.proofs.ThreadEdits.{thread_went, no_thread_went}
use Rattle.hfs_record_edits.proofs.threads.drop_thread.Goals as goal

pub returns-in-Some-clause-went : goal.returns-in-Some-clause-went
returns-in-Some-clause-went g c =
    let old = g.N.Nodes.nodes c.args.nodes.now in
    on_ok c.take.result _ _ (thread_went c.args.id c.thread_key-key.result c.thread_key-key.ensures old c.requires.tree c.requires.records (g.N.Nodes.nodes c.take.new.nodes)) c.take.ensures.went

pub returns-in-None-clause-went : goal.returns-in-None-clause-went
returns-in-None-clause-went g c =
    let old = g.N.Nodes.nodes c.args.nodes.now in
    let found = sym c.in_ok-_thread.ensures in
    no_thread_went c.args.id c.thread_key-key.result c.thread_key-key.ensures old c.requires.tree c.requires.records (rw c.in-None.is at found)
