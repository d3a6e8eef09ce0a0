-- The file's record was put with the flag, and then its thread came.
use Rattle.std.proofs.Common.{true}
use Rattle.hfs_fields.proofs.OutcomeLemmas.{on_ok}
use Rattle.hfs_btree_removal.proofs.RemoveWhole.{on_both as both_ok}
use Rattle.hfs_call_patches.proofs.FileIdEdits.{root_between, absent_between, file_id_came}
use Rattle.hfs_call_patches.proofs.file_threads.add_file_thread.Goals as goal

pub add_thread-requires-clause-root : goal.add_thread-requires-clause-root
add_thread-requires-clause-root g c =
    root_between true c.args.key.now c.args.file.now _ (λ i. record c.args.file.now { flags = record { 0 = c.with_thread.ensures i } }) c.requires.name
    (g.N.Nodes.nodes c.args.nodes.now) (g.N.Nodes.nodes c.set_record.new.nodes) c.in_ok-set_record.ensures.value c.in_ok-set_record.ensures.set c.requires.low c.requires.root

pub add_thread-requires-clause-absent : goal.add_thread-requires-clause-absent
add_thread-requires-clause-absent g c =
    absent_between true c.args.key.now c.args.file.now _ (λ i. record c.args.file.now { flags = record { 0 = c.with_thread.ensures i } }) c.requires.name
    (g.N.Nodes.nodes c.args.nodes.now) (g.N.Nodes.nodes c.set_record.new.nodes) c.in_ok-set_record.ensures.value c.in_ok-set_record.ensures.set c.requires.absent

pub returns-clause-came : goal.returns-clause-came
returns-clause-came g c =
    on_ok c.add_thread.result _ _
    (λ h. file_id_came c.args.key.now c.args.file.now _ (λ i. record c.args.file.now { flags = record { 0 = c.with_thread.ensures i } }) c.requires.name
    (g.N.Nodes.nodes c.args.nodes.now) (g.N.Nodes.nodes c.set_record.new.nodes) (g.N.Nodes.nodes c.add_thread.new.nodes) c.in_ok-set_record.ensures.value c.in_ok-set_record.ensures.set h.0 h.1)
    (both_ok c.add_thread.result _ _ c.add_thread.ensures.came c.add_thread.ensures.value)
