-- The file's record was put without the flag, and then its thread went.
use Rattle.std.proofs.Common.{false}
use Rattle.hfs_fields.proofs.OutcomeLemmas.{on_ok}
use Rattle.hfs_call_patches.proofs.FileIdEdits.{records_between, file_id_went}
use Rattle.hfs_call_patches.proofs.file_threads.drop_file_thread.Goals as goal

pub drop_thread-requires-clause-records : goal.drop_thread-requires-clause-records
drop_thread-requires-clause-records g c =
    records_between false c.args.key.now c.args.file.now _ (λ i. record c.args.file.now { flags = record { 0 = c.with_thread.ensures i } }) c.requires.name
    (g.N.Nodes.nodes c.args.nodes.now) (g.N.Nodes.nodes c.set_record.new.nodes) c.in_ok-set_record.ensures.value c.in_ok-set_record.ensures.set c.requires.records

pub returns-clause-went : goal.returns-clause-went
returns-clause-went g c =
    on_ok c.drop_thread.result _ _
    (file_id_went c.args.key.now c.args.file.now _ (λ i. record c.args.file.now { flags = record { 0 = c.with_thread.ensures i } }) c.requires.name
    (g.N.Nodes.nodes c.args.nodes.now) (g.N.Nodes.nodes c.set_record.new.nodes) (g.N.Nodes.nodes c.drop_thread.new.nodes) c.in_ok-set_record.ensures.value c.in_ok-set_record.ensures.set)
    c.drop_thread.ensures.went
