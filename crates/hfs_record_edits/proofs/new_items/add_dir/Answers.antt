use Rattle.hfs_fields.proofs.OutcomeLemmas.{on_ok}
use Rattle.hfs_btree_removal.proofs.RemoveWhole.{on_both}
use Rattle.hfs_record_edits.proofs.ItemSteps.{root_after, threadless_after, folder_came}
use Rattle.hfs_record_edits.proofs.new_items.add_dir.Goals as goal

pub add_thread-requires-clause-root : goal.add_thread-requires-clause-root
add_thread-requires-clause-root g c =
    root_after c.args.dir c.args.name.now c.args.folder.now (g.N.Nodes.nodes c.args.nodes.now) (g.N.Nodes.nodes c.add_folder.new.nodes) c.in_ok-add_folder.ensures.came c.requires.root

pub add_thread-requires-clause-absent : goal.add_thread-requires-clause-absent
add_thread-requires-clause-absent g c =
    threadless_after c.args.dir c.args.name.now c.args.folder.now (g.N.Nodes.nodes c.args.nodes.now) (g.N.Nodes.nodes c.add_folder.new.nodes) c.in_ok-add_folder.ensures.came
    c.requires.named c.requires.threadless

pub returns-clause-came : goal.returns-clause-came
returns-clause-came g c =
    on_ok c.add_thread.result _ _
    (λ h. folder_came c.args.dir c.args.name.now c.args.folder.now (g.N.Nodes.nodes c.args.nodes.now) (g.N.Nodes.nodes c.add_folder.new.nodes) c.in_ok-add_folder.ensures.came
    (g.N.Nodes.nodes c.add_thread.new.nodes) c.in_ok-add_folder.ensures.value h.0 h.1)
    (on_both c.add_thread.result _ _ c.add_thread.ensures.came c.add_thread.ensures.value)
