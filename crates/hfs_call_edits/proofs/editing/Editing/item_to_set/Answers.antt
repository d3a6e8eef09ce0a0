-- The records choose what the volume's entries do.
use Rattle.std.proofs.Common.{subst}
use Rattle.std.specs.Prelude.{IfOk}
use Rattle.hfs_btree.specs.Tree.{Store}
use Rattle.hfs_call_edits.specs.Placed.{item_chosen, IsItemPlaced}
use Rattle.hfs_call_edits.proofs.Chosen.{sets_item}
use Rattle.hfs_call_edits.proofs.Edited.{editing_now}
use Rattle.hfs_items.proofs.ReplyLemmas.{by_nodes}
use Rattle.hfs_record_edits.proofs.LawsProved.{choice_stands}
use Rattle.hfs_call_edits.proofs.editing.Editing.item_to_set.Goals as goal

pub returns-clause-chosen : goal.returns-clause-chosen
returns-clause-chosen g c =
    let volume = c.args.self.now in
    let now = editing_now g.B.Blocks.blocks g.B.Blocks.total volume c.self.inside.volume.blocks.now c.self.view_is _ _ _ c.self.invariant in
    sets_item choice_stands (g.B.Blocks.total volume) (g.B.Blocks.blocks volume) now.sound c.self.inside.volume.mdb.now now.directory
    _ (by_nodes (λ cat. cat) (g.B.Blocks.blocks volume) _ c.nodes.ensures.nodes) c.nodes.ensures.entries c.args.dir c.args.name.now (item_chosen c.item_to_set.result) c.item_to_set.ensures.chosen

pub returns-clause-place : goal.returns-clause-place
returns-clause-place g c = subst (λ (nodes : Store). IfOk c.item_to_set.result (IsItemPlaced nodes)) c.nodes.ensures.nodes c.item_to_set.ensures.place
