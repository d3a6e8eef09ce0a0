-- The records put a new item where the volume's entries do.
use Rattle.std.proofs.Common.{subst}
use Rattle.std.specs.Prelude.{IfOk}
use Rattle.hfs_btree.specs.Tree.{Store}
use Rattle.hfs_call_edits.specs.NewPlaces.{place_found, IsFolderFound}
use Rattle.hfs_call_edits.proofs.ChosenPlaces.{place_chosen}
use Rattle.hfs_call_edits.proofs.Edited.{editing_now}
use Rattle.hfs_items.proofs.ReplyLemmas.{by_nodes}
use Rattle.hfs_call_edits.proofs.editing.Editing.new_place.Goals as goal

pub returns-clause-chosen : goal.returns-clause-chosen
returns-clause-chosen g c =
    let volume = c.args.self.now in
    let now = editing_now g.B.Blocks.blocks g.B.Blocks.total volume c.self.inside.volume.blocks.now c.self.view_is _ _ _ c.self.invariant in
    place_chosen (g.B.Blocks.blocks volume) c.args.dir c.args.name.now c.nodes.ensures.entries c.self.inside.volume.mdb.now _ (place_found c.new_place.result)
    now.directory (by_nodes (λ cat. cat) (g.B.Blocks.blocks volume) _ c.nodes.ensures.nodes) c.new_place.ensures.chosen

pub returns-clause-folder : goal.returns-clause-folder
returns-clause-folder g c = subst (λ (nodes : Store). IfOk c.new_place.result (IsFolderFound nodes)) c.nodes.ensures.nodes c.new_place.ensures.folder
