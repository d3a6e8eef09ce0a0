-- The records choose what the volume's entries do.
use Rattle.hfs_call_edits.proofs.RenameModel.{chooses_renaming}
use Rattle.hfs_call_edits.proofs.Edited.{editing_now}
use Rattle.hfs_items.proofs.ReplyLemmas.{by_nodes}
use Rattle.hfs_record_edits.proofs.LawsProved.{choice_stands, creation_is_free-folder}
use Rattle.hfs_catalog.proofs.CatalogLawsProved.{sound_is_lawful}
use Rattle.hfs_check.proofs.LawsProved.{catalog_is_sound}
use Rattle.hfs_call_edits.proofs.editing.Editing.item_to_rename.Goals as goal

pub returns : goal.returns
returns g c =
    let volume = c.args.self.now in
    let now = editing_now g.B.Blocks.blocks g.B.Blocks.total volume c.self.inside.volume.blocks.now c.self.view_is _ _ _ c.self.invariant in
    chooses_renaming choice_stands sound_is_lawful catalog_is_sound creation_is_free-folder (g.B.Blocks.total volume) (g.B.Blocks.blocks volume) now.sound c.self.inside.volume.mdb.now now.directory
    _ (by_nodes (λ cat. cat) (g.B.Blocks.blocks volume) _ c.nodes.ensures.nodes) c.nodes.ensures.entries c.args.dir c.args.name.now c.args.new_name.now c.item_to_rename.result c.item_to_rename.ensures
