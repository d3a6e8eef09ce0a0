-- The record was put into the catalog's nodes, and then the counts.
use Rattle.hfs_fields.proofs.OutcomeLemmas.{if_ok}
use Rattle.hfs_blocks.specs.Layers.{changes, over}
use Rattle.hfs_record_edits.specs.Bodies.{IfBody, IsOfKind}
use Rattle.hfs_call_patches.proofs.Opened.{tree_open, place_open, body_open, item_set}
use Rattle.hfs_check.proofs.LawsProved.{trees_are_sound}
use Rattle.hfs_call_patches.proofs.recorded.patch_record.Goals as goal

pub set_record_at-requires-clause-tree : goal.set_record_at-requires-clause-tree
set_record_at-requires-clause-tree g c =
    let below = c.args.volume.now.blocks.now in
    tree_open (g.B.Blocks.blocks below) _ c.open_catalog-nodes.ensures.nodes (trees_are_sound (g.B.Blocks.total below) (g.B.Blocks.blocks below) c.requires.sound).1

pub set_record_at-requires-clause-there : goal.set_record_at-requires-clause-there
set_record_at-requires-clause-there g c =
    body_open (g.B.Blocks.blocks c.args.volume.now.blocks.now) _ c.open_catalog-nodes.ensures.nodes (IfBody (IsOfKind c.args.item.now)) c.args.key.now c.requires.there

pub set_record_at-requires-clause-place : goal.set_record_at-requires-clause-place
set_record_at-requires-clause-place g c =
    place_open (g.B.Blocks.blocks c.args.volume.now.blocks.now) _ c.open_catalog-nodes.ensures.nodes c.args.key.now c.args.place.now c.requires.place

pub returns-clause-set : goal.returns-clause-set
returns-clause-set g c =
    let below = c.args.volume.now.blocks.now in
    if_ok c.close_catalog.result _ _
    (λ patch is. item_set (g.B.Blocks.blocks below) _ c.open_catalog-nodes.ensures.nodes c.args.key.now c.args.item.now c.args.counts.now _ (over (changes patch) (g.B.Blocks.blocks below))
    c.in_ok-set_record_at.ensures.value c.in_ok-set_record_at.ensures.set is)
    c.close_catalog.ensures.catalog
