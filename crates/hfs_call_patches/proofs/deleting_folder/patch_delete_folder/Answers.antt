-- The folder went from the catalog's nodes, and then the counts were put.
use Rattle.std.proofs.Common.{sym, subst, arith}
use Rattle.hfs_fields.proofs.OutcomeLemmas.{if_ok}
use Rattle.hfs_catalog.specs.Tree.{IsCatalogTree}
use Rattle.hfs_call_patches.proofs.FromFolder.{own_id_by, there_by, stays_by, keeps_by, some_child, opened_records}
use Rattle.hfs_call_patches.proofs.FolderGone.{chosen_id, folder_gone}
use Rattle.hfs_record_edits.proofs.LawsProved.{removal_fits, choice_stands, folders_stand-delete, delete_folder_makes}
use Rattle.hfs_check.proofs.LawsProved.{trees_are_sound}
use Rattle.hfs_call_patches.proofs.deleting_folder.patch_delete_folder.Goals as goal

pub overflow_sub-left : goal.overflow_sub-left
overflow_sub-left g c =
    let below = c.args.volume.now.blocks.now in
    let ch = c.requires.chosen.chosen in
    let one = some_child removal_fits (g.B.Blocks.total below) c.args.parent.now.id c.requires.chosen.name c.args.parent.now.key c.args.parent.now.valence ch.of (g.B.Blocks.blocks below) c.requires.sound ch.choice c.requires.parent in
    omega (arith, one)

pub drop_from_folder-requires-clause-tree : goal.drop_from_folder-requires-clause-tree
drop_from_folder-requires-clause-tree g c =
    let below = c.args.volume.now.blocks.now in
    subst IsCatalogTree (sym c.open_catalog-nodes.ensures.nodes) (trees_are_sound (g.B.Blocks.total below) (g.B.Blocks.blocks below) c.requires.sound).1

pub drop_from_folder-requires-clause-records : goal.drop_from_folder-requires-clause-records
drop_from_folder-requires-clause-records g c =
    opened_records (g.B.Blocks.total c.args.volume.now.blocks.now) (g.B.Blocks.blocks c.args.volume.now.blocks.now) c.requires.sound _ c.open_catalog-nodes.ensures.nodes

pub drop_from_folder-requires-clause-there : goal.drop_from_folder-requires-clause-there
drop_from_folder-requires-clause-there g c =
    let below = c.args.volume.now.blocks.now in
    let old = g.B.Blocks.blocks below in
    let ch = c.requires.chosen.chosen in
    there_by choice_stands folders_stand-delete (g.B.Blocks.total below) c.args.parent.now.id c.args.folder.now.id c.requires.chosen.name c.args.key.now c.args.parent.now.key c.args.parent.now.valence ch.of old
    c.requires.sound ch.choice ch.own_key (chosen_id old c.args.parent.now.id c.requires.chosen.name c.args.key.now c.args.folder.now ch) c.requires.parent _ c.open_catalog-nodes.ensures.nodes

pub drop_from_folder-requires-clause-own : goal.drop_from_folder-requires-clause-own
drop_from_folder-requires-clause-own g c =
    let below = c.args.volume.now.blocks.now in
    let old = g.B.Blocks.blocks below in
    let ch = c.requires.chosen.chosen in
    own_id_by choice_stands folders_stand-delete (g.B.Blocks.total below) c.args.parent.now.id c.args.folder.now.id c.requires.chosen.name c.args.key.now c.args.parent.now.key c.args.parent.now.valence ch.of old
    c.requires.sound ch.choice ch.own_key (chosen_id old c.args.parent.now.id c.requires.chosen.name c.args.key.now c.args.folder.now ch) c.requires.parent _ c.open_catalog-nodes.ensures.nodes

pub drop_from_folder-requires-clause-stays : goal.drop_from_folder-requires-clause-stays
drop_from_folder-requires-clause-stays g c =
    let below = c.args.volume.now.blocks.now in
    let old = g.B.Blocks.blocks below in
    let ch = c.requires.chosen.chosen in
    stays_by choice_stands folders_stand-delete (g.B.Blocks.total below) c.args.parent.now.id c.args.folder.now.id c.requires.chosen.name c.args.key.now c.args.parent.now.key c.args.parent.now.valence ch.of old
    c.requires.sound ch.choice ch.own_key (chosen_id old c.args.parent.now.id c.requires.chosen.name c.args.key.now c.args.folder.now ch) c.requires.parent _ c.open_catalog-nodes.ensures.nodes

pub close_catalog-requires-clause-keeps : goal.close_catalog-requires-clause-keeps
close_catalog-requires-clause-keeps g c =
    let below = c.args.volume.now.blocks.now in
    let old = g.B.Blocks.blocks below in
    let ch = c.requires.chosen.chosen in
    keeps_by choice_stands folders_stand-delete (g.B.Blocks.total below) c.args.parent.now.id c.args.folder.now.id c.requires.chosen.name c.args.key.now c.args.parent.now.key c.args.parent.now.valence ch.of old
    c.requires.sound ch.choice ch.own_key (chosen_id old c.args.parent.now.id c.requires.chosen.name c.args.key.now c.args.folder.now ch) c.requires.parent _ c.open_catalog-nodes.ensures.nodes
    c.args.now _ c.in_ok-drop_from_folder.ensures.dropped

pub returns-clause-makes : goal.returns-clause-makes
returns-clause-makes g c =
    let below = c.args.volume.now.blocks.now in
    let old = g.B.Blocks.blocks below in
    if_ok c.close_catalog.result _ _
    (λ patch made.
    folder_gone delete_folder_makes choice_stands folders_stand-delete (g.B.Blocks.total below) c.args.parent.now.id c.args.now c.args.parent.now.valence c.args.key.now c.args.parent.now.key c.args.folder.now
    c.args.volume.now.mdb.now c.without_folder-counts.result old _ c.requires.sound c.requires.parent _ _ c.open_catalog-nodes.ensures.nodes c.in_ok-drop_from_folder.ensures.dropped c.requires.mdb c.without_folder-counts.ensures made)
    c.close_catalog.ensures.catalog
