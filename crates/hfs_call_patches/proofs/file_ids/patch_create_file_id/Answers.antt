-- The file's thread came into the catalog's nodes, and then the counts were put.
use Rattle.hfs_fields.proofs.OutcomeLemmas.{if_ok}
use Rattle.hfs_fields.specs.Records.{is_file}
use Rattle.hfs_blocks.specs.Layers.{changes, over}
use Rattle.hfs_call_patches.specs.Settings.{IsBody}
use Rattle.hfs_call_patches.proofs.FileIdPatches.{create_made}
use Rattle.hfs_call_patches.proofs.Opened.{tree_open, root_open, body_open, absent_open, inside_open}
use Rattle.hfs_call_patches.proofs.ChosenItems.{file_named, file_under}
use Rattle.hfs_check.proofs.LawsProved.{trees_are_sound}
use Rattle.hfs_record_edits.proofs.LawsProved.{choice_stands, create_file_id_makes}
use Rattle.hfs_call_patches.proofs.file_ids.patch_create_file_id.Goals as goal

pub add_file_thread-requires-clause-name : goal.add_file_thread-requires-clause-name
add_file_thread-requires-clause-name g c =
    let below = c.args.volume.now.blocks.now in
    file_named (g.B.Blocks.total below) (g.B.Blocks.blocks below) c.requires.sound _ c.args.key.now c.args.file.now c.requires.chosen.chosen

pub add_file_thread-requires-clause-tree : goal.add_file_thread-requires-clause-tree
add_file_thread-requires-clause-tree g c =
    let below = c.args.volume.now.blocks.now in
    tree_open (g.B.Blocks.blocks below) _ c.open_catalog-nodes.ensures.nodes
    (trees_are_sound (g.B.Blocks.total below) (g.B.Blocks.blocks below) c.requires.sound).1

pub add_file_thread-requires-clause-root : goal.add_file_thread-requires-clause-root
add_file_thread-requires-clause-root g c =
    let below = c.args.volume.now.blocks.now in
    root_open (g.B.Blocks.blocks below) _ c.open_catalog-nodes.ensures.nodes (g.B.Blocks.total below) c.requires.sound

pub add_file_thread-requires-clause-there : goal.add_file_thread-requires-clause-there
add_file_thread-requires-clause-there g c =
    let below = c.args.volume.now.blocks.now in
    body_open (g.B.Blocks.blocks below) _ c.open_catalog-nodes.ensures.nodes (IsBody is_file) c.args.key.now
    (file_under (g.B.Blocks.total below) (g.B.Blocks.blocks below) c.requires.sound _ c.args.key.now c.args.file.now c.requires.chosen.chosen choice_stands)

pub add_file_thread-requires-clause-absent : goal.add_file_thread-requires-clause-absent
add_file_thread-requires-clause-absent g c =
    let below = c.args.volume.now.blocks.now in
    absent_open (g.B.Blocks.blocks below) _ c.open_catalog-nodes.ensures.nodes (g.B.Blocks.total below) c.requires.sound c.args.file.now.id c.requires.threadless.unthreaded

pub add_file_thread-requires-clause-inside : goal.add_file_thread-requires-clause-inside
add_file_thread-requires-clause-inside g c =
    let below = c.args.volume.now.blocks.now in
    inside_open (g.B.Blocks.blocks below) _ c.open_catalog-nodes.ensures.nodes c.requires.inside

pub returns-clause-makes : goal.returns-clause-makes
returns-clause-makes g c =
    let below = c.args.volume.now.blocks.now in
    if_ok c.close_catalog.result _ _
    (λ patch is. create_made (g.B.Blocks.total below) c.args.now (g.B.Blocks.blocks below) (over (changes patch) (g.B.Blocks.blocks below)) c.requires.sound c.args.volume.now.mdb.now c.at_time.result
    c.requires.mdb c.at_time.ensures c.args.key.now c.args.file.now _ _ c.open_catalog-nodes.ensures.nodes is create_file_id_makes c.in_ok-add_file_thread.ensures.came)
    c.close_catalog.ensures.catalog
