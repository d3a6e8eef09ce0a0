-- The catalog is opened, takes the folder, and is closed with the counts.
use Rattle.std.proofs.Common.{sym, subst}
use Rattle.hfs_btree.specs.Tree.{Store}
use Rattle.hfs_btree_edits.specs.Entries.{IsPlaceOf}
use Rattle.hfs_catalog.specs.Tree.{IsCatalogTree, cat_keys}
use Rattle.hfs_call_patches.specs.NewItems.{TakesFolder}
use Rattle.hfs_call_patches.proofs.Creations.{folder_in, fits, short, takes_folder, folder_keys, folder_change}
use Rattle.hfs_record_edits.proofs.LawsProved.{creation_fits, creation_is_free-folder, creation_is_free-key, creation_is_free-thread, catalog_edits_are_steps, dir_create_makes}
use Rattle.hfs_check.proofs.LawsProved.{trees_are_sound}
use Rattle.hfs_call_patches.proofs.creating.add_new_folder.Goals as goal

pub with_folder-counts-requires-clause-next_id : goal.with_folder-counts-requires-clause-next_id
with_folder-counts-requires-clause-next_id g c =
    (fits (g.B.Blocks.total c.args.volume.now.blocks.now) c.args.dir (g.B.Blocks.blocks c.args.volume.now.blocks.now) c.args.volume.now.catalog.now c.args.volume.now.mdb.now c.args.found.now.place c.requires.ready creation_fits).next_id

pub with_folder-counts-requires-clause-folders : goal.with_folder-counts-requires-clause-folders
with_folder-counts-requires-clause-folders g c =
    (fits (g.B.Blocks.total c.args.volume.now.blocks.now) c.args.dir (g.B.Blocks.blocks c.args.volume.now.blocks.now) c.args.volume.now.catalog.now c.args.volume.now.mdb.now c.args.found.now.place c.requires.ready creation_fits).folders

pub with_folder-counts-requires-clause-root : goal.with_folder-counts-requires-clause-root
with_folder-counts-requires-clause-root g c =
    (fits (g.B.Blocks.total c.args.volume.now.blocks.now) c.args.dir (g.B.Blocks.blocks c.args.volume.now.blocks.now) c.args.volume.now.catalog.now c.args.volume.now.mdb.now c.args.found.now.place c.requires.ready creation_fits).root_folders

pub put_folder-requires-clause-tree : goal.put_folder-requires-clause-tree
put_folder-requires-clause-tree g c =
    subst IsCatalogTree (sym c.open_catalog-nodes.ensures.nodes)
    (trees_are_sound (g.B.Blocks.total c.args.volume.now.blocks.now) (g.B.Blocks.blocks c.args.volume.now.blocks.now) c.requires.ready.sound).1

pub put_folder-requires-clause-place : goal.put_folder-requires-clause-place
put_folder-requires-clause-place g c =
    subst (TakesFolder c.args.volume.now.mdb.now.next_id c.args.dir c.args.found.now.place) (sym c.open_catalog-nodes.ensures.nodes)
    (takes_folder (g.B.Blocks.total c.args.volume.now.blocks.now) c.args.dir (g.B.Blocks.blocks c.args.volume.now.blocks.now) c.args.volume.now.catalog.now c.args.volume.now.mdb.now c.args.found.now.place c.requires.ready
    creation_is_free-folder creation_is_free-key creation_is_free-thread)

pub put_folder-requires-clause-at : goal.put_folder-requires-clause-at
put_folder-requires-clause-at g c =
    subst (λ (nodes : Store). IsPlaceOf cat_keys nodes c.args.found.now.place.folder c.args.found.now.folder_at) (sym c.open_catalog-nodes.ensures.nodes) c.requires.at

pub put_folder-requires-clause-short : goal.put_folder-requires-clause-short
put_folder-requires-clause-short g c =
    short (g.B.Blocks.total c.args.volume.now.blocks.now) c.args.dir (g.B.Blocks.blocks c.args.volume.now.blocks.now) c.args.volume.now.catalog.now c.args.volume.now.mdb.now c.args.found.now.place c.requires.ready creation_fits

pub close_catalog-requires-clause-keeps : goal.close_catalog-requires-clause-keeps
close_catalog-requires-clause-keeps g c =
    folder_keys (g.B.Blocks.total c.args.volume.now.blocks.now) c.args.dir (g.B.Blocks.blocks c.args.volume.now.blocks.now) c.args.volume.now.catalog.now c.args.volume.now.mdb.now c.args.found.now.place c.requires.ready c.args.now _
    (folder_in c.open_catalog-nodes.ensures.nodes c.in_ok-put_folder.ensures.put)

pub returns : goal.returns
returns g c =
    folder_change (g.B.Blocks.total c.args.volume.now.blocks.now) c.args.dir (g.B.Blocks.blocks c.args.volume.now.blocks.now) c.args.volume.now.catalog.now c.args.volume.now.mdb.now c.args.found.now.place c.requires.ready
    catalog_edits_are_steps c.args.now c.with_folder-counts.result _ c.in_ok-patch.patch c.in_ok-patch.ensures.within dir_create_makes c.with_folder-counts.ensures
    (folder_in c.open_catalog-nodes.ensures.nodes c.in_ok-put_folder.ensures.put)
    c.in_ok-patch.ensures.catalog
