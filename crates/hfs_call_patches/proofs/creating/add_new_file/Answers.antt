-- The catalog is opened, takes the file, and is closed with the counts.
use Rattle.std.proofs.Common.{sym, subst}
use Rattle.hfs_btree.specs.Tree.{Store}
use Rattle.hfs_btree_edits.specs.Entries.{IsPlaceOf}
use Rattle.hfs_catalog.specs.Tree.{IsCatalogTree, cat_keys}
use Rattle.hfs_call_patches.specs.NewItems.{TakesItem}
use Rattle.hfs_call_patches.proofs.Creations.{file_in, fits, short, takes_item, file_keys, file_change}
use Rattle.hfs_record_edits.proofs.LawsProved.{creation_fits, creation_is_free-folder, creation_is_free-key, catalog_edits_are_steps, create_makes}
use Rattle.hfs_check.proofs.LawsProved.{trees_are_sound}
use Rattle.hfs_call_patches.proofs.creating.add_new_file.Goals as goal

pub with_file-counts-requires-clause-next_id : goal.with_file-counts-requires-clause-next_id
with_file-counts-requires-clause-next_id g c =
    (fits (g.B.Blocks.total c.args.volume.now.blocks.now) c.args.dir (g.B.Blocks.blocks c.args.volume.now.blocks.now) c.args.volume.now.catalog.now c.args.volume.now.mdb.now c.args.found.now.place c.requires.ready creation_fits).next_id

pub with_file-counts-requires-clause-files : goal.with_file-counts-requires-clause-files
with_file-counts-requires-clause-files g c =
    (fits (g.B.Blocks.total c.args.volume.now.blocks.now) c.args.dir (g.B.Blocks.blocks c.args.volume.now.blocks.now) c.args.volume.now.catalog.now c.args.volume.now.mdb.now c.args.found.now.place c.requires.ready creation_fits).files

pub with_file-counts-requires-clause-root : goal.with_file-counts-requires-clause-root
with_file-counts-requires-clause-root g c =
    (fits (g.B.Blocks.total c.args.volume.now.blocks.now) c.args.dir (g.B.Blocks.blocks c.args.volume.now.blocks.now) c.args.volume.now.catalog.now c.args.volume.now.mdb.now c.args.found.now.place c.requires.ready creation_fits).root_files

pub put_file-requires-clause-tree : goal.put_file-requires-clause-tree
put_file-requires-clause-tree g c =
    subst IsCatalogTree (sym c.open_catalog-nodes.ensures.nodes)
    (trees_are_sound (g.B.Blocks.total c.args.volume.now.blocks.now) (g.B.Blocks.blocks c.args.volume.now.blocks.now) c.requires.ready.sound).1

pub put_file-requires-clause-place : goal.put_file-requires-clause-place
put_file-requires-clause-place g c =
    subst (TakesItem c.args.dir c.args.found.now.place) (sym c.open_catalog-nodes.ensures.nodes)
    (takes_item (g.B.Blocks.total c.args.volume.now.blocks.now) c.args.dir (g.B.Blocks.blocks c.args.volume.now.blocks.now) c.args.volume.now.catalog.now c.args.volume.now.mdb.now c.args.found.now.place c.requires.ready
    creation_is_free-folder creation_is_free-key)

pub put_file-requires-clause-at : goal.put_file-requires-clause-at
put_file-requires-clause-at g c =
    subst (λ (nodes : Store). IsPlaceOf cat_keys nodes c.args.found.now.place.folder c.args.found.now.folder_at) (sym c.open_catalog-nodes.ensures.nodes) c.requires.at

pub put_file-requires-clause-short : goal.put_file-requires-clause-short
put_file-requires-clause-short g c =
    short (g.B.Blocks.total c.args.volume.now.blocks.now) c.args.dir (g.B.Blocks.blocks c.args.volume.now.blocks.now) c.args.volume.now.catalog.now c.args.volume.now.mdb.now c.args.found.now.place c.requires.ready creation_fits

pub close_catalog-requires-clause-keeps : goal.close_catalog-requires-clause-keeps
close_catalog-requires-clause-keeps g c =
    file_keys (g.B.Blocks.total c.args.volume.now.blocks.now) c.args.dir (g.B.Blocks.blocks c.args.volume.now.blocks.now) c.args.volume.now.catalog.now c.args.volume.now.mdb.now c.args.found.now.place c.requires.ready c.args.now _
    (file_in c.open_catalog-nodes.ensures.nodes c.in_ok-put_file.ensures.put)

pub returns : goal.returns
returns g c =
    file_change (g.B.Blocks.total c.args.volume.now.blocks.now) c.args.dir (g.B.Blocks.blocks c.args.volume.now.blocks.now) c.args.volume.now.catalog.now c.args.volume.now.mdb.now c.args.found.now.place c.requires.ready
    catalog_edits_are_steps c.args.now c.with_file-counts.result _ c.in_ok-patch.patch c.in_ok-patch.ensures.within create_makes c.with_file-counts.ensures
    (file_in c.open_catalog-nodes.ensures.nodes c.in_ok-put_file.ensures.put)
    c.in_ok-patch.ensures.catalog
