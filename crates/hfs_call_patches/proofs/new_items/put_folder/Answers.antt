-- The folder's new valence left what the new folder's records ask for as it was.
use Rattle.std.proofs.Common.{◌≡◌, ℕ, ◌≤◌, None, sym, subst}
use Rattle.hfs_fields.specs.Keys.{cat_cmp}
use Rattle.hfs_btree.specs.Pairs.{lookup}
use Rattle.hfs_catalog.specs.Lookups.{first_key}
use Rattle.hfs_catalog.specs.Tree.{catalog_of}
use Rattle.hfs_call_patches.proofs.PutItems.{folder_there, valence_done, root_then, absent_then, in_file_then, room_for_two_then, own_id, folder_put}
use Rattle.hfs_call_patches.proofs.new_items.put_folder.Goals as goal

pub set_valence_at-requires-clause-there : goal.set_valence_at-requires-clause-there
set_valence_at-requires-clause-there g c =
    let place = c.requires.place.item in
    folder_there (g.N.Nodes.nodes c.args.nodes.now) c.requires.tree c.args.found.now.place.folder place.of place.own.there place.own.own_key place.own.folder

pub add_dir-requires-clause-tree : goal.add_dir-requires-clause-tree
add_dir-requires-clause-tree g c =
    let place = c.requires.place.item in
    (valence_done c.args.found.now.place c.args.now (g.N.Nodes.nodes c.args.nodes.now) (g.N.Nodes.nodes c.set_valence_at.new.nodes) place.of c.requires.tree place.own c.in_ok-set_valence_at.ensures.set).set.keeps.sound

pub add_dir-requires-clause-root : goal.add_dir-requires-clause-root
add_dir-requires-clause-root g c =
    let place = c.requires.place.item in
    root_then c.args.found.now.place c.args.now (g.N.Nodes.nodes c.args.nodes.now) (g.N.Nodes.nodes c.set_valence_at.new.nodes) place.of c.requires.tree place.own c.in_ok-set_valence_at.ensures.set place.root

pub add_dir-requires-clause-absent : goal.add_dir-requires-clause-absent
add_dir-requires-clause-absent g c =
    let place = c.requires.place.item in
    absent_then c.args.found.now.place c.args.now (g.N.Nodes.nodes c.args.nodes.now) (g.N.Nodes.nodes c.set_valence_at.new.nodes) place.of c.requires.tree place.own c.in_ok-set_valence_at.ensures.set _ place.absent

pub add_dir-requires-clause-inside : goal.add_dir-requires-clause-inside
add_dir-requires-clause-inside g c =
    let place = c.requires.place.item in
    in_file_then c.args.found.now.place c.args.now (g.N.Nodes.nodes c.args.nodes.now) (g.N.Nodes.nodes c.set_valence_at.new.nodes) place.of c.requires.tree place.own c.in_ok-set_valence_at.ensures.set place.inside

pub add_dir-requires-clause-room : goal.add_dir-requires-clause-room
add_dir-requires-clause-room g c =
    let place = c.requires.place.item in
    room_for_two_then c.args.found.now.place c.args.now (g.N.Nodes.nodes c.args.nodes.now) (g.N.Nodes.nodes c.set_valence_at.new.nodes) place.of c.requires.tree place.own c.in_ok-set_valence_at.ensures.set c.requires.room

pub add_dir-requires-clause-id : goal.add_dir-requires-clause-id
add_dir-requires-clause-id g c = subst (λ (id : ℕ). 2 ≤ id) (sym (own_id c.args.id c.args.now c.new-folder.result c.new-folder.ensures)) c.requires.place.some_id

pub add_dir-requires-clause-threadless : goal.add_dir-requires-clause-threadless
add_dir-requires-clause-threadless g c =
    let place = c.requires.place.item in
    subst (λ (id : ℕ). lookup cat_cmp (first_key id) (catalog_of (g.N.Nodes.nodes c.set_valence_at.new.nodes)) ≡ None)
    (sym (own_id c.args.id c.args.now c.new-folder.result c.new-folder.ensures))
    (absent_then c.args.found.now.place c.args.now (g.N.Nodes.nodes c.args.nodes.now) (g.N.Nodes.nodes c.set_valence_at.new.nodes) place.of c.requires.tree place.own c.in_ok-set_valence_at.ensures.set (first_key c.args.id) c.requires.place.threadless)

pub returns-clause-put : goal.returns-clause-put
returns-clause-put g c =
    λ r own. folder_put c.args.found.now.place c.args.now (g.N.Nodes.nodes c.args.nodes.now) (g.N.Nodes.nodes c.set_valence_at.new.nodes) r c.requires.tree own c.in_ok-set_valence_at.ensures.set
    c.args.id c.args.dir c.new-folder.result (g.N.Nodes.nodes c.add_dir.new.nodes) c.new-folder.ensures c.in_ok-add_dir.ensures.came
