-- The folder's new valence left what the file's record asks for as it was.
use Rattle.hfs_call_patches.proofs.PutItems.{folder_there, valence_done, root_then, absent_then, in_file_then, room_then, file_put}
use Rattle.hfs_call_patches.proofs.new_items.put_file.Goals as goal

pub set_valence_at-requires-clause-there : goal.set_valence_at-requires-clause-there
set_valence_at-requires-clause-there g c =
    let place = c.requires.place in
    folder_there (g.N.Nodes.nodes c.args.nodes.now) c.requires.tree c.args.found.now.place.folder place.of place.own.there place.own.own_key place.own.folder

pub add_file-requires-clause-tree : goal.add_file-requires-clause-tree
add_file-requires-clause-tree g c =
    let place = c.requires.place in
    (valence_done c.args.found.now.place c.args.now (g.N.Nodes.nodes c.args.nodes.now) (g.N.Nodes.nodes c.set_valence_at.new.nodes) place.of c.requires.tree place.own c.in_ok-set_valence_at.ensures.set).set.keeps.sound

pub add_file-requires-clause-root : goal.add_file-requires-clause-root
add_file-requires-clause-root g c =
    let place = c.requires.place in
    root_then c.args.found.now.place c.args.now (g.N.Nodes.nodes c.args.nodes.now) (g.N.Nodes.nodes c.set_valence_at.new.nodes) place.of c.requires.tree place.own c.in_ok-set_valence_at.ensures.set place.root

pub add_file-requires-clause-absent : goal.add_file-requires-clause-absent
add_file-requires-clause-absent g c =
    let place = c.requires.place in
    absent_then c.args.found.now.place c.args.now (g.N.Nodes.nodes c.args.nodes.now) (g.N.Nodes.nodes c.set_valence_at.new.nodes) place.of c.requires.tree place.own c.in_ok-set_valence_at.ensures.set _ place.absent

pub add_file-requires-clause-inside : goal.add_file-requires-clause-inside
add_file-requires-clause-inside g c =
    let place = c.requires.place in
    in_file_then c.args.found.now.place c.args.now (g.N.Nodes.nodes c.args.nodes.now) (g.N.Nodes.nodes c.set_valence_at.new.nodes) place.of c.requires.tree place.own c.in_ok-set_valence_at.ensures.set place.inside

pub add_file-requires-clause-room : goal.add_file-requires-clause-room
add_file-requires-clause-room g c =
    let place = c.requires.place in
    room_then c.args.found.now.place c.args.now (g.N.Nodes.nodes c.args.nodes.now) (g.N.Nodes.nodes c.set_valence_at.new.nodes) place.of c.requires.tree place.own c.in_ok-set_valence_at.ensures.set c.requires.room

pub returns-clause-put : goal.returns-clause-put
returns-clause-put g c =
    λ r own. file_put c.args.found.now.place c.args.now (g.N.Nodes.nodes c.args.nodes.now) (g.N.Nodes.nodes c.set_valence_at.new.nodes) r c.requires.tree own c.in_ok-set_valence_at.ensures.set
    c.args.id c.args.dir c.new-file.result (g.N.Nodes.nodes c.add_file.new.nodes) c.new-file.ensures c.in_ok-add_file.ensures.came c.in_ok-add_file.ensures.value
