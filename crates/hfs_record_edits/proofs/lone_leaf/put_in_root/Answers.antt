use Rattle.std.proofs.Common.{refl, length}
use Rattle.hfs_btree_edits.proofs.StoreLemmas.{on-ok}
use Rattle.hfs_btree_insertion.proofs.PutWhole.{record-put, fits-insert, place-as}
use Rattle.hfs_record_edits.proofs.RootPut.{root-within, root-decodes, root-entries, root-place, root-room, root-long, root-put}
use Rattle.hfs_record_edits.proofs.lone_leaf.put_in_root.Goals as goal

pub read-requires : goal.read-requires
read-requires g c = root-within g.K.Key g.met.K.Key.total c.args.key.now (g.S.Nodes.nodes c.args.nodes.now) c.requires.sound c.requires.one c.args.header.now c.requires.header

pub place_in-place-requires : goal.place_in-place-requires
place_in-place-requires g c = root-entries g.K.Key g.met.K.Key.total c.args.key.now (g.S.Nodes.nodes c.args.nodes.now) c.requires.sound c.requires.one c.args.header.now c.requires.header c.read.new.into c.read.ensures

pub viewed-leaf-requires-clause-decodes : goal.viewed-leaf-requires-clause-decodes
viewed-leaf-requires-clause-decodes g c = root-decodes g.K.Key g.met.K.Key.total c.args.key.now (g.S.Nodes.nodes c.args.nodes.now) c.requires.sound c.requires.one c.args.header.now c.requires.header

pub store_inserted-requires-clause-within : goal.store_inserted-requires-clause-within
store_inserted-requires-clause-within g c = root-within g.K.Key g.met.K.Key.total c.args.key.now (g.S.Nodes.nodes c.args.nodes.now) c.requires.sound c.requires.one c.args.header.now c.requires.header

pub store_inserted-requires-clause-place : goal.store_inserted-requires-clause-place
store_inserted-requires-clause-place g c =
    place-as (g.S.Nodes.nodes c.args.nodes.now) c.args.header.now.root c.place_in-place.result c.viewed-leaf.result c.viewed-leaf.ensures.node
    (root-place g.K.Key g.met.K.Key.total c.args.key.now (g.S.Nodes.nodes c.args.nodes.now) c.requires.sound c.requires.one c.args.header.now c.requires.header c.read.new.into c.read.ensures c.place_in-place.result
    c.place_in-place.ensures.within)

pub store_inserted-requires-clause-fits : goal.store_inserted-requires-clause-fits
store_inserted-requires-clause-fits g c =
    fits-insert (g.S.Nodes.nodes c.args.nodes.now) c.args.header.now.root c.place_in-place.result c.args.entry.items c.viewed-leaf.result _ c.viewed-leaf.ensures.node refl
    (root-room g.K.Key g.met.K.Key.total c.args.key.now (g.S.Nodes.nodes c.args.nodes.now) c.requires.sound c.requires.one c.args.header.now c.requires.header c.read.new.into c.read.ensures (length c.args.entry.items)
    c.requires.room)

pub put_header-requires-clause-within : goal.put_header-requires-clause-within
put_header-requires-clause-within g c =
    let nodes = g.S.Nodes.nodes c.args.nodes.now in
    (root-long g.K.Key g.met.K.Key.total c.args.key.now nodes c.requires.sound c.requires.one c.args.header.now c.requires.header c.read.new.into c.read.ensures c.place_in-place.result c.args.entry.items
    c.requires.leaf c.requires.keyed c.requires.absent c.place_in-place.ensures.within c.place_in-place.ensures.from (g.S.Nodes.nodes c.store_inserted.new.nodes)
    (record-put c.args.header.now.root c.place_in-place.result c.args.entry.items c.viewed-leaf.result _ _ _ c.viewed-leaf.ensures.node refl c.in_ok-store_inserted.ensures.stored)).0

pub put_header-requires-clause-long : goal.put_header-requires-clause-long
put_header-requires-clause-long g c =
    let nodes = g.S.Nodes.nodes c.args.nodes.now in
    (root-long g.K.Key g.met.K.Key.total c.args.key.now nodes c.requires.sound c.requires.one c.args.header.now c.requires.header c.read.new.into c.read.ensures c.place_in-place.result c.args.entry.items
    c.requires.leaf c.requires.keyed c.requires.absent c.place_in-place.ensures.within c.place_in-place.ensures.from (g.S.Nodes.nodes c.store_inserted.new.nodes)
    (record-put c.args.header.now.root c.place_in-place.result c.args.entry.items c.viewed-leaf.result _ _ _ c.viewed-leaf.ensures.node refl c.in_ok-store_inserted.ensures.stored)).1

pub returns-clause-put : goal.returns-clause-put
returns-clause-put g c =
    let nodes = g.S.Nodes.nodes c.args.nodes.now in
    on-ok _ _ c.put_header.result
    (λ put. root-put g.K.Key g.met.K.Key.total c.args.key.now nodes c.requires.sound c.requires.one c.args.header.now c.requires.header c.read.new.into c.read.ensures c.place_in-place.result c.args.entry.items
    c.requires.leaf c.requires.keyed c.requires.absent c.place_in-place.ensures.within c.place_in-place.ensures.from (g.S.Nodes.nodes c.store_inserted.new.nodes)
    (record-put c.args.header.now.root c.place_in-place.result c.args.entry.items c.viewed-leaf.result _ _ _ c.viewed-leaf.ensures.node refl c.in_ok-store_inserted.ensures.stored) _ _ refl put)
    c.put_header.ensures.put
