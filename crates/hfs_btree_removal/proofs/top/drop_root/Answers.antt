use Rattle.std.proofs.Common.{◌<◌, length, arith}
use Rattle.hfs_fields.proofs.OutcomeLemmas.{on_ok}
use Rattle.hfs_btree.proofs.DescentLemmas.{root-way, way-within}
use Rattle.hfs_btree.proofs.DecodedLemmas.{decoded-within}
use Rattle.hfs_btree_removal.proofs.HeadPut.{still-within}
use Rattle.hfs_btree_removal.proofs.HeadPut.{dropped-sound, dropped-stray, dropped-keeps, dropped-gains, dropped-content, dropped-depth, dropped-free}
use Rattle.hfs_btree_removal.proofs.top.drop_root.Goals as goal

pub put_header-requires-clause-within : goal.put_header-requires-clause-within
put_header-requires-clause-within g c = let h = c.requires.sound.structure.header in decoded-within (g.S.Nodes.nodes c.args.nodes.now) 0 h.value h.decodes

pub put_header-requires-clause-long : goal.put_header-requires-clause-long
put_header-requires-clause-long g c = let long = c.requires.sound.structure.header.long in omega arith

pub release-requires-clause-sound : goal.release-requires-clause-sound
release-requires-clause-sound g c =
    dropped-sound g.K.Key (g.S.Nodes.nodes c.args.nodes.now) (g.S.Nodes.nodes c.put_header.new.nodes) c.requires.sound c.requires.one c.args.header.now c.requires.header c.in_ok-put_header.ensures.put

pub release-requires-clause-stray : goal.release-requires-clause-stray
release-requires-clause-stray g c =
    dropped-stray g.K.Key (g.S.Nodes.nodes c.args.nodes.now) (g.S.Nodes.nodes c.put_header.new.nodes) c.requires.sound c.requires.one c.args.header.now c.requires.header c.in_ok-put_header.ensures.put

pub returns-clause-keeps : goal.returns-clause-keeps
returns-clause-keeps g c =
    on_ok c.release.result _ _
    (dropped-keeps g.K.Key (g.S.Nodes.nodes c.args.nodes.now) (g.S.Nodes.nodes c.put_header.new.nodes) c.requires.sound c.requires.one c.args.header.now c.requires.header c.in_ok-put_header.ensures.put (g.S.Nodes.nodes c.release.new.nodes))
    c.release.ensures.released

pub returns-clause-gains : goal.returns-clause-gains
returns-clause-gains g c =
    on_ok c.release.result _ _
    (dropped-gains g.K.Key (g.S.Nodes.nodes c.args.nodes.now) (g.S.Nodes.nodes c.put_header.new.nodes) c.requires.sound c.requires.one c.args.header.now c.requires.header c.in_ok-put_header.ensures.put (g.S.Nodes.nodes c.release.new.nodes))
    c.release.ensures.released

pub returns-clause-empty : goal.returns-clause-empty
returns-clause-empty g c =
    on_ok c.release.result _ _
    (dropped-content g.K.Key (g.S.Nodes.nodes c.args.nodes.now) (g.S.Nodes.nodes c.put_header.new.nodes) c.requires.sound c.requires.one c.args.header.now c.requires.header c.in_ok-put_header.ensures.put (g.S.Nodes.nodes c.release.new.nodes))
    c.release.ensures.released

pub returns-clause-depth : goal.returns-clause-depth
returns-clause-depth g c =
    on_ok c.release.result _ _
    (dropped-depth g.K.Key (g.S.Nodes.nodes c.args.nodes.now) (g.S.Nodes.nodes c.put_header.new.nodes) c.requires.sound c.requires.one c.args.header.now c.requires.header c.in_ok-put_header.ensures.put (g.S.Nodes.nodes c.release.new.nodes))
    c.release.ensures.released

pub returns-clause-free : goal.returns-clause-free
returns-clause-free g c =
    on_ok c.release.result _ _
    (dropped-free g.K.Key (g.S.Nodes.nodes c.args.nodes.now) (g.S.Nodes.nodes c.put_header.new.nodes) c.requires.sound c.requires.one c.args.header.now c.requires.header c.in_ok-put_header.ensures.put (g.S.Nodes.nodes c.release.new.nodes))
    c.release.ensures.released

pub release-requires-clause-within : goal.release-requires-clause-within
release-requires-clause-within g c =
    let nodes = g.S.Nodes.nodes c.args.nodes.now in
    let deep = c.requires.one in
    let within : c.args.header.now.root < length nodes = rw c.requires.header (way-within g.K.Key nodes _ _ (root-way g.K.Key nodes c.requires.sound.structure (omega arith))) in
    still-within _ nodes (g.S.Nodes.nodes c.put_header.new.nodes) c.args.header.now.root c.in_ok-put_header.ensures.put within
