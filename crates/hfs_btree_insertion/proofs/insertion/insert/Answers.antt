use Rattle.std.proofs.Common.{◌≡◌, ◌++◌, ◌≤◌, ℕ, List, ap, arith, subst, length}
use Rattle.hfs_btree_edits.proofs.StoreLemmas.{on-ok}
use Rattle.hfs_btree_insertion.specs.Begun.{HasLeafBegun}
use Rattle.hfs_btree_insertion.specs.Stored.{HasPut}
use Rattle.hfs_btree_insertion.proofs.MadeRoom.{low-whole}
use Rattle.hfs_btree_insertion.proofs.Inserted.{lower-low, room-few, has-inserted, begun-above, begun-free, begun-file, begun-few, begun-absent, has-begun}
use Rattle.hfs_btree_insertion.proofs.LowLeaves.{low-lowered, low-way, roomy-made, room-read}
use Rattle.hfs_btree_insertion.proofs.insertion.insert.Goals as goal

pub put_in_leaf-requires-clause-room : goal.put_in_leaf-requires-clause-room
put_in_leaf-requires-clause-room g c =
    let fits = c.if-size_in-len-le496.true in
    let size = c.size_in.ensures.size in
    let long = c.len-len.ensures in
    let room = room-read g.K.Key (g.S.Nodes.nodes c.args.nodes.now) c.args.key.now c.len-len.result c.in-Some.n c.low_leaf-low.new.bytes c.in-Some.ensures.bytes (omega (arith, fits, size)) in
    omega (arith, room, long, c.in_ok-entry.entry.ok.0)

pub put_in_leaf-requires-clause-few : goal.put_in_leaf-requires-clause-few
put_in_leaf-requires-clause-few g c =
    let key = c.args.key.now in
    let old = g.S.Nodes.nodes c.args.nodes.now in
    let low = c.in-Some.ensures.low in
    let fits = c.if-size_in-len-le496.true in
    let size = c.size_in.ensures.size in
    let room = room-read g.K.Key old key c.len-len.result c.in-Some.n c.low_leaf-low.new.bytes c.in-Some.ensures.bytes (omega (arith, fits, size)) in
    let short : c.len-len.result ≤ 140 = (let leaf = g.met.K.Key.leaf_small c.in_ok-entry.entry.items c.in_ok-entry.ensures.leaf in omega (arith, c.len-len.ensures, c.in_ok-entry.entry.ok.0, leaf)) in
    room-few g.K.Key key old old c.requires.sound c.requires.above (low-lowered g.K.Key old key c.requires.sound c.in-Some.n low) c.len-len.result old
    (roomy-made g.K.Key old key c.requires.sound c.in-Some.n low c.requires.above c.len-len.result room g.met.K.Key.total short) c.requires.small

pub put_in_leaf-requires-clause-low : goal.put_in_leaf-requires-clause-low
put_in_leaf-requires-clause-low g c =
    low-way g.K.Key (g.S.Nodes.nodes c.args.nodes.now) c.args.key.now c.requires.sound c.in-Some.n c.in-Some.ensures.low c.requires.above

pub returns-then-size_in-len-le496-clause-inserted : goal.returns-then-size_in-len-le496-clause-inserted
returns-then-size_in-len-le496-clause-inserted g c =
    let key = c.args.key.now in
    let old = g.S.Nodes.nodes c.args.nodes.now in
    let new = g.S.Nodes.nodes c.put_in_leaf.new.nodes in
    let low = c.in-Some.ensures.low in
    let fits = c.if-size_in-len-le496.true in
    let size = c.size_in.ensures.size in
    let room = room-read g.K.Key old key c.len-len.result c.in-Some.n c.low_leaf-low.new.bytes c.in-Some.ensures.bytes (omega (arith, fits, size)) in
    let short : c.len-len.result ≤ 140 = (let leaf = g.met.K.Key.leaf_small c.in_ok-entry.entry.items c.in_ok-entry.ensures.leaf in omega (arith, c.len-len.ensures, c.in_ok-entry.entry.ok.0, leaf)) in
    let P : List ℕ → Type 0 = λ body. HasPut g.K.Key key body old new in
    let written = ap (λ (xs : List ℕ). length xs) c.in_ok-entry.ensures.written in
    let long : c.len-len.result ≡ length (g.K.Key.leaf_head key ++ c.args.body.now) = omega (arith, c.len-len.ensures, c.in_ok-entry.entry.ok.0, written) in
    on-ok _ _ c.put_in_leaf.result
    (λ h. has-inserted g.K.Key key old old c.requires.sound c.requires.above (low-lowered g.K.Key old key c.requires.sound c.in-Some.n low) c.len-len.result old
    (roomy-made g.K.Key old key c.requires.sound c.in-Some.n low c.requires.above c.len-len.result room g.met.K.Key.total short) c.args.body.now new (subst P c.in_ok-entry.ensures.body h) long)
    c.put_in_leaf.ensures.put

pub make_room-requires-2-clause-low : goal.make_room-requires-2-clause-low
make_room-requires-2-clause-low g c =
    lower-low g.K.Key c.args.key.now (g.S.Nodes.nodes c.args.nodes.now) (g.S.Nodes.nodes c.lower_way.new.nodes) c.requires.sound c.requires.above c.in_ok-last.ensures.lowered

pub put_entry-requires-clause-few : goal.put_entry-requires-clause-few
put_entry-requires-clause-few g c =
    room-few g.K.Key c.args.key.now (g.S.Nodes.nodes c.args.nodes.now) (g.S.Nodes.nodes c.lower_way.new.nodes) c.requires.sound c.requires.above c.in_ok-last.ensures.lowered c.len-len.result
    (g.S.Nodes.nodes c.make_room-2.new.nodes) c.in_ok-make_room-2.ensures.room c.requires.small

pub put_entry-requires-clause-low : goal.put_entry-requires-clause-low
put_entry-requires-clause-low g c = low-whole g.K.Key (g.S.Nodes.nodes c.make_room-2.new.nodes) c.args.key.now c.in_ok-make_room-2.ensures.room.low

pub returns-clause-inserted : goal.returns-clause-inserted
returns-clause-inserted g c =
    let old = g.S.Nodes.nodes c.args.nodes.now in
    let a = g.S.Nodes.nodes c.lower_way.new.nodes in
    let b = g.S.Nodes.nodes c.make_room-2.new.nodes in
    let new = g.S.Nodes.nodes c.put_entry.new.nodes in
    let P : List ℕ → Type 0 = λ body. HasPut g.K.Key c.args.key.now body b new in
    let written = ap (λ (xs : List ℕ). length xs) c.in_ok-entry.ensures.written in
    let long : c.len-len.result ≡ length (g.K.Key.leaf_head c.args.key.now ++ c.args.body.now) = omega (arith, c.len-len.ensures, c.in_ok-entry.entry.ok.0, written) in
    on-ok _ _ c.put_entry.result
    (λ h. has-inserted g.K.Key c.args.key.now old a c.requires.sound c.requires.above c.in_ok-last.ensures.lowered c.len-len.result b c.in_ok-make_room-2.ensures.room c.args.body.now new
    (subst P c.in_ok-entry.ensures.body h) long)
    c.put_entry.ensures.put

pub make_room-requires-clause-low : goal.make_room-requires-clause-low
make_room-requires-clause-low g c =
    lower-low g.K.Key c.args.key.now (g.S.Nodes.nodes c.args.nodes.now) (g.S.Nodes.nodes c.lower_way.new.nodes) c.requires.sound c.requires.above c.in_ok-last.ensures.lowered

pub make_room-requires-clause-over : goal.make_room-requires-clause-over
make_room-requires-clause-over g c = λ _. (c.in_ok-last.ensures.last c.if-last.true).full

pub begin_leaf-requires-clause-behind : goal.begin_leaf-requires-clause-behind
begin_leaf-requires-clause-behind g c =
    let behind = c.in_ok-last.ensures.last c.if-last.true in
    begun-above g.K.Key c.args.key.now (g.S.Nodes.nodes c.args.nodes.now) (g.S.Nodes.nodes c.lower_way.new.nodes) c.requires.sound c.requires.above c.in_ok-last.ensures.lowered c.len-len.result
    (g.S.Nodes.nodes c.make_room.new.nodes) c.in_ok-make_room.ensures.room behind.full behind.above

pub begin_leaf-requires-clause-free : goal.begin_leaf-requires-clause-free
begin_leaf-requires-clause-free g c =
    let behind = c.in_ok-last.ensures.last c.if-last.true in
    begun-free g.K.Key c.args.key.now (g.S.Nodes.nodes c.args.nodes.now) (g.S.Nodes.nodes c.lower_way.new.nodes) c.requires.sound c.requires.above c.in_ok-last.ensures.lowered c.len-len.result
    (g.S.Nodes.nodes c.make_room.new.nodes) c.in_ok-make_room.ensures.room behind.full c.requires.free

pub begin_leaf-requires-clause-few : goal.begin_leaf-requires-clause-few
begin_leaf-requires-clause-few g c =
    let behind = c.in_ok-last.ensures.last c.if-last.true in
    begun-few g.K.Key c.args.key.now (g.S.Nodes.nodes c.args.nodes.now) (g.S.Nodes.nodes c.lower_way.new.nodes) c.requires.sound c.requires.above c.in_ok-last.ensures.lowered c.len-len.result
    (g.S.Nodes.nodes c.make_room.new.nodes) c.in_ok-make_room.ensures.room behind.full c.requires.small

pub begin_leaf-requires-clause-absent : goal.begin_leaf-requires-clause-absent
begin_leaf-requires-clause-absent g c =
    let behind = c.in_ok-last.ensures.last c.if-last.true in
    begun-absent g.K.Key c.args.key.now (g.S.Nodes.nodes c.args.nodes.now) (g.S.Nodes.nodes c.lower_way.new.nodes) c.requires.sound c.requires.above c.in_ok-last.ensures.lowered c.len-len.result
    (g.S.Nodes.nodes c.make_room.new.nodes) c.in_ok-make_room.ensures.room behind.full c.requires.absent

pub begin_leaf-requires-clause-sound : goal.begin_leaf-requires-clause-sound
begin_leaf-requires-clause-sound g c = c.in_ok-make_room.ensures.room.keeps.sound

pub begin_leaf-requires-clause-low : goal.begin_leaf-requires-clause-low
begin_leaf-requires-clause-low g c = c.in_ok-make_room.ensures.room.low

pub begin_leaf-requires-clause-deep : goal.begin_leaf-requires-clause-deep
begin_leaf-requires-clause-deep g c = c.in_ok-make_room.ensures.room.deep

pub begin_leaf-requires-clause-file : goal.begin_leaf-requires-clause-file
begin_leaf-requires-clause-file g c =
    let behind = c.in_ok-last.ensures.last c.if-last.true in
    begun-file g.K.Key c.args.key.now (g.S.Nodes.nodes c.args.nodes.now) (g.S.Nodes.nodes c.lower_way.new.nodes) c.requires.sound c.requires.above c.in_ok-last.ensures.lowered c.len-len.result
    (g.S.Nodes.nodes c.make_room.new.nodes) c.in_ok-make_room.ensures.room behind.full c.requires.file

pub make_room-requires-2-clause-over : goal.make_room-requires-2-clause-over
make_room-requires-2-clause-over g c = λ lt. absurd (omega (arith, lt))

pub begin_leaf-requires-clause-room : goal.begin_leaf-requires-clause-room
begin_leaf-requires-clause-room g c = c.in_ok-make_room.ensures.room.room

pub returns-then-last-clause-inserted : goal.returns-then-last-clause-inserted
returns-then-last-clause-inserted g c =
    let behind = c.in_ok-last.ensures.last c.if-last.true in
    let old = g.S.Nodes.nodes c.args.nodes.now in
    let a = g.S.Nodes.nodes c.lower_way.new.nodes in
    let b = g.S.Nodes.nodes c.make_room.new.nodes in
    let new = g.S.Nodes.nodes c.begin_leaf.new.nodes in
    let P : List ℕ → Type 0 = λ body. HasLeafBegun g.K.Key c.args.key.now body b new in
    let written = ap (λ (xs : List ℕ). length xs) c.in_ok-entry.ensures.written in
    let long : c.len-len.result ≡ length (g.K.Key.leaf_head c.args.key.now ++ c.args.body.now) = omega (arith, c.len-len.ensures, c.in_ok-entry.entry.ok.0, written) in
    on-ok _ _ c.begin_leaf.result
    (λ h. has-begun g.K.Key c.args.key.now old a c.requires.sound c.requires.above c.in_ok-last.ensures.lowered c.len-len.result b c.in_ok-make_room.ensures.room behind.full c.args.body.now new
    (subst P c.in_ok-entry.ensures.body h) long)
    c.begin_leaf.ensures.begun
