use Rattle.std.proofs.Common.{◌∙◌, ℕ, List, sym, ap, subst, arith, length}
use Rattle.hfs_btree.specs.declared.header.Header.{Header}
use Rattle.hfs_btree_edits.proofs.StoreLemmas.{on-ok}
use Rattle.hfs_btree_insertion.specs.Stored.{HasPut}
use Rattle.hfs_space.specs.TreeKeys.{ext_keys, overflow_of}
use Rattle.hfs_record_edits.specs.Adding.{IsLeastAbove}
use Rattle.hfs_record_edits.proofs.Adds.{empty-free, added-first, root-room, added-root, ext-long, beyond, enough, above-first, added-above}
use Rattle.hfs_record_edits.proofs.adding_extents.add.Goals as goal

pub begin-requires-clause-free : goal.begin-requires-clause-free
begin-requires-clause-free g c = empty-free (g.S.Nodes.nodes c.args.nodes.now) (sym (ap (λ (h : Header). h.depth) c.read_header-header.ensures) ∙ c.if-header-eq0.true) c.requires.room

pub returns-then-header-eq0-clause-added : goal.returns-then-header-eq0-clause-added
returns-then-header-eq0-clause-added g c =
    on-ok _ _ c.begin.result
    (λ b. added-first c.args.key.now c.args.body.now (g.S.Nodes.nodes c.args.nodes.now) (g.S.Nodes.nodes c.begin.new.nodes) (sym (ap (λ (h : Header). h.depth) c.read_header-header.ensures) ∙ c.if-header-eq0.true) b)
    c.begin.ensures.begun

pub put_in_root-requires-clause-room : goal.put_in_root-requires-clause-room
put_in_root-requires-clause-room g c =
    let is = c.read_header-header.ensures in
    root-room (g.S.Nodes.nodes c.args.nodes.now) c.requires.tree c.read_header-header.result (length c.in_ok-entry.entry.items) is
    (sym (ap (λ (h : Header). h.depth) is) ∙ c.has_room.ensures.one c.if-has_room.true) (c.has_room.ensures.few c.if-has_room.true) (ext-long c.in_ok-entry.entry.items c.in_ok-entry.ensures.leaf)

pub returns-then-has_room-clause-added : goal.returns-then-has_room-clause-added
returns-then-has_room-clause-added g c =
    let is = c.read_header-header.ensures in
    let old = g.S.Nodes.nodes c.args.nodes.now in
    let new = g.S.Nodes.nodes c.put_in_root.new.nodes in
    let P : List ℕ → Type 0 = λ body. HasPut ext_keys c.args.key.now body old new in
    on-ok _ _ c.put_in_root.result
    (λ p. added-root old c.requires.tree c.args.key.now c.args.body.now new (sym (ap (λ (h : Header). h.depth) is) ∙ c.has_room.ensures.one c.if-has_room.true) (subst P c.in_ok-entry.ensures.body p))
    c.put_in_root.ensures.put

pub add_below-requires-clause-some : goal.add_below-requires-clause-some
add_below-requires-clause-some g c =
    (beyond (g.S.Nodes.nodes c.args.nodes.now) c.requires.tree c.read_header-header.result c.read_header-header.ensures c.if-header-eq0.false (c.has_room.ensures.full c.if-has_room.false)).0

pub add_below-requires-clause-beyond : goal.add_below-requires-clause-beyond
add_below-requires-clause-beyond g c =
    (beyond (g.S.Nodes.nodes c.args.nodes.now) c.requires.tree c.read_header-header.result c.read_header-header.ensures c.if-header-eq0.false (c.has_room.ensures.full c.if-has_room.false)).1

pub add_below-requires-clause-shallow : goal.add_below-requires-clause-shallow
add_below-requires-clause-shallow g c =
    let old = g.S.Nodes.nodes c.args.nodes.now in
    let is = c.read_header-header.ensures in
    let full = (beyond old c.requires.tree c.read_header-header.result is c.if-header-eq0.false (c.has_room.ensures.full c.if-has_room.false)).1 in
    (enough old c.requires.tree c.read_header-header.result is (let small = c.read_header-header.type_inv in omega (arith, small)) full c.requires.room).0

pub add_below-requires-clause-free : goal.add_below-requires-clause-free
add_below-requires-clause-free g c =
    let old = g.S.Nodes.nodes c.args.nodes.now in
    let is = c.read_header-header.ensures in
    let full = (beyond old c.requires.tree c.read_header-header.result is c.if-header-eq0.false (c.has_room.ensures.full c.if-has_room.false)).1 in
    (enough old c.requires.tree c.read_header-header.result is (let small = c.read_header-header.type_inv in omega (arith, small)) full c.requires.room).1

pub insert-requires-clause-above : goal.insert-requires-clause-above
insert-requires-clause-above g c =
    let old = g.S.Nodes.nodes c.args.nodes.now in
    let some = (beyond old c.requires.tree c.read_header-header.result c.read_header-header.ensures c.if-header-eq0.false (c.has_room.ensures.full c.if-has_room.false)).0 in
    above-first old c.requires.tree c.args.key.now some (subst (λ o. IsLeastAbove c.args.key.now (overflow_of old) o) c.in-None.is c.in_ok-least.ensures) c.requires.absent

pub insert-requires-clause-shallow : goal.insert-requires-clause-shallow
insert-requires-clause-shallow g c =
    let old = g.S.Nodes.nodes c.args.nodes.now in
    let is = c.read_header-header.ensures in
    let full = (beyond old c.requires.tree c.read_header-header.result is c.if-header-eq0.false (c.has_room.ensures.full c.if-has_room.false)).1 in
    (enough old c.requires.tree c.read_header-header.result is (let small = c.read_header-header.type_inv in omega (arith, small)) full c.requires.room).0

pub insert-requires-clause-free : goal.insert-requires-clause-free
insert-requires-clause-free g c =
    let old = g.S.Nodes.nodes c.args.nodes.now in
    let is = c.read_header-header.ensures in
    let full = (beyond old c.requires.tree c.read_header-header.result is c.if-header-eq0.false (c.has_room.ensures.full c.if-has_room.false)).1 in
    (enough old c.requires.tree c.read_header-header.result is (let small = c.read_header-header.type_inv in omega (arith, small)) full c.requires.room).1

pub returns-in-None-clause-added : goal.returns-in-None-clause-added
returns-in-None-clause-added g c =
    let old = g.S.Nodes.nodes c.args.nodes.now in
    let full = (beyond old c.requires.tree c.read_header-header.result c.read_header-header.ensures c.if-header-eq0.false (c.has_room.ensures.full c.if-has_room.false)).1 in
    on-ok _ _ c.insert.result (λ h. added-above old c.requires.tree c.args.key.now c.args.body.now (g.S.Nodes.nodes c.insert.new.nodes) full h) c.insert.ensures.inserted
