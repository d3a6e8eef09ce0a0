-- A block comes, or one is written over at its place.
use Rattle.std.proofs.Common.{◌≡◌, ◌+◌, ◌-◌, ◌<◌, length, refl, sym, subst, arith, rules}
use Rattle.hfs_blocks.specs.Tables.{HasPlaces}
use Rattle.hfs_blocks.proofs.TableLemmas.{place-is, places-of-table, changes-overwritten, table-overwritten, room-less}
use Rattle.hfs_blocks.proofs.table.lay_one.Goals as goal

pub returns-then-place-eq0-clause-room : goal.returns-then-place-eq0-clause-room
returns-then-place-eq0-clause-room c = λ more room. c.append.ensures.room more (room-less _ _ _ (1 + more) (omega (arith, c.from_ref.ensures.len)) room)

pub index_mut-requires : goal.index_mut-requires
index_mut-requires c =
    let some : 0 < c.place_in_table-place.result = search rules in
    let at = place-is c.args.numbers.now.items c.args.blocks.now.items c.args.places.now.entries c.args.n c.place_in_table-place.result c.requires.table c.place_in_table-place.ensures some in
    omega (arith, at.1, c.args.blocks.now.ok.0)

pub returns-clause-table : goal.returns-clause-table
returns-clause-table c =
    let some : 0 < c.place_in_table-place.result = search rules in
    let long : length c.args.block.now ≡ 512 = search rules in
    let at = place-is c.args.numbers.now.items c.args.blocks.now.items c.args.places.now.entries c.args.n c.place_in_table-place.result c.requires.table c.place_in_table-place.ensures some in
    table-overwritten c.args.numbers.now.items c.args.blocks.now.items _ c.args.places.now.entries c.args.n (c.place_in_table-place.result - 1) c.args.block.now c.requires.table at.0 refl long

pub returns-clause-laid : goal.returns-clause-laid
returns-clause-laid c =
    let some : 0 < c.place_in_table-place.result = search rules in
    let long : length c.args.block.now ≡ 512 = search rules in
    let at = place-is c.args.numbers.now.items c.args.blocks.now.items c.args.places.now.entries c.args.n c.place_in_table-place.result c.requires.table c.place_in_table-place.ensures some in
    changes-overwritten c.args.numbers.now.items c.args.blocks.now.items _ c.args.places.now.entries c.args.n (c.place_in_table-place.result - 1) c.args.block.now c.requires.table at.0 refl long

pub place_in_table-place-requires : goal.place_in_table-place-requires
place_in_table-place-requires c = subst (λ ns. HasPlaces ns c.args.places.now.entries) (sym c.deref.ensures.value) (places-of-table _ _ _ c.requires.table)
