-- Room and a row change no block.
use Rattle.std.proofs.Common.{◌≡◌, ◌-◌, ◌<◌, [], get_or, length, refl, sym, ap, ◌∙◌, subst, arith, rules}
use Rattle.std.specs.Prelude.{zip}
use Rattle.hfs_blocks.specs.Layers.{Numbered, changes, with_change}
use Rattle.hfs_blocks.specs.Tables.{HasPlaces, HasLaid}
use Rattle.hfs_blocks.proofs.TableLemmas.{table-same, place-is, places-of-table, changes-overwritten, one-laid, zip-same}
use Rattle.hfs_blocks.proofs.patch.Patch.put.Goals as goal

pub invariant_of-self-in_err-add_row : goal.invariant_of-self-in_err-add_row
invariant_of-self-in_err-add_row c = table-same _ _ _ _ _ _ c.self.invariant c.in_ok-make_room.ensures.numbers c.in_ok-make_room.ensures.blocks c.in_err-add_row.ensures.same

pub append-requires-clause-table : goal.append-requires-clause-table
append-requires-clause-table c = table-same _ _ _ _ _ _ c.self.invariant c.in_ok-make_room.ensures.numbers c.in_ok-make_room.ensures.blocks c.in_ok-add_row.ensures.same

pub place_in_table-place-requires : goal.place_in_table-place-requires
place_in_table-place-requires c = subst (λ ns. HasPlaces ns c.self.inside.places.entries) (sym c.deref.ensures.value) (places-of-table _ _ _ c.self.invariant)

pub index_mut-requires : goal.index_mut-requires
index_mut-requires c =
    let some : 0 < c.place_in_table-place.result = search rules in
    let at = place-is c.self.inside.numbers.items c.self.inside.blocks.items c.self.inside.places.entries c.args.n c.place_in_table-place.result c.self.invariant c.place_in_table-place.ensures some in
    omega (arith, at.1, c.self.inside.blocks.ok.0)

pub returns-then-place-gt0-clause-written : goal.returns-then-place-gt0-clause-written
returns-then-place-gt0-clause-written c =
    let some : 0 < c.place_in_table-place.result = search rules in
    let long : length c.args.block.now ≡ 512 = search rules in
    let at = place-is c.self.inside.numbers.items c.self.inside.blocks.items c.self.inside.places.entries c.args.n c.place_in_table-place.result c.self.invariant c.place_in_table-place.ensures some in
    changes-overwritten c.self.inside.numbers.items c.self.inside.blocks.items _ c.self.inside.places.entries c.args.n (c.place_in_table-place.result - 1) c.args.block.now c.self.invariant at.0 refl long ∙ ap (λ (l : Numbered). with_change (changes l) c.args.n c.args.block.now) c.self.view_is

pub returns-clause-written : goal.returns-clause-written
returns-clause-written c =
    let one : get_or c.from_ref.result.now 0 [] ≡ c.args.block.now = search rules in
    let laid = subst (λ count. HasLaid c.args.n count c.from_ref.result.now (changes (zip c.make_room.new.numbers.items c.make_room.new.blocks.items)) (changes (zip c.append.new.numbers.items c.append.new.blocks.items))) c.from_ref.ensures.len c.append.ensures.laid in
    one-laid c.args.n c.args.block.now c.from_ref.result.now _ _ one laid ∙ ap (λ (l : Numbered). with_change (changes l) c.args.n c.args.block.now) (zip-same _ _ _ _ c.in_ok-make_room.ensures.numbers c.in_ok-make_room.ensures.blocks ∙ c.self.view_is)
