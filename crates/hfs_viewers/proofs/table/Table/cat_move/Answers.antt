use Rattle.std.proofs.Common.{◌≡◌, refl, ◌∙◌, ap, subst, Ok}
use Rattle.std.specs.BTreeMap as tree
use Rattle.hfs_model.specs.Choices.{to_move}
use Rattle.hfs_model.specs.Changes.{cat_move}
use Rattle.hfs_viewers.specs.declared.place.Place.{Place}
use Rattle.hfs_viewers.specs.Places.{place, place_cmp}
use Rattle.hfs_viewers.specs.Tables.{item_of, items_of, volume_of}
use Rattle.hfs_viewers.specs.RowEdits.{Moves, chosen_of}
use Rattle.hfs_viewers.proofs.Created.{left_same}
use Rattle.hfs_viewers.proofs.Left.{refused}
use Rattle.hfs_viewers.proofs.Gone.{leaves_carried, has_room_there, move_may, moves_free}
use Rattle.hfs_viewers.proofs.table.Table.cat_move.Goals as goal

pub returns-in-Err-clause-ok : goal.returns-in-Err-clause-ok
unfolding cat_move
returns-in-Err-clause-ok c = refused c.args.self.now _ c.to_move.result c.in-Err.field-0 _ c.args.now c.requires c.to_move.ensures.choice c.in-Err.is

pub move_name-requires-clause-stands : goal.move_name-requires-clause-stands
move_name-requires-clause-stands c =
    let t = c.args.self.now in
    ap (tree.get place_cmp t.by_name) c.place-from.ensures ∙ c.requires.names.has c.in-Ok.found.id (item_of t.base t.mdb c.in-Ok.found.row.now) c.in-Ok.ensures.found

pub returns-in_default-clause-err : goal.returns-in_default-clause-err
returns-in_default-clause-err c =
    let t = c.args.self.now in
    left_same t c.requires c.move_name.new.names c.in_default.ensures.err.sorted c.in_default.ensures.err.same t.by_id c.requires.sorted (λ q. refl)

pub add_child-requires : goal.add_child-requires
add_child-requires c =
    let t = c.args.self.now in
    let k = c.in-Ok.found.id in
    let i = item_of t.base t.mdb c.in-Ok.found.row.now in
    let ok : to_move (volume_of t) c.args.dir c.args.name.now c.args.new_dir ≡ Ok (k, i) = c.to_move.ensures.choice ∙ ap (chosen_of t) c.in-Ok.is in
    let may = move_may (volume_of t) c.args.dir c.args.name.now c.args.new_dir (k, i) ok in
    has_room_there t c.requires k c.args.now i c.in-Ok.ensures.found c.move_name.new.names c.args.dir c.args.new_dir may.child.under c.set_parent.new.rows c.drop_child.new.rows c.set_parent.ensures c.drop_child.ensures may.fits

pub returns-clause-ok : goal.returns-clause-ok
unfolding cat_move
returns-clause-ok c =
    let t = c.args.self.now in
    let k = c.in-Ok.found.id in
    let i = item_of t.base t.mdb c.in-Ok.found.row.now in
    let ok : to_move (volume_of t) c.args.dir c.args.name.now c.args.new_dir ≡ Ok (k, i) = c.to_move.ensures.choice ∙ ap (chosen_of t) c.in-Ok.is in
    let may = move_may (volume_of t) c.args.dir c.args.name.now c.args.new_dir (k, i) ok in
    let moves : Moves (place i.parent i.name) (place c.args.new_dir i.name) k t.by_name c.move_name.new.names =
    subst (λ (p : Place). Moves p (place c.args.new_dir p.name) k t.by_name c.move_name.new.names) c.place-from.ensures c.in-Ok-move_name.ensures.ok in
    leaves_carried t c.requires k c.args.now i c.in-Ok.ensures.found c.move_name.new.names c.args.dir c.args.new_dir may.child.under c.set_parent.new.rows c.drop_child.new.rows c.set_parent.ensures c.drop_child.ensures
    c.add_child.new.rows c.add_child.ensures (moves_free (items_of t) t.by_name c.requires.names c.args.new_dir k c.args.name.now i.name may.free may.child.named) moves _ ok
