use Rattle.std.proofs.Common.{◌≡◌, ℕ, List, refl, sym, ◌∙◌, ap, subst, Ok}
use Rattle.std.specs.BTreeMap as tree
use Rattle.std.specs.FinMap as map
use Rattle.hfs_model.specs.Volume.{Entry}
use Rattle.hfs_model.specs.Choices.{to_rename}
use Rattle.hfs_model.specs.Changes.{rename, change}
use Rattle.hfs_viewers.specs.declared.place.Place.{Place}
use Rattle.hfs_viewers.specs.Places.{place, place_cmp}
use Rattle.hfs_viewers.specs.Tables.{item_of, items_of, volume_of}
use Rattle.hfs_viewers.specs.RowEdits.{Leaves, Moves, chosen_of}
use Rattle.hfs_viewers.proofs.Created.{left_same}
use Rattle.hfs_viewers.proofs.Left.{refused}
use Rattle.hfs_viewers.proofs.Moved.{stands_free}
use Rattle.hfs_viewers.proofs.Gone.{leaves_renamed, rename_may}
use Rattle.hfs_viewers.proofs.table.Table.rename.Goals as goal

pub returns-in-Err-clause-ok : goal.returns-in-Err-clause-ok
unfolding rename
returns-in-Err-clause-ok c = refused c.args.self.now _ c.to_rename.result c.in-Err.field-0 _ c.args.now c.requires c.to_rename.ensures.choice c.in-Err.is

pub move_name-requires-clause-stands : goal.move_name-requires-clause-stands
move_name-requires-clause-stands c =
    let t = c.args.self.now in
    ap (tree.get place_cmp t.by_name) c.place-from.ensures ∙ c.requires.names.has c.in-Ok.found.id (item_of t.base t.mdb c.in-Ok.found.row.now) c.in-Ok.ensures.found

pub returns-in_default-move_name-clause-err : goal.returns-in_default-move_name-clause-err
returns-in_default-move_name-clause-err c =
    let t = c.args.self.now in
    left_same t c.requires c.move_name.new.names c.in_default-move_name.ensures.err.sorted c.in_default-move_name.ensures.err.same t.by_id c.requires.sorted (λ q. refl)

pub returns-clause-ok : goal.returns-clause-ok
unfolding rename
returns-clause-ok c =
    let t = c.args.self.now in
    let k = c.in-Ok.found.id in
    let i = item_of t.base t.mdb c.in-Ok.found.row.now in
    let n = c.in-Some.new_name in
    let name : n ≡ c.args.new_name.now = c.in-Some.ensures.1 in
    let ok : to_rename (volume_of t) c.args.dir c.args.name.now c.args.new_name.now ≡ Ok (k, i) = c.to_rename.ensures.choice ∙ ap (chosen_of t) c.in-Ok.is in
    let may = rename_may (volume_of t) c.args.dir c.args.name.now c.args.new_name.now (k, i) ok in
    let moves : Moves (place i.parent i.name) (place i.parent n) k t.by_name c.move_name.new.names =
    subst (λ (p : Place). Moves p (place p.parent n) k t.by_name c.move_name.new.names) c.place-from.ensures c.in-Ok-move_name.ensures.ok in
    subst (λ (z : List ℕ). Leaves (record t { by_id = c.set_name.new.rows; by_name = c.move_name.new.names; changed = c.args.now }) (change (volume_of t) (to_rename (volume_of t) c.args.dir c.args.name.now c.args.new_name.now) (λ (e : Entry) m. map.insert m e.0 (record e.1 { name = z })) c.args.now).0)
    name
    (leaves_renamed t c.requires k c.args.now i c.in-Ok.ensures.found c.move_name.new.names n c.set_name.new.rows
    (λ q at. stands_free (items_of t) t.by_name c.requires.names c.args.dir c.args.new_name.now k may.1 q (sym (λ z. tree.get place_cmp t.by_name (place (may.0.under z) (name z))) ∙ at))
    moves c.set_name.ensures _ ok)
