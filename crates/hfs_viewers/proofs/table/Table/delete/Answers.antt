use Rattle.std.proofs.Common.{◌≡◌, ◌∙◌, ap, subst, None, Ok}
use Rattle.std.specs.BTreeMap as tree
use Rattle.hfs_model.specs.Choices.{to_delete}
use Rattle.hfs_model.specs.Changes.{delete}
use Rattle.hfs_viewers.specs.declared.place.Place.{Place}
use Rattle.hfs_viewers.specs.Places.{place, place_cmp}
use Rattle.hfs_viewers.specs.Tables.{item_of, volume_of}
use Rattle.hfs_viewers.specs.RowEdits.{chosen_of}
use Rattle.hfs_viewers.proofs.Left.{refused}
use Rattle.hfs_viewers.proofs.Gone.{leaves_deleted, delete_may}
use Rattle.hfs_viewers.proofs.table.Table.delete.Goals as goal

pub returns-in-Err : goal.returns-in-Err
unfolding delete
returns-in-Err c = refused c.args.self.now _ c.to_delete.result c.in-Err.field-0 _ c.args.now c.requires c.to_delete.ensures.choice c.in-Err.is

pub returns : goal.returns
unfolding delete
returns c =
    let t = c.args.self.now in
    let k = c.in-Ok.found.id in
    let i = item_of t.base t.mdb c.in-Ok.found.row.now in
    let ok : to_delete (volume_of t) c.args.dir c.args.name.now ≡ Ok (k, i) = c.to_delete.ensures.choice ∙ ap (chosen_of t) c.in-Ok.is in
    let child = delete_may (volume_of t) c.args.dir c.args.name.now (k, i) ok in
    let took : tree.Updates place_cmp t.by_name c.remove.new.self (place i.parent i.name) None =
    subst (λ (p : Place). tree.Updates place_cmp t.by_name c.remove.new.self p None) c.place-from.ensures c.remove.ensures.updates in
    leaves_deleted t c.requires k c.args.now i c.in-Ok.ensures.found c.remove.new.self c.args.dir child.under c.remove-2.new.self c.drop_child.new.rows
    c.remove.ensures.ordered took c.remove-2.ensures.ordered c.remove-2.ensures.updates c.drop_child.ensures _ ok
