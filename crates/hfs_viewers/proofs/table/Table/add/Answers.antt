use Rattle.std.proofs.Common.{◌≡◌, ℕ, ◌+◌, List, refl, sym, ◌∙◌, ap, subst, Some, None, Ok}
use Rattle.std.specs.Ordering.{nat_cmp, is_eq}
use Rattle.std.specs.Map.{lookup}
use Rattle.std.specs.BTreeMap as tree
use Rattle.hfs_model.specs.Changes.{create, new_item}
use Rattle.hfs_viewers.specs.declared.row.Row.{Row}
use Rattle.hfs_viewers.specs.declared.place.Place.{Place}
use Rattle.hfs_viewers.specs.Places.{place, place_cmp}
use Rattle.hfs_viewers.specs.Tables.{kind_of, items_of, volume_of}
use Rattle.hfs_viewers.specs.RowEdits.{Leaves, new_row}
use Rattle.hfs_viewers.proofs.Created.{left_same, taken_back, free_place, row_room, rows_besides, leaves_created}
use Rattle.hfs_viewers.proofs.table.Table.add.Goals as goal

pub returns-in_default-insert-clause-err : goal.returns-in_default-insert-clause-err
returns-in_default-insert-clause-err c =
    let t = c.args.self.now in
    left_same t c.requires.table c.insert.new.self c.in_default-insert.ensures.ordered (λ p. ap (λ (es : List (Place × ℕ)). lookup (λ (k : Place). is_eq (place_cmp p k)) es) c.in_default-insert.ensures.err)
    t.by_id c.requires.table.sorted (λ q. refl)

pub returns-in_default-insert-2-clause-err : goal.returns-in_default-insert-2-clause-err
returns-in_default-insert-2-clause-err c =
    let t = c.args.self.now in
    let name : c.in-Some.name ≡ c.args.name.now = c.in-Some.ensures.1 in
    let free : tree.get place_cmp t.by_name (place c.args.dir c.in-Some.name) ≡ None =
    ap (λ (n : List ℕ). tree.get place_cmp t.by_name (place c.args.dir n)) name ∙ free_place (items_of t) t.by_name c.requires.table.names c.args.dir c.args.name.now c.in-Ok.ensures.may.free in
    left_same t c.requires.table c.remove.new.self c.remove.ensures.ordered
    (taken_back t.by_name c.insert.new.self c.remove.new.self (place c.args.dir c.in-Some.name) c.in-Ok.id free c.in-Ok-insert.ensures.updates c.remove.ensures.updates)
    c.insert-2.new.self c.in_default-insert-2.ensures.ordered (λ q. ap (λ (es : List (ℕ × Row)). lookup (λ (k : ℕ). is_eq (nat_cmp q k)) es) c.in_default-insert-2.ensures.err)

pub add_child-requires : goal.add_child-requires
add_child-requires c =
    let t = c.args.self.now in
    let may = c.in-Ok.ensures.may in
    row_room t c.requires.table c.args.dir may.room c.insert-2.new.self (rows_besides t c.requires.lawful c.args.dir may.folder c.insert-2.new.self c.in-Ok.id _ c.in-Ok.ensures.id c.in-Ok-insert-2.ensures.updates)

pub returns-clause-ok : goal.returns-clause-ok
unfolding create
returns-clause-ok c =
    let t = c.args.self.now in
    let may = c.in-Ok.ensures.may in
    let is : c.in-Ok.id ≡ t.next_id = c.in-Ok.ensures.id in
    let name : c.in-Some.name ≡ c.args.name.now = c.in-Some.ensures.1 in
    let row : Row = new_row c.args.kind c.args.dir c.in-Some.name c.args.now in
    let free : tree.get place_cmp t.by_name (place c.args.dir c.in-Some.name) ≡ None =
    ap (λ (n : List ℕ). tree.get place_cmp t.by_name (place c.args.dir n)) name ∙ free_place (items_of t) t.by_name c.requires.table.names c.args.dir c.args.name.now may.free in
    let named : tree.Updates place_cmp t.by_name c.insert.new.self (place c.args.dir c.in-Some.name) (Some t.next_id) =
    subst (λ (k : ℕ). tree.Updates place_cmp t.by_name c.insert.new.self (place c.args.dir c.in-Some.name) (Some k)) is c.in-Ok-insert.ensures.updates in
    let put : tree.Updates nat_cmp t.by_id c.insert-2.new.self t.next_id (Some row) =
    subst (λ (k : ℕ). tree.Updates nat_cmp t.by_id c.insert-2.new.self k (Some row)) is (subst (λ (r : Row). tree.Updates nat_cmp t.by_id c.insert-2.new.self c.in-Ok.id (Some r)) c.new_row-row.ensures c.in-Ok-insert-2.ensures.updates) in
    let kind = kind_of t.base t.mdb c.args.kind in
    let made = leaves_created t c.requires.table c.requires.lawful c.args.dir c.args.now row c.insert.new.self c.insert-2.new.self c.add_child.new.rows may.folder refl free
    (λ a none. c.requires.kind a t.next_id none) c.in-Ok-insert.ensures.ordered named c.in-Ok-insert-2.ensures.ordered put c.add_child.ensures kind c.args.name.now _ (c.to_create.ensures.choice ∙ c.in-Ok.is ∙ ap Ok is)
    (λ i. new_item kind c.args.dir (name i) c.args.now) in
    subst (λ (k : ℕ). Leaves (record t { by_id = c.add_child.new.rows; by_name = c.insert.new.self; next_id = k + 1; changed = c.args.now }) (create kind (volume_of t) c.args.dir c.args.name.now c.args.now).0) (sym is) made
