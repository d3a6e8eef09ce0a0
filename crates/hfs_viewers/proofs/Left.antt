-- What changes leave.
use Rattle.std.proofs.Common.{◌≡◌, ℕ, Bool, List, refl, sym, ◌∙◌, ap, Result, Ok, Err, ℤ}
use Rattle.std.specs.FinMap as map
use Rattle.std.specs.BTreeMap as tree
use Rattle.hfs_fields.specs.declared.mdb.Mdb.{Mdb}
use Rattle.hfs_model.specs.declared.item.Item.{Item}
use Rattle.hfs_model.specs.declared.item.Kind.{Kind}
use Rattle.hfs_model.specs.Volume.{Volume, Items, Entry}
use Rattle.hfs_model.specs.Changes.{change, with_lock}
use Rattle.hfs_model.specs.FileIds.{with_thread}
use Rattle.hfs_viewers.specs.declared.row.Row.{Row}
use Rattle.hfs_viewers.specs.declared.row.RowKind.{RowKind}
use Rattle.hfs_viewers.specs.declared.row.RowKind.TheVariants.{Folder, File as FileRow}
use Rattle.hfs_viewers.specs.declared.table.Table.{Table}
use Rattle.hfs_viewers.specs.declared.table.Found.{Found}
use Rattle.hfs_viewers.specs.Tables.{item_of, kind_of, items_of, volume_of, IsTable, IsKindOf}
use Rattle.hfs_viewers.specs.RowEdits.{Writes, Leaves, IsFound, chosen_of, kind_locked, kind_threaded}
use Rattle.hfs_viewers.specs.RowEdits as rows
use Rattle.hfs_viewers.proofs.EditedRows.{items_written, table_written}

-- another moment of the last change
pub table_later : (t : Table) (now : ℕ) → IsTable t → IsTable (record t { changed = now })
unfolding items_of
table_later t now is = record { sorted = is.sorted; names = is.names; rows = is.rows; over = is.over }

-- a refused change
pub refused : (t : Table) (chosen : Result Entry ℤ) (r : Result Found ℤ) (code : ℤ) (make : Entry → Items → Items) (now : ℕ) → IsTable t → chosen ≡ chosen_of t r → r ≡ Err code → Leaves t (change (volume_of t) chosen make now).0
refused t chosen r code make now is choice err = record { table = is; volume = ap (λ (c : Result Entry ℤ). (change (volume_of t) c make now).0) (sym (choice ∙ ap (chosen_of t) err)) }

-- a row that was written
pub written : (t : Table) (is : IsTable t) (n : tree.BTreeMap ℕ Row) (f : Row → Row) (g : Item → Item) (chosen : Result Entry ℤ) (r : Result Found ℤ) (found : Found) (now : ℕ)
    → chosen ≡ chosen_of t r → r ≡ Ok found → IsFound t found → Writes f found.id t.by_id n
    → ((x : Row) → item_of t.base t.mdb (f x) ≡ g (item_of t.base t.mdb x)) → ((i : Item) → (g i).parent ≡ i.parent) → ((i : Item) → (g i).name ≡ i.name)
    → ((items : Items) (q : ℕ) (x : Row) → IsKindOf items t.mdb q x.kind → IsKindOf items t.mdb q (f x).kind)
    → Leaves (record t { by_id = n; changed = now }) (change (volume_of t) chosen (λ e m. map.insert m e.0 (g e.1)) now).0
unfolding items_of
written t is n f g chosen r found now choice ok has writes shows parent name shape =
    let i = item_of t.base t.mdb found.row.now in
    let items : items_of (record t { by_id = n }) ≡ map.insert (items_of t) found.id (g i) = items_written t is n f g found.id writes shows parent name i has in
    let v : Volume = volume_of (record t { changed = now }) in
    record {
      table = table_later (record t { by_id = n }) now (table_written t is n f g found.id writes shows parent name i has shape);
      volume = (λ k. record v { items = items k }) ∙ ap (λ (c : Result Entry ℤ). (change (volume_of t) c (λ e m. map.insert m e.0 (g e.1)) now).0) (sym (choice ∙ ap (chosen_of t) ok));
    }

-- ---- locks

pub lock_shown : (base : List ℕ) (mdb : Mdb) (locked : Bool) (x : Row) → item_of base mdb (rows.with_lock locked x) ≡ record (item_of base mdb x) { kind = with_lock locked (item_of base mdb x).kind }
lock_shown base mdb locked x = ap (λ (k : Kind). record (item_of base mdb x) { kind = k }) (kinds x.kind)
  where
    kinds : (k : RowKind) → kind_of base mdb (kind_locked locked k) ≡ with_lock locked (kind_of base mdb k)
    kinds (Folder kept children) = refl
    kinds (FileRow f) = refl

pub lock_shape : (mdb : Mdb) (locked : Bool) (items : Items) (q : ℕ) (x : Row) → IsKindOf items mdb q x.kind → IsKindOf items mdb q (rows.with_lock locked x).kind
lock_shape mdb locked items q x = kinds x.kind
  where
    kinds : (k : RowKind) → IsKindOf items mdb q k → IsKindOf items mdb q (kind_locked locked k)
    kinds (Folder kept children) h = h
    kinds (FileRow f) h = h

-- ---- threads

pub thread_shown : (base : List ℕ) (mdb : Mdb) (there : Bool) (x : Row) → item_of base mdb (rows.with_thread there x) ≡ record (item_of base mdb x) { kind = with_thread there (item_of base mdb x).kind }
thread_shown base mdb there x = ap (λ (k : Kind). record (item_of base mdb x) { kind = k }) (kinds x.kind)
  where
    kinds : (k : RowKind) → kind_of base mdb (kind_threaded there k) ≡ with_thread there (kind_of base mdb k)
    kinds (Folder kept children) = refl
    kinds (FileRow f) = refl

pub thread_shape : (mdb : Mdb) (there : Bool) (items : Items) (q : ℕ) (x : Row) → IsKindOf items mdb q x.kind → IsKindOf items mdb q (rows.with_thread there x).kind
thread_shape mdb there items q x = kinds x.kind
  where
    kinds : (k : RowKind) → IsKindOf items mdb q k → IsKindOf items mdb q (kind_threaded there k)
    kinds (Folder kept children) h = h
    kinds (FileRow f) h = h
