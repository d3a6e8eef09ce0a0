-- Rows whose forks were written.
use Rattle.std.proofs.Common.{◌≡◌, ⊎_elim, ℕ, ◌*◌, ◌≤◌, Bool, cond, List, length, refl, sym, ◌∙◌, ap, subst, arith, Option, Some, None, Result, Ok, ℤ, Bor, Err}
use Rattle.std.specs.Ordering.{nat_cmp}
use Rattle.std.specs.Prelude.{OnErr}
use Rattle.std.specs.Cmp.{nat_cmp_total, unsigned_ties}
use Rattle.std.specs.Option.{option_map}
use Rattle.std.specs.FinMap as map
use Rattle.std.specs.BTreeMap as tree
use Rattle.std.proofs.lemmas.Bool.{cases_eq, eq-eqb, ne_eqb}
use Rattle.hfs_model.specs.declared.call.Fork.{Fork}
use Rattle.hfs_model.specs.declared.call.Fork.TheVariants.{DataFork, ResFork}
use Rattle.hfs_model.specs.declared.item.Item.{Item}
use Rattle.hfs_model.specs.declared.item.Kind.{Kind}
use Rattle.hfs_model.specs.declared.item.Kind.TheVariants as kind
use Rattle.hfs_model.specs.Volume.{Volume, Items, Entry}
use Rattle.hfs_model.specs.Changes.{change}
use Rattle.hfs_model.specs.Lawful.{Has}
use Rattle.hfs_model.proofs.Facts.{same_some, none_is_some}
use Rattle.hfs_space.specs.Extents.{block_total}
use Rattle.hfs_model.specs.Forks.{physical_length, with_physical_length, fork_bytes, kind_with_fork, item_with_fork}
use Rattle.hfs_viewers.specs.declared.fork.ForkPieces.{ForkPieces}
use Rattle.hfs_viewers.specs.Pieces.{ArePieces, fork_length, fork_shown}
use Rattle.hfs_viewers.specs.PieceEdits.{Keeps, Makes}
use Rattle.hfs_viewers.proofs.EditedPieces.{length-shown}
use Rattle.hfs_viewers.specs.declared.writing_forks.ForkEdit.TheVariants.{SetLength, Write}
use Rattle.hfs_viewers.specs.declared.row.Row.{Row}
use Rattle.hfs_viewers.specs.declared.row.RowKind.{RowKind}
use Rattle.hfs_viewers.specs.declared.row.RowKind.TheVariants.{Folder, File as FileRow}
use Rattle.hfs_viewers.specs.declared.row.RowFile.{RowFile}
use Rattle.hfs_viewers.specs.declared.row.RowFork.{RowFork}
use Rattle.hfs_viewers.specs.declared.table.Table.{Table}
use Rattle.hfs_viewers.specs.declared.table.Found.{Found}
use Rattle.hfs_viewers.specs.Tables.{base_bytes, bytes_of, file_of, kind_of, item_of, items_of, volume_of, IsForkIn, IsKindOf, IsTable}
use Rattle.hfs_viewers.specs.RowEdits.{Writes, Leaves, IsFound, chosen_of}
use Rattle.hfs_viewers.specs.WrittenForks.{row_fork, with_pieces, with_physical, MayEdit, MayEditRow, EditsFile, KeepsFile, OfFile, OfFiles, EditsRow, EditsRows}
use Rattle.hfs_viewers.specs.ForkParts.{MayWrite}
use Rattle.hfs_viewers.proofs.LookedUp.{get_of, base_long, size_is}
use Rattle.hfs_viewers.proofs.EditedRows.{items_written, table_written}
use Rattle.hfs_viewers.proofs.Left.{written}

-- ---- a fork

module _ (t : Table) (is : IsTable t) where
  -- over the same extents the fork shows what was made
  shown : (f : List ℕ → List ℕ) (fork : RowFork) (pieces : ForkPieces) → IsForkIn t.mdb fork → Makes f fork.pieces pieces → bytes_of t.base t.mdb (record fork { pieces = pieces }) ≡ f (bytes_of t.base t.mdb fork)
  unfolding bytes_of
  shown f fork pieces in_ makes =
      ap (λ (n : ℕ). fork_shown (base_bytes t.base t.mdb (record fork { pieces = record pieces { base_len = n } })) pieces) makes.base_len
      ∙ makes.shows (base_bytes t.base t.mdb fork) (base_long t is fork in_)

  pub still_in : (f : List ℕ → List ℕ) (fork : RowFork) (pieces : ForkPieces) → IsForkIn t.mdb fork → Makes f fork.pieces pieces → IsForkIn t.mdb (record fork { pieces = pieces })
  still_in f fork pieces in_ makes = record {
    within = in_.within;
    room = subst (λ (n : ℕ). n ≤ block_total fork.extents * t.mdb.allocation_block_size) (sym makes.base_len) in_.room;
    pieces = makes.pieces;
  }

  -- as long as the pieces say
  long : (f : List ℕ → List ℕ) (fork : RowFork) (pieces : ForkPieces) → IsForkIn t.mdb fork → Makes f fork.pieces pieces → fork_length pieces ≡ length (f (bytes_of t.base t.mdb fork))
  unfolding bytes_of
  long f fork pieces in_ makes =
      sym (length-shown pieces (base_bytes t.base t.mdb fork) makes.pieces (base_long t is fork in_ ∙ sym makes.base_len))
      ∙ ap (λ (l : List ℕ). length l) (makes.shows (base_bytes t.base t.mdb fork) (base_long t is fork in_))

  -- ---- a file

  file_shown : (size : ℕ) (fork : Fork) (f : List ℕ → List ℕ) (old : RowFile) (pieces : ForkPieces) → IsForkIn t.mdb old.«data» × IsForkIn t.mdb old.resource → Makes f (row_fork fork old).pieces pieces
      → kind_of t.base t.mdb (FileRow (with_physical fork (physical_length size (fork_length pieces)) (with_pieces fork pieces old)))
      ≡ kind_with_fork size fork (f (fork_bytes fork (kind_of t.base t.mdb (FileRow old)))) (kind_of t.base t.mdb (FileRow old))
  file_shown size DataFork f old pieces in_ makes =
      let n = long f old.«data» pieces in_.0 makes in
      let bytes = shown f old.«data» pieces in_.0 makes in
      λ i. kind.File (record { kept = with_physical_length DataFork (physical_length size (n i)) old.kept; locked = old.locked; has_thread = old.has_thread; «data» = bytes i; resource = bytes_of t.base t.mdb old.resource })
  file_shown size ResFork f old pieces in_ makes =
      let n = long f old.resource pieces in_.1 makes in
      let bytes = shown f old.resource pieces in_.1 makes in
      λ i. kind.File (record { kept = with_physical_length ResFork (physical_length size (n i)) old.kept; locked = old.locked; has_thread = old.has_thread; «data» = bytes_of t.base t.mdb old.«data»; resource = bytes i })

  file_in : (fork : Fork) (n : ℕ) (f : List ℕ → List ℕ) (old : RowFile) (pieces : ForkPieces) → IsForkIn t.mdb old.«data» × IsForkIn t.mdb old.resource → Makes f (row_fork fork old).pieces pieces
      → IsForkIn t.mdb (with_physical fork n (with_pieces fork pieces old)).«data» × IsForkIn t.mdb (with_physical fork n (with_pieces fork pieces old)).resource
  file_in DataFork n f old pieces in_ makes = (still_in f old.«data» pieces in_.0 makes, in_.1)
  file_in ResFork n f old pieces in_ makes = (in_.0, still_in f old.resource pieces in_.1 makes)

  -- ---- a row's kind

  pub kind_edited : (size : ℕ) (fork : Fork) (f : List ℕ → List ℕ) (items : Items) (q : ℕ) (old new : RowKind) → IsKindOf items t.mdb q old → OfFiles (EditsFile size fork f) old new
      → kind_of t.base t.mdb new ≡ kind_with_fork size fork (f (fork_bytes fork (kind_of t.base t.mdb old))) (kind_of t.base t.mdb old)
  kind_edited size fork f items q (Folder kept children) new h same = ap (kind_of t.base t.mdb) same
  kind_edited size fork f items q (FileRow old) new h edits =
      ap (kind_of t.base t.mdb) (edits.1 ∙ ap FileRow edits.2.file_is) ∙ file_shown size fork f old edits.2.pieces h edits.2.makes

  pub file_still_in : (size : ℕ) (fork : Fork) (f : List ℕ → List ℕ) (old new : RowFile) → IsForkIn t.mdb old.«data» × IsForkIn t.mdb old.resource → EditsFile size fork f old new → IsForkIn t.mdb new.«data» × IsForkIn t.mdb new.resource
  file_still_in size fork f old new in_ edits =
      subst (λ (file : RowFile). IsForkIn t.mdb file.«data» × IsForkIn t.mdb file.resource) (sym edits.file_is)
      (file_in fork (physical_length size (fork_length edits.pieces)) f old edits.pieces in_ edits.makes)

  -- ---- a file that keeps its forks

  file_kept : (fork : Fork) (old : RowFile) (pieces : ForkPieces) → IsForkIn t.mdb old.«data» × IsForkIn t.mdb old.resource → Keeps (row_fork fork old).pieces pieces → file_of t.base t.mdb (with_pieces fork pieces old) ≡ file_of t.base t.mdb old
  file_kept DataFork old pieces in_ keeps =
      let bytes = shown (λ bytes. bytes) old.«data» pieces in_.0 keeps in
      λ i. record { kept = old.kept; locked = old.locked; has_thread = old.has_thread; «data» = bytes i; resource = bytes_of t.base t.mdb old.resource }
  file_kept ResFork old pieces in_ keeps =
      let bytes = shown (λ bytes. bytes) old.resource pieces in_.1 keeps in
      λ i. record { kept = old.kept; locked = old.locked; has_thread = old.has_thread; «data» = bytes_of t.base t.mdb old.«data»; resource = bytes i }

  kept_in : (fork : Fork) (old : RowFile) (pieces : ForkPieces) → IsForkIn t.mdb old.«data» × IsForkIn t.mdb old.resource → Keeps (row_fork fork old).pieces pieces → IsForkIn t.mdb (with_pieces fork pieces old).«data» × IsForkIn t.mdb (with_pieces fork pieces old).resource
  kept_in DataFork old pieces in_ keeps = (still_in (λ bytes. bytes) old.«data» pieces in_.0 keeps, in_.1)
  kept_in ResFork old pieces in_ keeps = (in_.0, still_in (λ bytes. bytes) old.resource pieces in_.1 keeps)

  pub file_same : (fork : Fork) (old new : RowFile) → IsForkIn t.mdb old.«data» × IsForkIn t.mdb old.resource → KeepsFile fork old new → file_of t.base t.mdb new ≡ file_of t.base t.mdb old
  file_same fork old new in_ keeps = ap (file_of t.base t.mdb) keeps.file_is ∙ file_kept fork old keeps.pieces in_ keeps.keeps

  pub file_same_in : (fork : Fork) (old new : RowFile) → IsForkIn t.mdb old.«data» × IsForkIn t.mdb old.resource → KeepsFile fork old new → IsForkIn t.mdb new.«data» × IsForkIn t.mdb new.resource
  file_same_in fork old new in_ keeps = subst (λ (file : RowFile). IsForkIn t.mdb file.«data» × IsForkIn t.mdb file.resource) (sym keeps.file_is) (kept_in fork old keeps.pieces in_ keeps.keeps)

-- ---- rows

-- the row of that ID became f of what it was
pub as_written : (P : Row → Row → Type 0) (id : ℕ) (m n : tree.BTreeMap ℕ Row) (edits : EditsRows P id m n) (r : Row) (at : tree.get nat_cmp m id ≡ Some r) (f : Row → Row) → (edits.here r at).0 ≡ f r → Writes f id m n
as_written P id m n edits r at f is = record {
  sorted = edits.sorted;
  writes = λ q. ⊎_elim
      (λ (here : id ≡ q).
      ap (tree.get nat_cmp n) (sym here) ∙ (edits.here r at).1 ∙ ap Some is
      ∙ sym (ap (λ (b : Bool). cond b (option_map f (tree.get nat_cmp m q)) (tree.get nat_cmp m q)) (eq-eqb id q here) ∙ ap (option_map f) (ap (tree.get nat_cmp m) (sym here) ∙ at)))
      (λ (other : id ≡ q → ⊥).
      edits.others q other
      ∙ sym (ap (λ (b : Bool). cond b (option_map f (tree.get nat_cmp m q)) (tree.get nat_cmp m q)) (ne_eqb id q other)))
      (cases_eq id q);
}

-- the row of an item that is there
pub row_of : (t : Table) (is : IsTable t) (id : ℕ) (i : Item) → Has (items_of t) id i → (r : Row) × (tree.get nat_cmp t.by_id id ≡ Some r) × (item_of t.base t.mdb r ≡ i)
row_of t is id i has = by (tree.get nat_cmp t.by_id id) refl
  where
    by : (o : Option Row) → tree.get nat_cmp t.by_id id ≡ o → (r : Row) × (tree.get nat_cmp t.by_id id ≡ Some r) × (item_of t.base t.mdb r ≡ i)
    by None e = absurd (none_is_some None i refl (sym (ap (option_map (item_of t.base t.mdb)) e) ∙ sym (get_of t is id) ∙ has))
    by (Some r) e = (r, e, same_some (item_of t.base t.mdb r) i (sym (ap (option_map (item_of t.base t.mdb)) e) ∙ sym (get_of t is id) ∙ has))

-- a chosen item was made g of it, and g makes of it what h makes
made_alike : (v : Volume) (chosen : Result Entry ℤ) (e : Entry) (g h : Item → Item) (now : ℕ) → chosen ≡ Ok e → g e.1 ≡ h e.1
    → (change v chosen (λ e m. map.insert m e.0 (g e.1)) now).0 ≡ (change v chosen (λ e m. map.insert m e.0 (h e.1)) now).0
made_alike v chosen e g h now is same =
    ap (λ (c : Result Entry ℤ). (change v c (λ e m. map.insert m e.0 (g e.1)) now).0) is
    ∙ ap (λ (i : Item). record v { items = map.insert v.items e.0 i; changed = now }) same
    ∙ sym (ap (λ (c : Result Entry ℤ). (change v c (λ e m. map.insert m e.0 (h e.1)) now).0) is)

-- the table whose row was edited is that of the volume in which the item's fork was made so
module _ (t : Table) (is : IsTable t) (n : tree.BTreeMap ℕ Row) (size : ℕ) (fork : Fork) (f : List ℕ → List ℕ) (chosen : Result Entry ℤ) (res : Result Found ℤ) (found : Found) (now : ℕ)
    (choice : chosen ≡ chosen_of t res) (ok : res ≡ Ok found) (has : IsFound t found) (edits : EditsRows (EditsRow (EditsFile size fork f) now) found.id t.by_id n) where
  abbrev item : Item
  item = item_of t.base t.mdb found.row.now

  abbrev made : Item → Item
  made i = item_with_fork size fork (f (fork_bytes fork i.kind)) now i

  abbrev after_g : (Item → Item) → Volume
  after_g g = (change (volume_of t) chosen (λ e m. map.insert m e.0 (g e.1)) now).0

  finish : (g : Item → Item) → g item ≡ made item → Leaves (record t { by_id = n; changed = now }) (after_g g) → Leaves (record t { by_id = n; changed = now }) (after_g made)
  finish g same left = record { table = left.table; volume = left.volume ∙ made_alike (volume_of t) chosen (found.id, item) g made now (choice ∙ ap (chosen_of t) ok) same }

  of_row : (r s : Row) (at : tree.get nat_cmp t.by_id found.id ≡ Some r) → (edits.here r at).0 ≡ s → item_of t.base t.mdb r ≡ item → EditsRow (EditsFile size fork f) now r s → (k : RowKind) → r.kind ≡ k → Leaves (record t { by_id = n; changed = now }) (after_g made)
  of_row r s at is_s item_is edit (Folder kept children) kind_is =
      let stays : s.kind ≡ Folder kept children = subst (λ (k : RowKind). OfFiles (EditsFile size fork f) k s.kind) kind_is edit.kind_is in
      let row_is : s ≡ record r { modified = now } = edit.row_is ∙ ap (λ (k : RowKind). record r { modified = now; kind = k }) (stays ∙ sym kind_is) in
      let folder : item.kind ≡ kind.Folder kept = sym (ap (λ (i : Item). i.kind) item_is) ∙ ap (kind_of t.base t.mdb) kind_is in
      let same : record item { modified = now } ≡ made item =
      ap (λ (k : Kind). record item { modified = now; kind = k }) folder
      ∙ sym (ap (λ (k : Kind). record item { modified = now; kind = kind_with_fork size fork (f (fork_bytes fork k)) k }) folder) in
      finish (λ i. record i { modified = now }) same
      (written t is n (λ x. record x { modified = now }) (λ i. record i { modified = now }) chosen res found now choice ok has
      (as_written (EditsRow (EditsFile size fork f) now) found.id t.by_id n edits r at (λ x. record x { modified = now }) (is_s ∙ row_is)) (λ x. refl) (λ i. refl) (λ i. refl) (λ items q x h. h))
  of_row r s at is_s item_is edit (FileRow old) kind_is =
      let forks = subst (IsKindOf (items_of t) t.mdb found.id) kind_is (is.rows found.id r at) in
      let file = subst (λ (k : RowKind). OfFiles (EditsFile size fork f) k s.kind) kind_is edit.kind_is in
      let new : RowKind = FileRow file.0 in
      let row_is : s ≡ record r { modified = now; kind = FileRow file.0 } = edit.row_is ∙ ap (λ (k : RowKind). record r { modified = now; kind = k }) file.1 in
      let was : kind_of t.base t.mdb (FileRow old) ≡ item.kind = sym (ap (kind_of t.base t.mdb) kind_is) ∙ ap (λ (i : Item). i.kind) item_is in
      let becomes = kind_edited t is size fork f (items_of t) found.id (FileRow old) (FileRow file.0) forks (file.0, refl, file.2) in
      let same : record item { modified = now; kind = kind_of t.base t.mdb (FileRow file.0) } ≡ made item =
      ap (λ (k : Kind). record item { modified = now; kind = k }) (becomes ∙ ap (λ (k : Kind). kind_with_fork size fork (f (fork_bytes fork k)) k) was) in
      finish (λ i. record i { modified = now; kind = kind_of t.base t.mdb (FileRow file.0) }) same
      (written t is n (λ x. record x { modified = now; kind = FileRow file.0 }) (λ i. record i { modified = now; kind = kind_of t.base t.mdb (FileRow file.0) }) chosen res found now choice ok has
      (as_written (EditsRow (EditsFile size fork f) now) found.id t.by_id n edits r at (λ x. record x { modified = now; kind = FileRow file.0 }) (is_s ∙ row_is)) (λ x. refl) (λ i. refl) (λ i. refl)
      (λ items q x h. file_still_in t is size fork f old file.0 forks file.2))

  pub edited : Leaves (record t { by_id = n; changed = now }) (change (volume_of t) chosen (λ e m. map.insert m e.0 (item_with_fork size fork (f (fork_bytes fork e.1.kind)) now e.1)) now).0
  edited =
      let row = row_of t is found.id item has in
      of_row row.0 (edits.here row.0 row.1).0 row.1 refl row.2 (edits.here row.0 row.1).2 row.0.kind refl

-- the item that is there already
insert_same : (m : Items) (id : ℕ) (i : Item) → Has m id i → map.insert m id i ≡ m
insert_same m id i has = map.same_map nat_cmp_total map.nat_cmp-IsAntisymmetric _ _ (λ q. ⊎_elim
    (λ (here : id ≡ q).
    map.get-insert nat_cmp_total m id i q
    ∙ ap (λ b. cond b (Some i) (map.get m q)) (sym (unsigned_ties q id) ∙ eq-eqb q id (sym here))
    ∙ sym has ∙ ap (map.get m) here)
    (λ (other : id ≡ q → ⊥).
    map.get-insert nat_cmp_total m id i q
    ∙ ap (λ b. cond b (Some i) (map.get m q)) (sym (unsigned_ties q id) ∙ ne_eqb q id (λ (e : q ≡ id). other (sym e))))
    (cases_eq id q))

-- the table whose row's fork shows what it showed is that of the same volume
module _ (t : Table) (is : IsTable t) (n : tree.BTreeMap ℕ Row) (fork : Fork) (id : ℕ) (item : Item) (has : Has (items_of t) id item) (edits : EditsRows (λ r s. EditsRow (KeepsFile fork) r.modified r s) id t.by_id n) where
  abbrev K : Row → Row → Type 0
  K r s = EditsRow (KeepsFile fork) r.modified r s

  left : (f : Row → Row) (g : Item → Item) → Writes f id t.by_id n → ((r : Row) → item_of t.base t.mdb (f r) ≡ g (item_of t.base t.mdb r)) → ((i : Item) → (g i).parent ≡ i.parent) → ((i : Item) → (g i).name ≡ i.name)
      → ((items : Items) (q : ℕ) (r : Row) → IsKindOf items t.mdb q r.kind → IsKindOf items t.mdb q (f r).kind) → g item ≡ item → Leaves (record t { by_id = n }) (volume_of t)
  left f g writes shows parent name shape same =
      let items : items_of (record t { by_id = n }) ≡ items_of t = items_written t is n f g id writes shows parent name item has ∙ ap (map.insert (items_of t) id) same ∙ insert_same (items_of t) id item has in
      let v : Volume = volume_of t in
      record {
        table = table_written t is n f g id writes shows parent name item has shape;
        volume = λ k. record v { items = items k };
      }

  kept_row : (r s : Row) (at : tree.get nat_cmp t.by_id id ≡ Some r) → (edits.here r at).0 ≡ s → item_of t.base t.mdb r ≡ item → EditsRow (KeepsFile fork) r.modified r s → (k : RowKind) → r.kind ≡ k → Leaves (record t { by_id = n }) (volume_of t)
  kept_row r s at is_s item_is edit (Folder kept children) kind_is =
      let stays : s.kind ≡ Folder kept children = subst (λ (k : RowKind). OfFiles (KeepsFile fork) k s.kind) kind_is edit.kind_is in
      let row_is : s ≡ r = edit.row_is ∙ ap (λ (k : RowKind). record r { kind = k }) (stays ∙ sym kind_is) in
      left (λ x. x) (λ i. i) (as_written K id t.by_id n edits r at (λ x. x) (is_s ∙ row_is)) (λ x. refl) (λ i. refl) (λ i. refl) (λ items q x h. h) refl
  kept_row r s at is_s item_is edit (FileRow old) kind_is =
      let forks = subst (IsKindOf (items_of t) t.mdb id) kind_is (is.rows id r at) in
      let file = subst (λ (k : RowKind). OfFiles (KeepsFile fork) k s.kind) kind_is edit.kind_is in
      let row_is : s ≡ record r { kind = FileRow file.0 } = edit.row_is ∙ ap (λ (k : RowKind). record r { kind = k }) file.1 in
      let was : kind_of t.base t.mdb (FileRow old) ≡ item.kind = sym (ap (kind_of t.base t.mdb) kind_is) ∙ ap (λ (i : Item). i.kind) item_is in
      let same : kind_of t.base t.mdb (FileRow file.0) ≡ item.kind = ap kind.File (file_same t is fork old file.0 forks file.2) ∙ was in
      left (λ x. record x { kind = FileRow file.0 }) (λ i. record i { kind = kind_of t.base t.mdb (FileRow file.0) }) (as_written K id t.by_id n edits r at (λ x. record x { kind = FileRow file.0 }) (is_s ∙ row_is))
      (λ x. refl) (λ i. refl) (λ i. refl) (λ items q x h. file_same_in t is fork old file.0 forks file.2) (ap (λ (k : Kind). record item { kind = k }) same)

  pub kept : Leaves (record t { by_id = n }) (volume_of t)
  kept =
      let row = row_of t is id item has in
      kept_row row.0 (edits.here row.0 row.1).0 row.1 refl row.2 (edits.here row.0 row.1).2 row.0.kind refl

-- ---- what an edit asks for

-- each fork of a table is one of pieces
pub may_set : (t : Table) (is : IsTable t) (fork : Fork) (count id : ℕ) (r : Row) → tree.get nat_cmp t.by_id id ≡ Some r → MayEditRow fork (SetLength count) r
may_set t is fork count id r at = by fork r.kind (is.rows id r at)
  where
    by : (fork : Fork) (k : RowKind) → IsKindOf (items_of t) t.mdb id k → OfFile (λ file. ArePieces (row_fork fork file).pieces × MayEdit (SetLength count) (row_fork fork file).pieces) k
    by fork (Folder kept children) h = tt
    by DataFork (FileRow f) h = (h.0.pieces, tt)
    by ResFork (FileRow f) h = (h.1.pieces, tt)

-- the row of the item that was found has a fork of that length
pub may_write : (t : Table) (is : IsTable t) (fork : Fork) (offset : ℕ) (bytes : Bor (List ℕ)) (found : Found) → IsFound t found → MayWrite t fork offset bytes.now found → (r : Row) → tree.get nat_cmp t.by_id found.id ≡ Some r → MayEditRow fork (Write offset bytes) r
may_write t is fork offset bytes found has may r at = by fork r.kind same (is.rows found.id r at) may.within
  where
    same : kind_of t.base t.mdb found.row.now.kind ≡ kind_of t.base t.mdb r.kind
    same = ap (λ (i : Item). i.kind) (same_some (item_of t.base t.mdb found.row.now) (item_of t.base t.mdb r) (sym has ∙ get_of t is found.id ∙ ap (option_map (item_of t.base t.mdb)) at))

    by : (fork : Fork) (k : RowKind) → kind_of t.base t.mdb found.row.now.kind ≡ kind_of t.base t.mdb k → IsKindOf (items_of t) t.mdb found.id k → offset ≤ length (fork_bytes fork (kind_of t.base t.mdb found.row.now.kind))
        → OfFile (λ file. ArePieces (row_fork fork file).pieces × MayEdit (Write offset bytes) (row_fork fork file).pieces) k
    by fork (Folder kept children) e h within = tt
    by DataFork (FileRow f) e h within =
        let long = size_is t is f.«data» h.0 in
        let there = subst (λ (k : Kind). offset ≤ length (fork_bytes DataFork k)) e within in
        (h.0.pieces, (omega (arith, there, long), may.small))
    by ResFork (FileRow f) e h within =
        let long = size_is t is f.resource h.1 in
        let there = subst (λ (k : Kind). offset ≤ length (fork_bytes ResFork k)) e within in
        (h.1.pieces, (omega (arith, there, long), may.small))
